use Rattle.std.proofs.Common.{◌≡◌, drop}
use Rattle.serde_json.specs.View.{items_view, members_view}
use Rattle.aas_api.specs.Numbers.{broken_number_of_items, broken_number_of_members}
use Rattle.aas_api.proofs.numbers.+broken.Given as goal

abbrev pub invariant-broken_number_of_items-loop-place : goal.invariant-broken_number_of_items-loop-place
invariant-broken_number_of_items-loop-place l =
    broken_number_of_items (items_view (drop l.place l.items.items)) l.place
    ≡ broken_number_of_items (items_view l.items.items) 0

abbrev pub invariant-broken_number_of_members-loop-name : goal.invariant-broken_number_of_members-loop-name
invariant-broken_number_of_members-loop-name l =
    broken_number_of_members (members_view l.name-iterator) ≡ broken_number_of_members (members_view l.members.entries)
