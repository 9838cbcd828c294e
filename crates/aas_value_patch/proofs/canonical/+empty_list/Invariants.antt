use Rattle.std.proofs.Common.{◌≡◌, drop}
use Rattle.serde_json.specs.View.{items_view, members_view}
use Rattle.aas_value.specs.Json.{some_has_empty_list, member_has_empty_list}
use Rattle.aas_value_patch.proofs.canonical.+empty_list.Given as goal

abbrev pub invariant-item_has_empty_list-loop-item : goal.invariant-item_has_empty_list-loop-item
invariant-item_has_empty_list-loop-item l =
    some_has_empty_list (items_view (drop l.item-index l.items.items)) ≡ some_has_empty_list (items_view l.items.items)

abbrev pub invariant-member_has_empty_list-loop-name : goal.invariant-member_has_empty_list-loop-name
invariant-member_has_empty_list-loop-name l =
    member_has_empty_list (members_view l._name-iterator) ≡ member_has_empty_list (members_view l.members.entries)
