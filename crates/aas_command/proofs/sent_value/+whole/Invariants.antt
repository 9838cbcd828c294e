use Rattle.std.proofs.Common.{drop}
use Rattle.std.specs.Prelude.{◌↔◌}
use Rattle.serde_json.specs.View.{items_view, members_view}
use Rattle.aas_json_spelling.specs.Values.{HaveWholeNumbers, MembersHaveWholeNumbers}
use Rattle.aas_command.proofs.sent_value.+whole.Given as goal

abbrev pub invariant-have_whole_numbers-loop-item : goal.invariant-have_whole_numbers-loop-item
invariant-have_whole_numbers-loop-item l =
    HaveWholeNumbers (items_view (drop l.item-index l.items.items)) ↔ HaveWholeNumbers (items_view l.items.items)

abbrev pub invariant-members_have_whole_numbers-loop-value : goal.invariant-members_have_whole_numbers-loop-value
invariant-members_have_whole_numbers-loop-value l =
    MembersHaveWholeNumbers (members_view l.value-iterator) ↔ MembersHaveWholeNumbers (members_view l.members.entries)
