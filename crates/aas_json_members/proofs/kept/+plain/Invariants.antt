use Rattle.std.proofs.Common.{◌≡◌, map, drop}
use Rattle.serde_json.specs.View.{items_view, members_view}
use Rattle.aas_json_table.specs.Table.{plain}
use Rattle.aas_json_table.specs.Canonical.{canonical_items, canonical_all}
use Rattle.aas_json_table.specs.Spelled.{onto}
use Rattle.aas_json_spelling.specs.Kept.{spell_plain}
use Rattle.aas_json_members.specs.Kept.{pairs_onto}
use Rattle.aas_json_members.proofs.kept.+plain.Given as goal

-- what was found, before what is left, is what all says
abbrev pub invariant-plains_in-loop-item : goal.invariant-plains_in-loop-item
invariant-plains_in-loop-item l = onto (map spell_plain l.found) (canonical_items (items_view (drop l.item-index l.item-items)) plain) ≡ canonical_items (items_view l.item-items) plain

abbrev pub invariant-pairs_in-loop-name : goal.invariant-pairs_in-loop-name
invariant-pairs_in-loop-name l = pairs_onto l.found (canonical_all (members_view l.name-iterator)) ≡ canonical_all (members_view l.members.entries)
