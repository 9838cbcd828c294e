use Rattle.std.proofs.Common.{◌≡◌, map, drop}
use Rattle.serde_json.specs.View.{items_view}
use Rattle.aas_json_table.specs.Table.{one}
use Rattle.aas_json_table.specs.Canonical.{canonical_items}
use Rattle.aas_json_table.specs.Spelled.{onto}
use Rattle.aas_json_members.proofs.parts.list_in.Given as goal

-- what was found, before what the items that are left say, is what all items say
abbrev pub invariant-loop-item : goal.invariant-loop-item
invariant-loop-item g l =
    onto (map g.P.Part.spell l.found) (canonical_items (items_view (drop l.item-index l.item-items)) (one g.P.Part.sort)) ≡ canonical_items (items_view l.item-items) (one g.P.Part.sort)
