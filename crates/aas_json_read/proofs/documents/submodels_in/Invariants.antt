use Rattle.std.proofs.Common.{◌≡◌, map, drop}
use Rattle.serde_json.specs.View.{items_view}
use Rattle.aas_json_table.specs.Table.{one, submodel}
use Rattle.aas_json_table.specs.Canonical.{canonical_items}
use Rattle.aas_json_table.specs.Spelled.{onto}
use Rattle.aas_json_spelling.specs.Lists.{Each}
use Rattle.aas_json_mapping.specs.Documents.{spell_submodel}
use Rattle.aas_json_mapping.specs.Shape.{IsShapedSubmodel}
use Rattle.aas_json_read.proofs.documents.submodels_in.Given as goal

-- what was found, before what is left, is what all items say
abbrev pub invariant-loop-item : goal.invariant-loop-item
invariant-loop-item l = record {
  says : onto (map spell_submodel l.found) (canonical_items (items_view (drop l.item-index l.item-items)) (one submodel)) ≡ canonical_items (items_view l.item-items) (one submodel);
  shape : Each IsShapedSubmodel l.found;
}
