use Rattle.std.proofs.Common.{◌≡◌, map, drop}
use Rattle.serde_json.specs.View.{items_view}
use Rattle.aas_json_mapping.specs.Parts.{spell_specific_asset_id}
use Rattle.aas_json_spelling.specs.Values.{AreOrdered}
use Rattle.aas_json_table.specs.Spelled.{onto}
use Rattle.aas_value.specs.Json.{is_specific_asset_id, all_items}
use Rattle.aas_value_patch.proofs.references.specific_items.Given as goal

abbrev pub invariant-loop-item : goal.invariant-loop-item
invariant-loop-item l = record {
  fit : all_items is_specific_asset_id (items_view (drop l.item-index l.items))
      ≡ all_items is_specific_asset_id (items_view l.items);
  order : AreOrdered (items_view l.items) → AreOrdered (items_view (drop l.item-index l.items));
  taken : AreOrdered (items_view l.items)
      → onto (map spell_specific_asset_id l.ids) (items_view (drop l.item-index l.items)) ≡ items_view l.items;
}
