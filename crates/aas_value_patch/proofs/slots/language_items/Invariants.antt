use Rattle.std.proofs.Common.{◌≡◌, map, drop}
use Rattle.serde_json.specs.View.{items_view}
use Rattle.aas_json_table.specs.Spelled.{onto}
use Rattle.aas_value.specs.Attributes.{language_value}
use Rattle.aas_value.specs.Json.{is_language, all_items}
use Rattle.aas_value_patch.proofs.slots.language_items.Given as goal

abbrev pub invariant-loop-item : goal.invariant-loop-item
invariant-loop-item l = record {
  fit : all_items is_language (items_view (drop l.item-index l.items)) ≡ all_items is_language (items_view l.items);
  taken : onto (map language_value l.texts) (items_view (drop l.item-index l.items)) ≡ items_view l.items;
}
