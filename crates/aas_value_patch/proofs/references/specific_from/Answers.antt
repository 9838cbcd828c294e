use Rattle.std.proofs.Common.{sym, ◌∙◌}
use Rattle.serde_json.specs.View.{view}
use Rattle.aas_json_mapping.specs.Trees.{specific_asset_ids}
use Rattle.aas_value_patch.proofs.Parts.{part_taken}
use Rattle.aas_value_patch.proofs.references.specific_from.Goals as goal

pub returns-in-Ok-clause-taken : goal.returns-in-Ok-clause-taken
returns-in-Ok-clause-taken c =
    part_taken specific_asset_ids (view c.args.value.now) c.in-Ok.specific c.in-Ok.ensures.reads
    (sym c.has_empty_list.ensures ∙ c.if-has_empty_list.false)
