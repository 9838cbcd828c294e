use Rattle.serde_json.specs.View.{view, members_view}
use Rattle.aas_json_mapping.specs.Parts.{spell_specific_asset_id}
use Rattle.aas_value.specs.Attributes.{array_of}
use Rattle.aas_value_patch.proofs.Ordered.{under_taken}
use Rattle.aas_value_patch.proofs.references.specifics_under.Goals as goal

pub returns-in-Some-clause-taken : goal.returns-in-Some-clause-taken
returns-in-Some-clause-taken c =
    under_taken (array_of spell_specific_asset_id) c.args.name.now
    (members_view c.args.members.now.entries) (view c.in-Some.value.now)
    (array_of spell_specific_asset_id c.args.old.now) c.specifics_from.result c.in-Some.ensures
    c.specifics_from.ensures.taken
