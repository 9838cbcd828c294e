use Rattle.std.proofs.Common.{subst}
use Rattle.aas_api.specs.declared.ask.Metadata.TheVariants as metadata
use Rattle.aas_api_service.specs.WellFormed.{IsWellFormedMetadata}
use Rattle.aas_api_service.proofs.WellDescribed.{if_described}
use Rattle.aas_api_service.proofs.describing.metadata_command.Goals as goal

pub returns-in-Submodel-clause-well_formed : goal.returns-in-Submodel-clause-well_formed
returns-in-Submodel-clause-well_formed g c =
    if_described c.metadata_is_put_by_well_formed_commands.ensures (g.S.Store.documents c.args.store.now)
    (metadata.Submodel c.in-Submodel.form) c.described_submodel.result
    c.requires.valid (subst IsWellFormedMetadata c.in-Submodel.is c.requires.well_formed) c.described_submodel.ensures

pub returns-in-Element-clause-well_formed : goal.returns-in-Element-clause-well_formed
returns-in-Element-clause-well_formed g c =
    if_described c.metadata_is_put_by_well_formed_commands.ensures (g.S.Store.documents c.args.store.now)
    (metadata.Element c.in-Element.submodel c.in-Element.path c.in-Element.form) c.described_element.result
    c.requires.valid
    (subst IsWellFormedMetadata c.in-Element.is c.requires.well_formed) c.described_element.ensures
