use Rattle.std.specs.Prelude.{◌≢◌}
use Rattle.aas_command.specs.declared.command.Command.TheVariants.{UpdateValue}
use Rattle.aas_command.specs.declared.refusal.Refusal.TheVariants.{NoMemory}
use Rattle.aas_value_update.specs.Update.{body}
use Rattle.aas_repo_values.specs.Patches.{IsRefused}
use Rattle.aas_repo_values.proofs.Updated.{body_stored, handed_on, refused_at, submodel_patch}
use Rattle.aas_repo_values.proofs.updating.patch_for_submodel.Goals as goal

pub returns-in_err-submodel-clause-refusal : goal.returns-in_err-submodel-clause-refusal
returns-in_err-submodel-clause-refusal g c =
    let d = g.S.Store.documents c.args.store.now in
    handed_on c.from_residual.result _ (λ r.
    r ≢ NoMemory → IsRefused d (UpdateValue c.args.id.now c.args.path.now c.args.value.now) r)
    c.from_residual.ensures (λ other. c.in_err-submodel.ensures.lost other c.args.path.now c.args.value.now)

pub prepare_submodel-requires-clause-in_order : goal.prepare_submodel-requires-clause-in_order
prepare_submodel-requires-clause-in_order g c =
    let d = g.S.Store.documents c.args.store.now in
    let s = c.in_ok-submodel.submodel in
    (body_stored d c.args.id.now c.args.path.now.steps s c.requires.valid
    c.requires.no_steps c.in_ok-submodel.ensures.found).order

pub returns-in-Ok-clause-patch : goal.returns-in-Ok-clause-patch
returns-in-Ok-clause-patch g c =
    let d = g.S.Store.documents c.args.store.now in
    submodel_patch d c.args.id.now c.args.path.now.steps c.args.value.now
    _ c.in_ok-submodel.submodel _ c.requires.valid c.requires.ordered
    c.requires.no_steps c.in_ok-submodel.ensures.found c.as_value.ensures
    c.in-Ok.ensures.fits c.in-Ok.ensures.update c.in-Ok.ensures.faultless

pub returns-in-Err-clause-refusal : goal.returns-in-Err-clause-refusal
returns-in-Err-clause-refusal g c = λ other.
    let d = g.S.Store.documents c.args.store.now in
    let s = c.in_ok-submodel.submodel in
    let stored = body_stored d c.args.id.now c.args.path.now.steps
    s c.requires.valid c.requires.no_steps c.in_ok-submodel.ensures.found in
    refused_at d c.args.id.now c.args.path.now c.args.value.now _
    (body s) _ _ stored c.in-Err.ensures.fault c.as_value.ensures
    c.refusal_behind.ensures other
