use Rattle.std.specs.Prelude.{◌≢◌}
use Rattle.aas_command.specs.declared.command.Command.TheVariants.{UpdateValue}
use Rattle.aas_command.specs.declared.refusal.Refusal.TheVariants.{NoMemory}
use Rattle.aas_repo_values.specs.Patches.{IsRefused}
use Rattle.aas_repo_values.proofs.Updated.{element_patch, element_stored, handed_on, refused_at}
use Rattle.aas_repo_values.proofs.updating.patch_for_parent.Goals as goal

pub returns-in_err-element-clause-refusal : goal.returns-in_err-element-clause-refusal
returns-in_err-element-clause-refusal g c =
    let d = g.S.Store.documents c.args.store.now in
    handed_on c.from_residual.result _ (λ r.
    r ≢ NoMemory → IsRefused d (UpdateValue c.args.id.now c.args.path.now c.args.value.now) r)
    c.from_residual.ensures (λ other. c.in_err-element.ensures.lost other c.args.value.now)

pub prepare-prepared-requires-clause-in_order : goal.prepare-prepared-requires-clause-in_order
prepare-prepared-requires-clause-in_order g c =
    let d = g.S.Store.documents c.args.store.now in
    (element_stored d c.args.id.now c.args.path.now.steps
    c.in_ok-element.element c.requires.valid c.in_ok-element.ensures.found).order

pub returns-in-Ok-clause-patch : goal.returns-in-Ok-clause-patch
returns-in-Ok-clause-patch g c =
    let d = g.S.Store.documents c.args.store.now in
    element_patch d c.args.id.now c.args.path.now.steps c.args.value.now
    _ c.in_ok-element.element _ c.requires.valid c.requires.ordered
    c.in_ok-element.ensures.found c.as_value.ensures
    c.in-Ok.ensures.fits c.in-Ok.ensures.update c.in-Ok.ensures.faultless

pub returns-in-Err-clause-refusal : goal.returns-in-Err-clause-refusal
returns-in-Err-clause-refusal g c = λ other.
    let d = g.S.Store.documents c.args.store.now in
    let e = c.in_ok-element.element in
    refused_at d c.args.id.now c.args.path.now c.args.value.now _ e _ _
    (element_stored d c.args.id.now c.args.path.now.steps e c.requires.valid c.in_ok-element.ensures.found)
    c.in-Err.ensures.fault c.as_value.ensures
    c.refusal_behind.ensures other
