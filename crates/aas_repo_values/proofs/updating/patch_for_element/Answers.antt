use Rattle.aas_repo_values.proofs.Updated.{element_patch, element_stored, refused_at, row_borne}
use Rattle.aas_repo_values.proofs.updating.patch_for_element.Goals as goal

pub returns-in-Ok-clause-patch : goal.returns-in-Ok-clause-patch
returns-in-Ok-clause-patch g c =
    let d = g.S.Store.documents c.args.store.now in
    let borne = row_borne d c.args.id.now c.args.path.now.steps c.args.row c.requires.valid c.requires.found in
    let is = c.in-Ok.ensures.patch borne.element borne.bears in
    element_patch d c.args.id.now c.args.path.now.steps c.args.value.now
    _ borne.element _ c.requires.valid c.requires.ordered
    borne.found c.as_value.ensures is.fits is.update is.faultless

pub returns-in-Err-clause-refusal : goal.returns-in-Err-clause-refusal
returns-in-Err-clause-refusal g c = λ other.
    let d = g.S.Store.documents c.args.store.now in
    let borne = row_borne d c.args.id.now c.args.path.now.steps c.args.row c.requires.valid c.requires.found in
    refused_at d c.args.id.now c.args.path.now c.args.value.now _ borne.element _ _
    (element_stored d c.args.id.now c.args.path.now.steps borne.element c.requires.valid borne.found)
    (c.in-Err.ensures.fault borne.element borne.bears)
    c.as_value.ensures c.refusal_behind.ensures other
