use Rattle.std.proofs.Common.{sym, ap, ◌∙◌, subst}
use Rattle.serde_json.specs.View.{view}
use Rattle.aas_reference.specs.Rules.{first}
use Rattle.aas_constraint_laws.specs.Law.{local_faults}
use Rattle.aas_model.specs.declared.documents.Submodel.{Submodel}
use Rattle.aas_model.specs.declared.element.Element.{Element}
use Rattle.aas_path_trees.specs.Patched.{patched_submodel}
use Rattle.aas_value_update.specs.Update.{body}
use Rattle.aas_value_patch.specs.Prepared.{IsSubmodelFault}
use Rattle.aas_value_patch.proofs.Faultless.{no_first, submodel_broken, submodel_unfit_at, submodel_valid}
use Rattle.aas_value_patch.proofs.preparing.prepare_submodel.Goals as goal

pub returns-in_err-patch-clause-first_fault : goal.returns-in_err-patch-clause-first_fault
returns-in_err-patch-clause-first_fault c = λ valid.
    submodel_unfit_at c.from_residual.result c.in_err-patch.field-0.0 c.args.submodel
    (view c.args.value.now) c.from_residual.ensures.0
    c.from_residual.ensures.1 c.in_err-patch.ensures.fault

pub returns-in-None-clause-valid : goal.returns-in-None-clause-valid
returns-in-None-clause-valid c = λ valid.
    let u = patched_submodel c.in_ok-patch.patch.rows c.args.submodel in
    submodel_valid c.args.submodel u (view c.args.value.now) c.requires.ordered c.in_ok-patch.ensures.update
    (no_first (local_faults (body u))
    (sym c.in-None.is ∙ c.in_ok-first_fault.ensures
    ∙ ap (λ (e : Element). first (local_faults e))
    (c.into_body.ensures ∙ ap (λ (s : Submodel). body s) c.in_ok-updated.ensures)))
    valid

pub returns-in-Some-clause-first_fault : goal.returns-in-Some-clause-first_fault
returns-in-Some-clause-first_fault c = λ valid.
    let d = c.args.submodel in
    let u = patched_submodel c.in_ok-patch.patch.rows d in
    subst (IsSubmodelFault d (view c.args.value.now)) (sym c.fault_by.ensures)
    (submodel_broken d u (view c.args.value.now) c.in-Some.fault valid c.in_ok-patch.ensures.update
    (sym c.in-Some.is ∙ c.in_ok-first_fault.ensures
    ∙ ap (λ (e : Element). first (local_faults e))
    (c.into_body.ensures ∙ ap (λ (s : Submodel). body s) c.in_ok-updated.ensures)))
