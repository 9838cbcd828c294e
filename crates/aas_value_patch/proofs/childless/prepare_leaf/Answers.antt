use Rattle.std.proofs.Common.{ap, sym, ◌∙◌, subst}
use Rattle.serde_json.specs.View.{view}
use Rattle.aas_lemmas.proofs.Truth.{None-from_is_some}
use Rattle.aas_constraint_rules.specs.Faults.{fault}
use Rattle.aas_model.specs.Payload.{kind_of}
use Rattle.aas_model.specs.declared.path.Path.{Path}
use Rattle.aas_model_names.specs.declared.modifiers.Extent.TheVariants as extent
use Rattle.aas_value.specs.ValueForm.{value_form}
use Rattle.aas_value_patch.specs.Prepared.{IsValueFault}
use Rattle.aas_value_patch.proofs.OneRow.{broken_by, handed_on, prepared}
use Rattle.aas_value_patch.proofs.childless.prepare_leaf.Goals as goal

pub returns-then-not-has_value_form-clause-fault : goal.returns-then-not-has_value_form-clause-fault
returns-then-not-has_value_form-clause-fault c = λ e bears.
    None-from_is_some (value_form extent.WithBlobValue e)
    (c.has_value_form.ensures extent.WithBlobValue e (ap kind_of bears.payload ∙ sym c.kind.ensures)
    ∙ c.if-not-has_value_form.true)

pub returns-in_err-patch-clause-fault : goal.returns-in_err-patch-clause-fault
returns-in_err-patch-clause-fault c =
    handed_on c.from_residual.result c.args.payload.now
    (view c.args.value.now) c.in_err-patch.field-0.0 c.from_residual.ensures c.in_err-patch.ensures.fault
    (λ e bears. c.has_value_form.ensures extent.WithBlobValue e (ap kind_of bears.payload ∙ sym c.kind.ensures)
    ∙ c.if-not-has_value_form.false)

pub returns-in-None-clause-patch : goal.returns-in-None-clause-patch
returns-in-None-clause-patch c = λ e bears.
    let laid = c.in_ok-patch.ensures.patch in
    prepared e c.args.payload.now (view c.args.value.now) c.in_ok-patch.patch.rows bears c.requires.leaf
    (c.has_value_form.ensures extent.WithBlobValue e (ap kind_of bears.payload ∙ sym c.kind.ensures)
    ∙ c.if-not-has_value_form.false)
    laid
    (sym (c.fault_in.ensures laid.payload laid.row) ∙ c.in-None.is)

pub returns-in-Some-clause-fault : goal.returns-in-Some-clause-fault
returns-in-Some-clause-fault c = λ e bears.
    let laid = c.in_ok-patch.ensures.patch in
    subst (IsValueFault e (view c.args.value.now)) (sym c.fault_by.ensures)
    (broken_by e c.args.payload.now (view c.args.value.now) c.in_ok-patch.patch.rows bears c.requires.leaf
    (c.has_value_form.ensures extent.WithBlobValue e (ap kind_of bears.payload ∙ sym c.kind.ensures)
    ∙ c.if-not-has_value_form.false)
    laid
    c.in-Some.number _ (ap (λ (p : Path). fault p.steps c.in-Some.number) c.here.ensures)
    (sym (c.fault_in.ensures laid.payload laid.row) ∙ c.in-Some.is))
