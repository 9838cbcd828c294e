use Rattle.std.proofs.Common.{sym, ap, ◌∙◌, subst}
use Rattle.serde_json.specs.View.{view}
use Rattle.aas_reference.specs.Rules.{first}
use Rattle.aas_constraint_laws.specs.Law.{local_faults}
use Rattle.aas_model.specs.declared.element.Element.{Element}
use Rattle.aas_model.specs.declared.patch.Patch.{Patch}
use Rattle.aas_path_trees.specs.Patched.{patched}
use Rattle.aas_value_patch.specs.Prepared.{IsValueFault}
use Rattle.aas_value_patch.proofs.Faultless.{no_first, broken}
use Rattle.aas_value_patch.proofs.preparing.prepare.Goals as goal

pub returns-in-None-clause-faultless : goal.returns-in-None-clause-faultless
returns-in-None-clause-faultless c =
    no_first (local_faults (patched c.in_ok-patch.patch.rows c.args.element.now 0).0)
    (sym c.in-None.is ∙ c.in_ok-local_fault.ensures
    ∙ ap (λ (e : Element). first (local_faults e)) (c.apply.ensures
    ∙ ap (λ (p : Patch). (patched p.rows c.args.element.now 0).0) c.in_ok-copy.ensures))

pub returns-in-Some-clause-fault : goal.returns-in-Some-clause-fault
returns-in-Some-clause-fault c =
    let u = (patched c.in_ok-patch.patch.rows c.args.element.now 0).0 in
    subst (IsValueFault c.args.element.now (view c.args.value.now)) (sym c.fault_by.ensures)
    (broken c.args.element.now u (view c.args.value.now) c.in-Some.fault c.in_ok-patch.ensures.update
    (sym c.in-Some.is ∙ c.in_ok-local_fault.ensures
    ∙ ap (λ (e : Element). first (local_faults e)) (c.apply.ensures
    ∙ ap (λ (p : Patch). (patched p.rows c.args.element.now 0).0) c.in_ok-copy.ensures)))
