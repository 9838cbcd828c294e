use Rattle.std.proofs.Common.{◌≡◌, [], ◌∷◌, Some, None, true, ◌∙◌, sym, ap}
use Rattle.aas_constraint_rules.specs.Sites.{step_to}
use Rattle.aas_constraint_rules.specs.Faults.{fault}
use Rattle.aas_constraint_rules.specs.Sites.{own_of}
use Rattle.aas_constraints.specs.declared.place.Scope.TheVariants.{Everything}
use Rattle.aas_constraints.specs.Walk.{found_in}
use Rattle.aas_constraints.proofs.Walks.{alone, nothing_before, found_child, none_in_child}
use Rattle.aas_constraints.proofs.check.check_element.Goals as goal

pub returns-in_ok-insert-in-Some : goal.returns-in_ok-insert-in-Some
returns-in_ok-insert-in-Some c =
    let e = c.args.e.now in
    let found : Some c.in-Some.fault ≡ found_in Everything true None [] e = sym c.in-Some.is ∙ c.in_ok-fault.ensures [] (nothing_before e) in
    ap (λ p. Some (fault p c.in-Some.fault.number)) (c.in_ok-insert-in-Some.ensures.ok ∙ ap (λ s. s ∷ c.in-Some.fault.path.steps) c.in_ok-step_to-in-Some.ensures)
    ∙ found_child _ _ _ (step_to None 0 (own_of e)) c.in-Some.fault (alone e) found

pub returns-in-None : goal.returns-in-None
returns-in-None c = let e = c.args.e.now in sym (none_in_child _ _ _ (step_to None 0 (own_of e)) (alone e) (sym c.in-None.is ∙ c.in_ok-fault.ensures [] (nothing_before e)))
