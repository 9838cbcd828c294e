use Rattle.std.proofs.Common.{sym, ap, Some, None, [], ◌∙◌}
use Rattle.aas_constraints.specs.declared.place.Scope.TheVariants.{Everything}
use Rattle.aas_constraints.specs.Walk.{found_among}
use Rattle.aas_constraints.proofs.Walks.{submodel_some, submodel_below}
use Rattle.aas_constraints.proofs.check.check_submodel.Goals as goal

pub returns-in-Some : goal.returns-in-Some
returns-in-Some c = ap Some c.fault_here.ensures ∙ submodel_some c.args.d.now c.in-Some.number (sym c.in_ok-number.ensures ∙ c.in-Some.is)

pub returns-in_ok-check_among-in-None : goal.returns-in_ok-check_among-in-None
returns-in_ok-check_among-in-None c =
    c.in_ok-check_among-in-None.ensures ∙ ap (λ t. found_among Everything t None [] c.args.d.now.kids) c.is_template.ensures ∙ submodel_below c.args.d.now (sym c.in_ok-number.ensures ∙ c.in-None.is)
