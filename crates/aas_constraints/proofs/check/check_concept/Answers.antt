use Rattle.std.proofs.Common.{sym, ap, Some, ◌∙◌}
use Rattle.aas_constraint_rules.specs.Attributes.{seen_of_concept}
use Rattle.aas_constraint_rules.specs.Faults.{concept_rules}
use Rattle.aas_constraints.proofs.Walks.{document_none, document_some}
use Rattle.aas_constraints.proofs.check.check_concept.Goals as goal

pub returns-in-Some : goal.returns-in-Some
returns-in-Some c = ap Some c.fault_here.ensures ∙ document_some concept_rules (seen_of_concept c.args.d.now).references c.args.d.now c.in-Some.number (sym c.in_ok-number.ensures ∙ c.in-Some.is)

pub returns-in-None : goal.returns-in-None
returns-in-None c = document_none concept_rules (seen_of_concept c.args.d.now).references c.args.d.now (sym c.in_ok-number.ensures ∙ c.in-None.is)
