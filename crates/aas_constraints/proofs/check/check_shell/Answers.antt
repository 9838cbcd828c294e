use Rattle.std.proofs.Common.{sym, ap, Some, ◌∙◌}
use Rattle.aas_constraint_rules.specs.Attributes.{seen_of_shell}
use Rattle.aas_constraint_rules.specs.Faults.{shell_rules}
use Rattle.aas_constraints.proofs.Walks.{document_none, document_some}
use Rattle.aas_constraints.proofs.check.check_shell.Goals as goal

pub returns-in-Some : goal.returns-in-Some
returns-in-Some c = ap Some c.fault_here.ensures ∙ document_some shell_rules (seen_of_shell c.args.d.now).references c.args.d.now c.in-Some.number (sym c.in_ok-number.ensures ∙ c.in-Some.is)

pub returns-in-None : goal.returns-in-None
returns-in-None c = document_none shell_rules (seen_of_shell c.args.d.now).references c.args.d.now (sym c.in_ok-number.ensures ∙ c.in-None.is)
