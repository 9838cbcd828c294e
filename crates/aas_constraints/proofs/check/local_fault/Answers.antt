use Rattle.std.proofs.Common.{[]}
use Rattle.aas_constraints.specs.Walk.{found_in}
use Rattle.aas_constraints.proofs.Walks.{nothing_before}
use Rattle.aas_constraints.proofs.check.local_fault.Goals as goal

pub returns : goal.returns
unfolding found_in
returns c = c.in_ok-check_in.ensures [] (nothing_before c.args.element.now)
