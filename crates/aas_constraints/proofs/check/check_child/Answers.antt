use Rattle.std.proofs.Common.{sym}
use Rattle.aas_constraints.specs.Walk.{found_in}
use Rattle.aas_constraints.proofs.check.check_child.Goals as goal

pub returns : goal.returns
unfolding found_in
returns c = λ b no_name lead. c.in_ok-check_in.ensures b (record { names = sym no_name; semantics = lead })
