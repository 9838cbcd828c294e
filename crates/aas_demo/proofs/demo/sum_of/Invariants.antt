use Rattle.std.proofs.Common.{◌≡◌, ◌≤◌, ◌*◌}
use Rattle.aas_demo.specs.Demo.{sum_of}
use Rattle.aas_demo.proofs.demo.sum_of.Given as goal

abbrev pub invariant-loop-place : goal.invariant-loop-place
invariant-loop-place l = (l.sum ≡ sum_of l.place) × (l.sum ≤ l.place * 1000)
