use Rattle.std.proofs.Common.{◌≡◌, not, filter, take}
use Rattle.aas_step.specs.Causes.{refers_to}
use Rattle.aas_repo.proofs.references.others.Given as goal

abbrev pub invariant-loop-reference : goal.invariant-loop-reference
invariant-loop-reference l = l.kept ≡ filter (λ r. not (refers_to l.submodel r)) (take l.reference-index l.references)
