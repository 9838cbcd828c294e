use Rattle.std.proofs.Common.{◌≡◌, take}
use Rattle.aas_serialization.specs.Chosen.{set_of}
use Rattle.aas_serialization.proofs.choice.set_of.Given as goal

abbrev pub invariant-loop-id : goal.invariant-loop-id
invariant-loop-id l = l.set ≡ set_of (take l.id-index l.id-items)
