use Rattle.std.proofs.Common.{take}
use Rattle.aas_serialization.specs.Taken.{TakesAlong}
use Rattle.aas_serialization.proofs.rooted.take_list.Given as goal

abbrev pub invariant-loop-reference : goal.invariant-loop-reference
invariant-loop-reference g l = TakesAlong (g.S.Store.documents l.store) l.initial.taken l.taken (take l.reference-index l.reference-items)
