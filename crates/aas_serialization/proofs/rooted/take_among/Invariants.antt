use Rattle.std.proofs.Common.{flat_map, take}
use Rattle.aas_serialization.specs.Taken.{TakesAlong}
use Rattle.aas_serialization.proofs.rooted.take_among.Given as goal

abbrev pub invariant-loop-item : goal.invariant-loop-item
invariant-loop-item g l = TakesAlong (g.S.Store.documents l.store) l.initial.taken l.taken (flat_map g.T.Rooted.roots (take l.item-index l.item-items))
