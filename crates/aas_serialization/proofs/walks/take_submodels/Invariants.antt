use Rattle.std.proofs.Common.{length}
use Rattle.std.specs.Option.{option_copied}
use Rattle.aas_serialization.specs.Roots.{submodel_roots_at}
use Rattle.aas_serialization.proofs.Walked.{HasTaken, left}
use Rattle.aas_serialization.proofs.walks.take_submodels.Given as goal

abbrev pub invariant-loop-id : goal.invariant-loop-id
invariant-loop-id g l = HasTaken (g.S.Store.documents l.store) (submodel_roots_at (g.S.Store.documents l.store)) l.ids l.initial.taken l.taken (option_copied l.after)

abbrev pub decreases-loop-id : goal.decreases-loop-id
decreases-loop-id g l = length (left (option_copied l.after) l.ids)
