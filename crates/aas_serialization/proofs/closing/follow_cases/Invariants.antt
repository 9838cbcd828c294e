use Rattle.std.proofs.Common.{List}
use Rattle.aas_model.specs.declared.reference.Reference.{Reference}
use Rattle.aas_serialization.specs.Taken.{IsClosing}
use Rattle.aas_serialization.proofs.Closings.{left}
use Rattle.aas_serialization.proofs.closing.follow_cases.Given as goal

abbrev pub invariant-loop-id : goal.invariant-loop-id
invariant-loop-id g l = (roots : List Reference) → IsClosing (g.S.Store.documents l.store) roots l.fn.taken → IsClosing (g.S.Store.documents l.store) roots l.taken

abbrev pub decreases-loop-id : goal.decreases-loop-id
decreases-loop-id g l = left (g.S.Store.documents l.store) l.taken
