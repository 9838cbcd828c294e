use Rattle.std.proofs.Common.{length}
use Rattle.std.specs.Option.{option_copied}
use Rattle.aas_answer.specs.Arrays.{name_of}
use Rattle.aas_serialization.proofs.Walked.{left}
use Rattle.aas_answer.proofs.Arrays.{HasListed}
use Rattle.aas_answer.proofs.environments.put_documents.Given as goal

abbrev pub invariant-loop-id : goal.invariant-loop-id
invariant-loop-id g l =
    HasListed l.collection (g.S.Store.documents l.store) l.ids l.pen.later (name_of l.collection) l.pen.state
    l.array.state (g.O.Out.told l.fn.out) (g.O.Out.told l.out) l.array.any (option_copied l.after)

abbrev pub decreases-loop-id : goal.decreases-loop-id
decreases-loop-id g l = length (left (option_copied l.after) l.ids)
