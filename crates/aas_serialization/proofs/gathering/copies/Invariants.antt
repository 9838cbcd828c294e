use Rattle.std.proofs.Common.{length}
use Rattle.std.specs.Option.{option_copied}
use Rattle.aas_serialization.proofs.Walked.{HasCopied, left}
use Rattle.aas_serialization.proofs.gathering.copies.Given as goal

abbrev pub invariant-loop-id : goal.invariant-loop-id
invariant-loop-id g l = HasCopied (g.D.Stored.kept_in (g.S.Store.documents l.store)) l.ids l.documents (option_copied l.after)

abbrev pub decreases-loop-id : goal.decreases-loop-id
decreases-loop-id g l = length (left (option_copied l.after) l.ids)
