use Rattle.std.proofs.Common.{◌≡◌, length}
use Rattle.aas_lexical.specs.Cut.Binary.{after_groups}
use Rattle.aas_lexical.proofs.binary.after_groups.Given as goal

abbrev pub invariant-loop-next : goal.invariant-loop-next
invariant-loop-next l = after_groups l.text ≡ after_groups l.rest

abbrev pub decreases-loop-next : goal.decreases-loop-next
decreases-loop-next l = length l.rest
