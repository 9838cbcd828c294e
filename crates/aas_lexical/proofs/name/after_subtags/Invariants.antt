use Rattle.std.proofs.Common.{◌≡◌, length}
use Rattle.aas_lexical.specs.Cut.Names.{after_subtags}
use Rattle.aas_lexical.proofs.name.after_subtags.Given as goal

abbrev pub invariant-loop-next : goal.invariant-loop-next
invariant-loop-next l = after_subtags l.text ≡ after_subtags l.rest

abbrev pub decreases-loop-next : goal.decreases-loop-next
decreases-loop-next l = length l.rest
