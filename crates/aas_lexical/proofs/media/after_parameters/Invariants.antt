use Rattle.std.proofs.Common.{◌≡◌, length}
use Rattle.aas_lexical.specs.Cut.Media.{after_parameters}
use Rattle.aas_lexical.proofs.media.after_parameters.Given as goal

abbrev pub invariant-loop-next : goal.invariant-loop-next
invariant-loop-next l = after_parameters l.text ≡ after_parameters l.rest

abbrev pub decreases-loop-next : goal.decreases-loop-next
decreases-loop-next l = length l.rest
