use Rattle.std.proofs.Common.{◌≡◌, length}
use Rattle.aas_lexical.specs.Cut.Media.{after_quoted_characters}
use Rattle.aas_lexical.proofs.media.after_quoted_characters.Given as goal

abbrev pub invariant-loop-next : goal.invariant-loop-next
invariant-loop-next l = after_quoted_characters l.text ≡ after_quoted_characters l.rest

abbrev pub decreases-loop-next : goal.decreases-loop-next
decreases-loop-next l = length l.rest
