use Rattle.aas_form.specs.CoreForm.{childless}
use Rattle.aas_form.proofs.InPlace.{Reached}
use Rattle.aas_form.proofs.level.take_children.Given as goal

abbrev pub invariant-loop-kid : goal.invariant-loop-kid
invariant-loop-kid l = Reached childless l.initial.kids l.kids l.kid-index
