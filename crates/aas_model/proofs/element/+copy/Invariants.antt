use Rattle.std.proofs.Common.{◌≡◌, take}
use Rattle.aas_model.proofs.element.+copy.Given as goal

abbrev pub invariant-copy_kids-loop-kid : goal.invariant-copy_kids-loop-kid
invariant-copy_kids-loop-kid l = l.copies ≡ take l.kid-index l.kid-items
