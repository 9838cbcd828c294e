use Rattle.std.proofs.Common.{ap, ◌+◌, ◌*◌, ◌∙◌, arith}
use Rattle.aas_path.proofs.PlaceNumbers.{digit, whole}
use Rattle.aas_path.proofs.parsing.number.Goals as goal

pub overflow_sub-digit : goal.overflow_sub-digit
overflow_sub-digit c = (digit c.args.digits.now c.loop-digit.digit-index c.loop-digit.number c.requires (omega arith) c.loop-digit.invariant).low

pub overflow_mul-number : goal.overflow_mul-number
overflow_mul-number c = omega (arith, (digit c.args.digits.now c.loop-digit.digit-index c.loop-digit.number c.requires (omega arith) c.loop-digit.invariant).small)

pub overflow_add-number : goal.overflow_add-number
overflow_add-number c = omega (arith, (digit c.args.digits.now c.loop-digit.digit-index c.loop-digit.number c.requires (omega arith) c.loop-digit.invariant).small)

pub loop-digit-preserved : goal.loop-digit-preserved
loop-digit-preserved c =
    ap (λ n. c.loop-digit.number * 10 + n) c.from.ensures ∙ (digit c.args.digits.now c.loop-digit.digit-index c.loop-digit.number c.requires (omega arith) c.loop-digit.invariant).next

pub returns-clause-text : goal.returns-clause-text
returns-clause-text c = (whole c.args.digits.now c.loop-digit.digit-index c.loop-digit.number c.requires (omega arith) c.loop-digit.invariant).0

pub returns-clause-small : goal.returns-clause-small
returns-clause-small c = (whole c.args.digits.now c.loop-digit.digit-index c.loop-digit.number c.requires (omega arith) c.loop-digit.invariant).1
