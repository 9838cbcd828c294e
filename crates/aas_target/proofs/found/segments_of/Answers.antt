use Rattle.std.proofs.Common.{length, ap, sym, ◌∙◌, arith, length-append}
use Rattle.std.proofs.lemmas.Bool.{eqb-true}
use Rattle.std.proofs.lemmas.List.{length-map}
use Rattle.aas_target.proofs.Splits.{some_piece}
use Rattle.aas_target.proofs.found.segments_of.Goals as goal

pub returns-then-is_full-clause-none : goal.returns-then-is_full-clause-none
returns-then-is_full-clause-none c =
    let more = some_piece 47 c.in-Some.path.now in
    let all = simp (length-append, length-map) at (ap length (rw c.in-Some.is at c.loop-left.invariant)) in
    let full = eqb-true _ _ (sym c.is_full.ensures.value ∙ c.if-is_full.true) in
    omega arith
