use Rattle.aas_answer.specs.Listed.{child_text}
use Rattle.aas_answer.proofs.Children.{Entered}
use Rattle.aas_answer.proofs.place_pages.pour_children.Given as goal

-- so far as the loop has come
abbrev pub invariant-loop-place : goal.invariant-loop-place
invariant-loop-place g l =
    Entered (child_text l.form l.head) l.rows l.fn.span.from l.place l.at l.fn.so_far l.state
    (g.O.Out.told l.fn.out) (g.O.Out.told l.out)
