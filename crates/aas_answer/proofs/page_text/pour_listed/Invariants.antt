use Rattle.std.proofs.Common.{take}
use Rattle.serde_json.specs.Written.{compact_text}
use Rattle.aas_out.specs.Adds.{Adds}
use Rattle.aas_answer.proofs.Pages.{joined}
use Rattle.aas_answer.proofs.page_text.pour_listed.Given as goal

-- so far as the loop has come
abbrev pub invariant-loop-place : goal.invariant-loop-place
invariant-loop-place g l =
    Adds l.fn.so_far l.state (g.O.Out.told l.fn.out) (g.O.Out.told l.out)
    (joined (λ tree. compact_text (g.P.Poured.spell tree)) (take l.place l.trees))
