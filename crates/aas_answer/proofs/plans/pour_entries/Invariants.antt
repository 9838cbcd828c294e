use Rattle.std.proofs.Common.{take}
use Rattle.aas_out.specs.Adds.{Adds}
use Rattle.aas_answer.specs.Plans.{entry_text}
use Rattle.aas_answer.proofs.Pages.{joined}
use Rattle.aas_answer.proofs.plans.pour_entries.Given as goal

-- so far as the loop has come
abbrev pub invariant-loop-place : goal.invariant-loop-place
invariant-loop-place g l =
    Adds l.fn.so_far l.state (g.O.Out.told l.fn.out) (g.O.Out.told l.out)
    (joined (entry_text (g.S.Store.documents l.store) l.listing) (take l.place l.id-items))
