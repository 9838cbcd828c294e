use Rattle.aas_clients.proofs.Places.{keeps_both}
use Rattle.aas_clients.proofs.table.Table.is_ready.Goals as goal

pub returns-then-may_grow-clause-keeps : goal.returns-then-may_grow-clause-keeps
returns-then-may_grow-clause-keeps g c =
    keeps_both _ _ _ _ _ _ c.meets.ensures.keeps
    (keeps_both _ _ _ _ _ _ c.grow.ensures.keeps c.meets-then-may_grow.ensures.keeps)
