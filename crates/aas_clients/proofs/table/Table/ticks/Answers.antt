use Rattle.aas_clients.proofs.Places.{keeps_both, only_both}
use Rattle.aas_clients.proofs.table.Table.ticks.Goals as goal

pub returns-clause-keeps : goal.returns-clause-keeps
returns-clause-keeps g c = keeps_both _ _ _ _ _ _ c.read_again.ensures.keeps c.meets.ensures.keeps

pub returns-clause-only : goal.returns-clause-only
returns-clause-only g c = only_both _ _ _ _ c.read_again.ensures.only c.meets.ensures.only
