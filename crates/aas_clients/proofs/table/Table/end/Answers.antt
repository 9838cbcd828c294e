use Rattle.std.proofs.Common.{sym, subst}
use Rattle.std.specs.Prelude.{IfSome}
use Rattle.std.specs.declared.option.Option.{Option}
use Rattle.aas_clients.specs.Places.{IsClosedAt}
use Rattle.aas_clients.specs.Visits.{IsLast}
use Rattle.aas_clients.specs.declared.visit.Visit.{Visit}
use Rattle.aas_clients.proofs.Places.{keeps_both}
use Rattle.aas_clients.proofs.Tables.{closed_stays}
use Rattle.aas_clients.proofs.table.Table.end.Goals as goal

pub returns-clause-keeps : goal.returns-clause-keeps
returns-clause-keeps g c = keeps_both _ _ _ _ _ _ c.leave.ensures.keeps c.is_ready.ensures.keeps

pub returns-clause-last : goal.returns-clause-last
returns-clause-last g c =
    let now = c.is_ready.new.self.places.items in
    subst (λ (o : Option Visit). IfSome o (λ visit. IsLast visit → IsClosedAt now visit.number)) (sym c.in-Some.is)
    (λ last. closed_stays _ now c.in-Some.visit.number _ _ c.is_ready.ensures.keeps
    (c.leave.ensures.last (c.is_last-is_last.ensures.1 last)))
