use Rattle.aas_clients.proofs.Tables.{waiting_tells}
use Rattle.aas_clients.proofs.table.Table.has_next.Goals as goal

pub returns : goal.returns
returns g c =
    rw (← c.as_slice.ensures.value)
    (waiting_tells c.as_slice.result.now c.first_waiting.result c.is_some.result
    c.is_some.ensures c.first_waiting.ensures.first c.first_waiting.ensures.none)
