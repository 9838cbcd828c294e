use Rattle.aas_rows.specs.Rows.{rows_of_all}
use Rattle.aas_serialization.specs.Taken.{TakesAlong}
use Rattle.aas_serialization.proofs.Along.{rows_to}
use Rattle.aas_serialization.proofs.walks.take_rows.Given as goal

abbrev pub invariant-loop-rank : goal.invariant-loop-rank
invariant-loop-rank g l =
    let rows = rows_of_all (g.S.Table.Table.kept l.table).kids 1 in
    TakesAlong (g.S.Store.documents l.store) l.initial.taken l.taken (rows_to rows l.rank)
