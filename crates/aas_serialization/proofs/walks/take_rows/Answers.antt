use Rattle.aas_rows.specs.Rows.{rows_of_all}
use Rattle.aas_serialization.proofs.Along.{along_nothing, along_row, along_rows}
use Rattle.aas_serialization.proofs.walks.take_rows.Goals as goal

pub loop-rank-init : goal.loop-rank-init
loop-rank-init g c = along_nothing (g.S.Store.documents c.args.store.now) c.args.taken.now

pub loop-rank-preserved : goal.loop-rank-preserved
loop-rank-preserved g c =
    let rows = rows_of_all (g.S.Table.Table.kept c.args.table.now).kids 1 in
    along_row (g.S.Store.documents c.args.store.now) c.args.taken.now c.loop-rank.taken c.take_row_at.new.taken rows
    c.loop-rank.rank c.loop-rank.invariant c.in_ok-take_row_at.ensures

pub returns : goal.returns
returns g c =
    let count = c.element_count-rank-end in
    along_rows (g.S.Store.documents c.args.store.now) c.args.taken.now c.loop-rank.taken
    (g.S.Table.Table.kept c.args.table.now) count.result c.loop-rank.rank count.ensures c.loop-rank-test.false
    c.loop-rank.invariant
