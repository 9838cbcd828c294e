use Rattle.aas_serialization.proofs.Along.{along_no_submodel, along_submodel}
use Rattle.aas_serialization.proofs.walks.take_submodel_at.Goals as goal

pub returns-in_ok-take_rows-in-Some : goal.returns-in_ok-take_rows-in-Some
returns-in_ok-take_rows-in-Some g c =
    along_submodel (g.S.Store.documents c.args.store.now) c.args.taken.now c.take_head.new.taken c.take_rows.new.taken
    c.args.id.now c.head.result.now (g.S.Table.Table.kept c.in-Some.table.now) c.in-Some.ensures c.head.ensures
    c.in_ok-take_head-in-Some.ensures c.in_ok-take_rows-in-Some.ensures

pub returns-in-None : goal.returns-in-None
returns-in-None g c =
    along_no_submodel (g.S.Store.documents c.args.store.now) c.args.taken.now c.args.id.now c.in-None.ensures
