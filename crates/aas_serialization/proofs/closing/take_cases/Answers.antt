use Rattle.aas_serialization.proofs.Along.{along_no_cases}
use Rattle.aas_serialization.proofs.closing.take_cases.Goals as goal

pub returns-in-None : goal.returns-in-None
returns-in-None g c = along_no_cases (g.S.Store.documents c.args.store.now) c.args.taken.now c.args.id.now c.in-None.ensures
