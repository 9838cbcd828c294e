use Rattle.aas_serialization.proofs.Along.{along_no_shell}
use Rattle.aas_serialization.proofs.walks.take_shell_at.Goals as goal

pub returns-in-None : goal.returns-in-None
returns-in-None g c = along_no_shell (g.S.Store.documents c.args.store.now) c.args.taken.now c.args.id.now c.in-None.ensures
