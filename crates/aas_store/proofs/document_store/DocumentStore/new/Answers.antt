use Rattle.aas_store.proofs.Changed.{nothing_held}
use Rattle.aas_store.proofs.document_store.DocumentStore.new.Goals as goal

pub returns : goal.returns
returns g c = nothing_held g.T.Table.kept _ c.new.ensures c.new-2.ensures c.new-3.ensures
