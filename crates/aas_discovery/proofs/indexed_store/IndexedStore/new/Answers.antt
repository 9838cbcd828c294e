use Rattle.aas_discovery.proofs.Followed.{none_followed}
use Rattle.aas_discovery.proofs.indexed_store.IndexedStore.new.Goals as goal

pub invariant_of-result : goal.invariant_of-result
invariant_of-result g c = none_followed c.new.result (g.S.Store.documents c.args.inner) c.new.ensures c.requires
