use Rattle.std.proofs.Common.{◌∷◌}
use Rattle.aas_discovery.specs.Finding.{HoldOneOf}
use Rattle.aas_discovery.proofs.indexed_store.IndexedStore.fewest.Given as goal

abbrev pub invariant-loop-other : goal.invariant-loop-other
invariant-loop-other g l = HoldOneOf (g.S.Store.documents l.self).shells (l.first ∷ l.others) l.fewest
