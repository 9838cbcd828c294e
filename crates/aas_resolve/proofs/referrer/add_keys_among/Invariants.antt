use Rattle.aas_resolve.proofs.Keys.{SoFar}
use Rattle.aas_resolve.proofs.referrer.add_keys_among.Given as goal

abbrev pub invariant-loop-item : goal.invariant-loop-item
invariant-loop-item g l =
    SoFar (g.S.Store.documents l.store) g.T.Referrer.references l.initial.keys l.keys l.item-items l.item-index
