use Rattle.std.proofs.Common.{length}
use Rattle.std.specs.Option.{option_copied}
use Rattle.aas_store.specs.Documents.{ids}
use Rattle.aas_store.proofs.Above.{above}
use Rattle.aas_resolve.proofs.UpTo.{UpTo}
use Rattle.aas_resolve.proofs.dangling_references.add_collection.Given as goal

abbrev pub invariant-loop-id : goal.invariant-loop-id
invariant-loop-id g l = UpTo (g.S.Store.documents l.store) l.collection l.initial.found l.found (option_copied l.after)

abbrev pub decreases-loop-id : goal.decreases-loop-id
decreases-loop-id g l = length (above (option_copied l.after) (ids l.collection (g.S.Store.documents l.store)))
