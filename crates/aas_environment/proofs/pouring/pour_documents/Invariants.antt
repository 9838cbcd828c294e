use Rattle.std.proofs.Common.{length, is_some}
use Rattle.std.specs.Option.{option_copied}
use Rattle.aas_store.specs.Documents.{ids}
use Rattle.aas_store.proofs.Above.{above}
use Rattle.aas_environment.proofs.Poured.{Underway}
use Rattle.aas_environment.proofs.pouring.pour_documents.Given as goal

abbrev pub invariant-loop-id : goal.invariant-loop-id
invariant-loop-id g l =
    Underway l.collection (g.S.Store.documents l.store) l.fn.so_far l.state
    (g.O.TextEnd.told l.fn.out) (g.O.TextEnd.told l.out) (is_some l.after) (option_copied l.after)

abbrev pub decreases-loop-id : goal.decreases-loop-id
decreases-loop-id g l = length (above (option_copied l.after) (ids l.collection (g.S.Store.documents l.store)))
