use Rattle.std.proofs.Common.{◌≡◌, ℕ, ◌&&◌, List, not, take}
use Rattle.aas_store.specs.Documents.{Identifier}
use Rattle.aas_discovery.specs.Entries.{lists}
use Rattle.aas_discovery.specs.Index.{bears, carried}
use Rattle.aas_discovery.proofs.listing.settle.Given as goal

abbrev pub invariant-loop-entry : goal.invariant-loop-entry
invariant-loop-entry g l = (n v : List ℕ) (k : Identifier) → bears l.index n v k
    ≡ (bears l.fn.index n v k && not (lists (take l.entry-index l.entries) n v k
    && not (carried (g.S.Store.documents l.store).shells n v k)))
