use Rattle.std.proofs.Common.{◌≡◌, ℕ, ◌||◌, List, take}
use Rattle.aas_store.specs.Documents.{Identifier}
use Rattle.aas_discovery.specs.Entries.{lists}
use Rattle.aas_discovery.specs.Index.{bears}
use Rattle.aas_discovery.proofs.listing.add_each.Given as goal

abbrev pub invariant-loop-entry : goal.invariant-loop-entry
invariant-loop-entry l = (n v : List ℕ) (k : Identifier)
    → bears l.index n v k ≡ (bears l.fn.index n v k || lists (take l.entry-index l.entries) n v k)
