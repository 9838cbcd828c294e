use Rattle.std.proofs.Common.{◌≡◌, ℕ, ◌||◌, List, take}
use Rattle.std.specs.List.{list_any}
use Rattle.aas_store.specs.Documents.{Identifier}
use Rattle.aas_discovery.specs.Entries.{lists, touches}
use Rattle.aas_discovery.proofs.entry.list_all_touched.Given as goal

abbrev pub invariant-loop-shell : goal.invariant-loop-shell
invariant-loop-shell g l = (n v : List ℕ) (k : Identifier) → lists l.entries n v k
    ≡ (lists l.fn.entries n v k || list_any (touches (g.S.Store.documents l.store).shells n v k)
    (take l.shell-index l.shells))
