use Rattle.std.proofs.Common.{◌≡◌, ℕ, ◌&&◌, List, not, take}
use Rattle.std.specs.Prelude.{bytes_eq}
use Rattle.std.specs.List.{list_any}
use Rattle.aas_page.specs.Filters.{is_same_id}
use Rattle.aas_store.specs.Documents.{Identifier}
use Rattle.aas_discovery.specs.Index.{bears}
use Rattle.aas_discovery.proofs.listing.forget_specific.Given as goal

abbrev pub invariant-loop-specific : goal.invariant-loop-specific
invariant-loop-specific l = (n v : List ℕ) (k : Identifier) → bears l.index n v k
    ≡ (bears l.fn.index n v k && not (bytes_eq l.id k && list_any (is_same_id n v) (take l.specific-index l.own)))
