use Rattle.std.proofs.Common.{◌≡◌, ℕ, ◌&&◌, ◌||◌, List, take}
use Rattle.std.specs.Prelude.{bytes_eq}
use Rattle.std.specs.List.{list_any}
use Rattle.std.specs.Str.{encode_utf8_all}
use Rattle.aas_page.specs.Filters.{is_same_id}
use Rattle.aas_store.specs.Documents.{Identifier}
use Rattle.aas_discovery.specs.Entries.{lists}
use Rattle.aas_discovery.proofs.entry.list_specific.Given as goal

abbrev pub invariant-loop-specific : goal.invariant-loop-specific
invariant-loop-specific l = (n v : List ℕ) (k : Identifier) → lists l.entries n v k
    ≡ (lists l.fn.entries n v k || (bytes_eq (encode_utf8_all l.id) k
    && list_any (is_same_id n v) (take l.specific-index l.own)))
