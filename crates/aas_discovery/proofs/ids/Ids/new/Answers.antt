use Rattle.std.proofs.Common.{List, [], ℕ, ap, ◌∙◌, length}
use Rattle.std.specs.FinMap as fin
use Rattle.std.specs.FinMap.{empty_of_len, len-entries, entries-from_sorted}
use Rattle.aas_discovery.specs.Ids.{marks}
use Rattle.aas_store.proofs.Ordered.{order}
use Rattle.aas_discovery.proofs.ids.Ids.new.Goals as goal

pub returns : goal.returns
returns c =
    ap (λ (ids : List (List ℕ)). fin.from_sorted (marks ids)) c.new.ensures
    ∙ empty_of_len (fin.from_sorted []) (len-entries (fin.from_sorted []) ∙ ap length (entries-from_sorted order [] tt))
