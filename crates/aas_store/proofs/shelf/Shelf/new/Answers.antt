use Rattle.std.proofs.Common.{List, [], ap, ◌∙◌, length}
use Rattle.std.specs.FinMap as fin
use Rattle.std.specs.FinMap.{empty_of_len, len-entries, entries-from_sorted}
use Rattle.aas_store.specs.declared.shelf.Entry.{Entry}
use Rattle.aas_store.specs.Shelf.{pairs}
use Rattle.aas_store.proofs.Ordered.{order}
use Rattle.aas_store.proofs.shelf.Shelf.new.Goals as goal

pub returns : goal.returns
returns g c =
    ap (λ (es : List (Entry g.row.D.Denot)). fin.from_sorted (pairs es)) c.new.ensures
    ∙ empty_of_len (fin.from_sorted []) (len-entries (fin.from_sorted []) ∙ ap length (entries-from_sorted order [] tt))
