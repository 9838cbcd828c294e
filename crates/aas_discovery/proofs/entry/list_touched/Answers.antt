use Rattle.std.proofs.Common.{◌≡◌, ◌||◌, ◌&&◌, ℕ, List, sym, ap, ◌∙◌}
use Rattle.std.specs.Prelude.{bytes_eq}
use Rattle.std.specs.FinMap as fin
use Rattle.std.specs.Str.{encode_utf8_all}
use Rattle.aas_page.specs.Filters.{carries}
use Rattle.aas_store.specs.Documents.{Identifier}
use Rattle.aas_discovery.specs.Entries.{lists, touches}
use Rattle.aas_discovery.specs.declared.entry.Entry.{Entry}
use Rattle.aas_discovery.proofs.Listed.{on_ok, touched_by, touched_new}
use Rattle.aas_discovery.proofs.entry.list_touched.Goals as goal
use Rattle.aas_discovery.proofs.entry.list_touched.Goals.{in-Some+in_ok-list_asset, in_default}

pub returns : goal.returns
returns g c =
    let shells = (g.S.Store.documents c.args.store.now).shells in
    let s = c.args.shell.now in
    let id = encode_utf8_all s.head.id in
    let old = c.args.entries.now in
    let mid = c.match-shell.entries in
    let so_far : (n v : List ℕ) (k : Identifier) → (lists mid n v k || (bytes_eq id k && carries s.asset n v))
    ≡ (lists old n v k || touches shells n v k s) =
    elim c.match-shell.branch [
      | in-Some+in_ok-list_asset w ↦ λ n v k.
          ap (λ l. l || (bytes_eq id k && carries s.asset n v))
          (ap (λ (es : List Entry). lists es n v k) w.entries-is ∙ w.in_ok-list_asset.ensures n v k)
          ∙ touched_by shells id w.in-Some.old.now (lists old n v k) (carries s.asset n v) n v k
          (ap (fin.get shells) (sym c.as_str.ensures.bytes) ∙ sym w.in-Some.ensures)
      | in_default w ↦ λ n v k.
          ap (λ (es : List Entry). lists es n v k || (bytes_eq id k && carries s.asset n v)) w.entries-is
          ∙ touched_new shells id (lists old n v k) (carries s.asset n v) n v k
          (ap (fin.get shells) (sym c.as_str.ensures.bytes) ∙ sym w.in_default.ensures)
    ] in
    on_ok c.list_asset-2.result (λ is n v k. is n v k ∙ so_far n v k) c.list_asset-2.ensures
