-- Patched trees have patched rows.
use Rattle.std.proofs.Common.{◌≡◌, ℕ, suc, ◌+◌, List, [], ◌∷◌, ◌++◌, length, refl, sym, ap, ap₂, ◌∙◌, arith, length-append}
use Rattle.aas_model.specs.declared.element.Element.{Element, out-Element}
use Rattle.aas_model.specs.declared.patch.PatchRow.{PatchRow}
use Rattle.aas_path_trees.specs.Children.{kids_of}
use Rattle.aas_path_trees.specs.Patched.{payload_at, patched, patched_all}
use Rattle.aas_path_trees.proofs.Patches.{patched_out}
use Rattle.aas_rows.specs.Edits.{patched_rows}
use Rattle.aas_rows.specs.Rows.{Line, line_at, rows, rows_of_all}
use Rattle.aas_rows.specs.Laws.{PatchedRows}
use Rattle.aas_rows.proofs.Trees.{rows_out, Every, by_kids, every}
use Rattle.aas_rows.proofs.Back.{row_of_made}

pub patched_rows-append : (patch : List PatchRow) (n : ℕ) (xs ys : List Line) → patched_rows patch n (xs ++ ys) ≡ patched_rows patch n xs ++ patched_rows patch (n + length xs) ys
patched_rows-append patch n [] ys = let same : n ≡ n + 0 = omega arith in ap (λ m. patched_rows patch m ys) same
patched_rows-append patch n (x ∷ xs) ys =
    let same : n + 1 + length xs ≡ n + suc (length xs) = omega arith in
    ap (λ zs. record x { payload = payload_at n patch x.payload } ∷ zs) (patched_rows-append patch (n + 1) xs ys ∙ ap (λ m. patched_rows patch (n + 1) xs ++ patched_rows patch m ys) same)

-- the rows that a patch leaves, and the rank behind it
pub record Leaves (patch : List PatchRow) (rs : List Line) (new : List Line) (n after : ℕ) : Type 0 where
  pub same : new ≡ patched_rows patch n rs
  pub next : after ≡ n + length rs

pub Does : List PatchRow → Element → Type 0
Does patch e = (n k : ℕ) → Leaves patch (rows e k) (rows (patched patch e n).0 k) n (patched patch e n).1

does_all : (patch : List PatchRow) (es : List Element) → Every (Does patch) es → (n k : ℕ) → Leaves patch (rows_of_all es k) (rows_of_all (patched_all patch es n).0 k) n (patched_all patch es n).1
unfolding Does
does_all patch [] h n k = record { same = refl; next = omega arith }
does_all patch (e ∷ es) h n k =
    let one = h.0 n k in
    let more = does_all patch es h.1 (patched patch e n).1 k in record {
      same =
          ap₂ (λ xs ys. xs ++ ys) one.same (more.same ∙ ap (λ m. patched_rows patch m (rows_of_all es k)) one.next)
          ∙ sym (patched_rows-append patch n (rows e k) (rows_of_all es k));
      next = omega (arith, one.next, more.next, length-append (rows e k) (rows_of_all es k));
    }

does : (patch : List PatchRow) (e : Element) → Every (Does patch) (kids_of e) → Does patch e
unfolding Does
does patch e h n k =
    let below = does_all patch (kids_of e) h (n + 1) (k + 1) in
    let new : List Element = (patched_all patch (kids_of e) (n + 1)).0 in
    let own : Line = record (line_at k e) { payload = payload_at n patch (out-Element e).payload } in record {
      same =
          ap (λ (r : Element × ℕ). rows r.0 k) (patched_out patch e n) ∙ row_of_made own new ∙ ap (λ xs. own ∷ xs) below.same
          ∙ ap (patched_rows patch n) (sym (rows_out e k));
      next = ap (λ (r : Element × ℕ). r.1) (patched_out patch e n) ∙ below.next ∙ numbers n (rows_of_all (kids_of e) (k + 1)) ∙ ap (λ xs. n + length xs) (sym (rows_out e k));
    }
  where
    numbers : (n : ℕ) (xs : List Line) → n + 1 + length xs ≡ n + suc (length xs)
    numbers n xs = omega arith

pub patching : (patch : List PatchRow) (es : List Element) (n k : ℕ) → Leaves patch (rows_of_all es k) (rows_of_all (patched_all patch es n).0 k) n (patched_all patch es n).1
patching patch es n k = does_all patch es (every (Does patch) (by_kids (Does patch) (does patch)) es) n k

pub patched_one : (patch : List PatchRow) (e : Element) (n k : ℕ) → Leaves patch (rows e k) (rows (patched patch e n).0 k) n (patched patch e n).1
unfolding Does
patched_one patch e n k = by_kids (Does patch) (does patch) e n k

pub have_patched_rows : PatchedRows
have_patched_rows patch es n k = (patching patch es n k).same
