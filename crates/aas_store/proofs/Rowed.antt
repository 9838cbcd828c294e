-- Rows in preorder, one at a time.
use Rattle.std.proofs.Common.{◌≡◌, ℕ, suc, ◌+◌, ◌-◌, ◌<◌, ◌≤◌, List, ◌∷◌, ◌++◌, length, drop, get_or, slice_get, Some, None, Result, Ok, Err, MatchResult, sym, ap, ◌∙◌, arith, length-append}
use Rattle.std.proofs.Math.Seq.{drop-cons}
use Rattle.std.proofs.Math.Numerals.{add-one}
use Rattle.std.proofs.lemmas.Option.{slice_get_past}
use Rattle.aas_lemmas.proofs.Lists.{get_front, get_behind}
use Rattle.aas_model.specs.declared.element.Element.{Element}
use Rattle.aas_path_trees.specs.Children.{kids_of}
use Rattle.aas_rows.proofs.Trees.{rows_out}
use Rattle.aas_rows.specs.Rows.{Line, line_at, rows, rows_of_all}
use Rattle.aas_rows.specs.Views.{line_of}
use Rattle.aas_rows.specs.declared.view.RowView.{RowView}

front : (ks : List Element) (k i : ℕ) (x : Element) → i < length ks → x ≡ get_or ks i x → rows_of_all (drop i ks) k ≡ rows x k ++ rows_of_all (drop (i + 1) ks) k
front ks k i x lt at =
    ap (λ es. rows_of_all es k) (drop-cons ks i x lt ∙ ap (λ y. y ∷ drop (suc i) ks) (sym at) ∙ ap (λ n. x ∷ drop n ks) (sym (add-one i)))

pub first_row : (e : Element) (k n : ℕ) (v : RowView) → n ≡ 0 → line_of v ≡ line_at k e → slice_get (rows e k) n ≡ Some (line_of v)
first_row e k n v none is =
    ap (slice_get (rows e k)) none ∙ ap (λ rs. slice_get rs 0) (rows_out e k) ∙ ap (λ r. Some r) (sym is)

-- what is found below an element, or what is left behind it
pub row_below : (r : Result RowView ℕ) (e : Element) (ks : List Element) (k n : ℕ) → ¬ (n ≡ 0) → ks ≡ kids_of e
    → MatchResult r (λ v. slice_get (rows_of_all ks (k + 1)) (n - 1) ≡ Some (line_of v)) (λ left. left + length (rows_of_all ks (k + 1)) ≡ n - 1)
    → MatchResult r (λ v. slice_get (rows e k) n ≡ Some (line_of v)) (λ left. left + length (rows e k) ≡ n)
row_below (Ok v) e ks k n some kids found =
    let step : n ≡ suc (n - 1) = omega (arith, some) in
    ap (slice_get (rows e k)) step ∙ ap (λ rs. slice_get rs (suc (n - 1))) (rows_out e k ∙ ap (λ ks. line_at k e ∷ rows_of_all ks (k + 1)) (sym kids)) ∙ found
row_below (Err left) e ks k n some kids rest =
    let size : length (rows e k) ≡ suc (length (rows_of_all ks (k + 1))) = ap length (rows_out e k) ∙ ap (λ ks. suc (length (rows_of_all ks (k + 1)))) (sym kids) in
    omega (arith, rest, size, some)

-- a loop over children that stand at level k has come to the child in place i, with what is left of the rank n
pub record HasRowsLeft (ks : List Element) (k n i left : ℕ) : Type 0 where
  pub fewer : left ≤ n
  pub count : left + length (rows_of_all ks k) ≡ n + length (rows_of_all (drop i ks) k)
  pub same : slice_get (rows_of_all ks k) n ≡ slice_get (rows_of_all (drop i ks) k) left

pub found_here : (ks : List Element) (k n i left : ℕ) (x : Element) (r : Line) → HasRowsLeft ks k n i left → i < length ks → x ≡ get_or ks i x
    → slice_get (rows x k) left ≡ Some r → slice_get (rows_of_all ks k) n ≡ Some r
found_here ks k n i left x r so_far lt at found =
    so_far.same ∙ ap (λ rs. slice_get rs left) (front ks k i x lt at) ∙ get_front (rows x k) (rows_of_all (drop (i + 1) ks) k) left r found

pub left_behind : (ks : List Element) (k n i left rest : ℕ) (x : Element) → HasRowsLeft ks k n i left → i < length ks → x ≡ get_or ks i x
    → rest + length (rows x k) ≡ left → HasRowsLeft ks k n (i + 1) rest
left_behind ks k n i left rest x so_far lt at is =
    let size : length (rows_of_all (drop i ks) k) ≡ length (rows x k) + length (rows_of_all (drop (i + 1) ks) k) =
    ap length (front ks k i x lt at) ∙ length-append (rows x k) (rows_of_all (drop (i + 1) ks) k) in record {
      fewer = omega (arith, so_far.fewer, is);
      count = omega (arith, so_far.count, size, is);
      same = so_far.same ∙ ap (λ rs. slice_get rs left) (front ks k i x lt at) ∙ get_behind (rows x k) (rows_of_all (drop (i + 1) ks) k) rest left is;
    }

-- what is left of a rank says that no row has it
pub no_row : (ks : List Element) (n left : ℕ) → left + length (rows_of_all ks 1) ≡ n → None ≡ slice_get (rows_of_all ks 1) n
no_row ks n left rest = sym (slice_get_past (rows_of_all ks 1) n (omega (arith, rest)))
