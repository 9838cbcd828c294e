-- Among the rows of siblings there is one of their level for each.
use Rattle.std.proofs.Common.{◌≡◌, ℕ, ◌+◌, ◌<◌, cond, List, [], ◌∷◌, ◌++◌, refl, ap, ◌∙◌, arith}
use Rattle.std.specs.List.{count_by}
use Rattle.std.proofs.lemmas.List.Sums.{sum_by-append, sum_by-cons}
use Rattle.aas_model.specs.declared.element.Element.{Element}
use Rattle.aas_path_trees.specs.Children.{kids_of}
use Rattle.aas_rows.specs.Children.{is_at, ChildCount}
use Rattle.aas_rows.specs.Rows.{Line, line_at, rows, rows_of_all}
use Rattle.aas_rows.proofs.Stepping.{at_only, at_level}
use Rattle.aas_rows.proofs.Trees.{rows_out, Every, by_kids, every}

two : (k : ℕ) (xs ys : List Line) → count_by (is_at k) (xs ++ ys) ≡ count_by (is_at k) xs + count_by (is_at k) ys
two k xs ys = sum_by-append (λ (r : Line). cond (is_at k r) 1 0) xs ys

one : (k : ℕ) (r : Line) (rs : List Line) → count_by (is_at k) (r ∷ rs) ≡ cond (is_at k r) 1 0 + count_by (is_at k) rs
one k r rs = sum_by-cons (λ (r : Line). cond (is_at k r) 1 0) r rs

NoneAt : Element → Type 0
NoneAt e = (k j : ℕ) → k < j → count_by (is_at k) (rows e j) ≡ 0

none_at_all : (es : List Element) → Every NoneAt es → (k j : ℕ) → k < j → count_by (is_at k) (rows_of_all es j) ≡ 0
unfolding NoneAt
none_at_all [] h k j lt = refl
none_at_all (e ∷ es) h k j lt = let parts = two k (rows e j) (rows_of_all es j) in let here = h.0 k j lt in let more = none_at_all es h.1 k j lt in omega (arith, parts, here, more)

none_at : (e : Element) → Every NoneAt (kids_of e) → NoneAt e
unfolding NoneAt
none_at e h k j lt =
    let fails : cond (is_at k (line_at j e)) 1 0 ≡ 0 = ap {B = ℕ} (λ b. cond b 1 0) (at_only k (line_at j e) (λ same. absurd (omega arith))) in
    let below = none_at_all (kids_of e) h k (j + 1) (omega arith) in
    let parts = one k (line_at j e) (rows_of_all (kids_of e) (j + 1)) in
    ap (count_by (is_at k)) (rows_out e j) ∙ omega (arith, parts, fails, below)

pub have_child_count : ChildCount
have_child_count [] k = refl
have_child_count (e ∷ es) k =
    let below = none_at_all (kids_of e) (every NoneAt (by_kids NoneAt none_at) (kids_of e)) k (k + 1) (omega arith) in
    let own : cond (is_at k (line_at k e)) 1 0 ≡ 1 = ap {B = ℕ} (λ b. cond b 1 0) (at_level k e) in
    let first = ap (count_by (is_at k)) (rows_out e k) ∙ one k (line_at k e) (rows_of_all (kids_of e) (k + 1)) in
    let parts = two k (rows e k) (rows_of_all es k) in
    let more = have_child_count es k in
    omega (arith, below, own, first, parts, more)
