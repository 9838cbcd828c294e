-- The rows of elements of which none stands too deep.
use Rattle.std.proofs.Common.{◌≡◌, ℕ, zero, suc, ◌+◌, ◌≤◌, List, [], ◌∷◌, ◌++◌, length, slice_get, Some, refl, sym, ap}
use Rattle.std.proofs.Common.{◌∙◌, subst, arith}
use Rattle.std.specs.Prelude.{option_and_then}
use Rattle.aas_model.specs.declared.element.Element.{Element}
use Rattle.aas_path_trees.specs.Children.{kids_of}
use Rattle.aas_path_trees.specs.Places.{element_in, element_in_all}
use Rattle.aas_rows.specs.Rows.{Line, line_at, rows, rows_of_all}
use Rattle.aas_rows.proofs.Trees.{Every, by_kids, every, rows_out}
use Rattle.aas_json_write_rows.specs.Poured.{AreLow}

low_first : (x : Line) (xs : List Line) → x.level ≤ 30 → AreLow xs → AreLow (x ∷ xs)
low_first x xs low more zero r is = let same : x ≡ r = cc in subst (λ (r : Line). r.level ≤ 30) same low
low_first x xs low more (suc n) r is = more n r is

low_both : (xs ys : List Line) → AreLow xs → AreLow ys → AreLow (xs ++ ys)
low_both [] ys low more = more
low_both (x ∷ xs) ys low more = low_first x (xs ++ ys) (low 0 x refl) (low_both xs ys (λ n. low (suc n)) more)

-- no place from an element that stands at a level is deeper than level 30
IsShallow : ℕ → Element → Type 0
IsShallow k e = (q : List ℕ) (f : Element) → element_in q e ≡ Some f → k + length q ≤ 30

Lies : Element → Type 0
Lies e = (k : ℕ) → IsShallow k e → AreLow (rows e k)

lie_all : (es : List Element) (k : ℕ)
    → Every Lies es → ((i : ℕ) (e : Element) → slice_get es i ≡ Some e → IsShallow k e) → AreLow (rows_of_all es k)
unfolding Lies
lie_all [] k h short = λ n r is. absurd (cc)
lie_all (e ∷ es) k h short =
    low_both (rows e k) (rows_of_all es k) (h.0 k (short 0 e refl)) (lie_all es k h.1 (λ i. short (suc i)))

lie : (e : Element) → Every Lies (kids_of e) → Lies e
unfolding Lies IsShallow element_in
lie e h k short =
    subst AreLow (sym (rows_out e k))
    (low_first (line_at k e) (rows_of_all (kids_of e) (k + 1)) (omega (arith, short [] e refl))
    (lie_all (kids_of e) (k + 1) h
    (λ i o at q f is. omega (arith, short (i ∷ q) f (ap (option_and_then (element_in q)) at ∙ is)))))

pub rows_are_low : (es : List Element)
    → ((q : List ℕ) (e : Element) → element_in_all q es ≡ Some e → length q ≤ 30) → AreLow (rows_of_all es 1)
unfolding IsShallow
rows_are_low es shallow =
    lie_all es 1 (every Lies (by_kids Lies lie) es)
    (λ i o at q f is. omega (arith, shallow (i ∷ q) f (ap (option_and_then (element_in q)) at ∙ is)))
