-- The open elements of a walk.
use Rattle.std.proofs.Common.{◌≡◌, ℕ, ◌+◌, ◌<◌, List, [], ◌∷◌, ◌++◌, length, Some, slice_get, refl, sym, ◌∙◌}
use Rattle.std.proofs.Common.{subst, arith}
use Rattle.std.proofs.lemmas.Option.{same_Some}
use Rattle.aas_rows.specs.Rows.{Line}
use Rattle.aas_json_write_rows.specs.Walk.{AreBelow, IsNested, first_rank}
use Rattle.aas_json_write_rows.specs.declared.walk.OpenElement.{OpenElement}

pub nested_room : (rows : List Line) (d : ℕ) (fs : List OpenElement) (n : ℕ) (r : Line)
    → IsNested rows d fs n → slice_get rows n ≡ Some r → d + length fs < r.level
nested_room rows d [] n r h is = omega (arith, h r is)
nested_room rows d (f ∷ fs) n r h is = omega (arith, nested_room rows (d + 1) fs n r h.1 is)

first_push : (fs : List OpenElement) (f : OpenElement) (m : ℕ) → first_rank (fs ++ f ∷ []) m ≡ first_rank fs f.rank
first_push [] f m = refl
first_push (g ∷ fs) f m = refl

pub nested_push : (rows : List Line) (d : ℕ) (fs : List OpenElement) (f : OpenElement) (m : ℕ) (r c : Line)
    → IsNested rows d fs f.rank → slice_get rows f.rank ≡ Some r
    → slice_get rows m ≡ Some c → c.level ≡ r.level + 1
    → f.rank < m → AreBelow rows r.level (f.rank + 1) (m + 1) → IsNested rows d (fs ++ f ∷ []) m
nested_push rows d [] f m r c h is there deep further below = (
  λ x at. (
    h x at,
    further,
    subst (λ (l : Line). AreBelow rows l.level (f.rank + 1) (m + 1)) (same_Some r x (sym is ∙ at)) below,
  ),
  λ x at. subst (λ (l : Line). d + 1 < l.level) (same_Some c x (sym there ∙ at)) (omega (arith, h r is, deep)),
)
nested_push rows d (g ∷ fs) f m r c h is there deep further below = (
  λ x at. subst (λ n. (d < x.level) × (g.rank < n) × AreBelow rows x.level (g.rank + 1) (n + 1))
      (sym (first_push fs f m)) (h.0 x at),
  nested_push rows (d + 1) fs f m r c h.1 is there deep further below,
)

pub nested_pop : (rows : List Line) (d : ℕ) (fs : List OpenElement) (f : OpenElement) (m : ℕ)
    → IsNested rows d (fs ++ f ∷ []) m → IsNested rows d fs f.rank
nested_pop rows d [] f m h = λ r is. (h.0 r is).0
nested_pop rows d (g ∷ fs) f m h = (
  λ x at. subst (λ n. (d < x.level) × (g.rank < n) × AreBelow rows x.level (g.rank + 1) (n + 1))
      (first_push fs f m) (h.0 x at),
  nested_pop rows (d + 1) fs f m h.1,
)

pub nested_below : (rows : List Line) (d : ℕ) (fs : List OpenElement) (f : OpenElement) (m : ℕ) (r : Line)
    → IsNested rows d (fs ++ f ∷ []) m → slice_get rows f.rank ≡ Some r
    → (f.rank < m) × AreBelow rows r.level (f.rank + 1) (m + 1)
nested_below rows d [] f m r h is = ((h.0 r is).1, (h.0 r is).2)
nested_below rows d (g ∷ fs) f m r h is = nested_below rows (d + 1) fs f m r h.1 is
