-- Ranks that are listed one after the other.
use Rattle.std.proofs.Common.{◌≡◌, ℕ, ◌+◌, ◌<◌, ◌≤◌, ◌⊎◌, inl, inr, Bool, true, false, not, nat_lt, ◌==◌, ◌&&◌, ◌||◌}
use Rattle.std.proofs.Common.{List, [], ◌∷◌, ◌++◌, length, get_or, slice_get, Some, refl, sym, ap, ap₂, ◌∙◌, arith}
use Rattle.std.proofs.Common.{le-ltb, lt-ltb}
use Rattle.std.specs.List.{AllByRecursion, list_any}
use Rattle.std.specs.Option.{is_some}
use Rattle.std.proofs.lemmas.Bool.{cases_order, ltb-false, ltb-true}
use Rattle.std.proofs.lemmas.Bool.Decides.{Decides-eqb}
use Rattle.std.proofs.lemmas.List.Folds.{list_any-append}
use Rattle.std.proofs.lemmas.Option.{slice_get-get_or}
use Rattle.std.proofs.Math.Bool.{and-false, or-false, or-true}
use Rattle.aas_lemmas.proofs.Truth.{and_left, and_right}
use Rattle.aas_sheet_index.specs.Index.{has_name, is_between, Listed}
use Rattle.aas_sheet_index.specs.declared.side.Side.{Side}

pub apart : (m n : ℕ) → (m ≡ n → ⊥) → (m == n) ≡ false
apart m n ne = by (m == n) refl
  where
    by : (b : Bool) → (m == n) ≡ b → b ≡ false
    by true e = absurd (ne ((Decides-eqb m n).0 e))
    by false e = refl

-- ---- ranks from one up to another

pub within : (first end r : ℕ) → first ≤ r → r < end → is_between first end r ≡ true
within first end r low high = ap₂ (λ b c. not b && c) (le-ltb r first low) (lt-ltb r end high)

pub too_high : (first end r : ℕ) → end ≤ r → is_between first end r ≡ false
too_high first end r high = ap (λ c. not (nat_lt r first) && c) (le-ltb r end high) ∙ and-false (not (nat_lt r first))

pub is_within : (first end r : ℕ) → is_between first end r ≡ true → (first ≤ r) × (r < end)
is_within first end r e = (
  by (nat_lt r first) refl (and_left (not (nat_lt r first)) (nat_lt r end) e),
  ltb-true r end (and_right (not (nat_lt r first)) (nat_lt r end) e),
)
  where
    by : (b : Bool) → nat_lt r first ≡ b → not b ≡ true → first ≤ r
    by true is e = absurd (cc)
    by false is e = ltb-false r first is

one_more : (first i r : ℕ) → (r ≡ i → ⊥) → is_between first i r ≡ is_between first (i + 1) r
one_more first i r ne = ap (λ c. not (nat_lt r first) && c) (by (cases_order r i))
  where
    by : ((r ≡ i) ⊎ ((r < i) ⊎ (i < r))) → nat_lt r i ≡ nat_lt r (i + 1)
    by (inl e) = absurd (ne e)
    by (inr (inl lt)) = lt-ltb r i lt ∙ sym (lt-ltb r (i + 1) (omega arith))
    by (inr (inr gt)) = le-ltb r i (omega arith) ∙ sym (le-ltb r (i + 1) (omega arith))

-- ---- lists

pub listed_none : (ss : List Side) (first end : ℕ) → end ≤ first → Listed ss first end []
listed_none ss first end le r = sym (ap (λ b. b && has_name (slice_get ss r)) (by (nat_lt r first) refl))
  where
    by : (b : Bool) → nat_lt r first ≡ b → (not b && nat_lt r end) ≡ false
    by true is = refl
    by false is = let low = ltb-false r first is in le-ltb r end (omega (arith, low))

pub listed_on : (ss : List Side) (first i : ℕ) (ranks : List ℕ)
    → has_name (slice_get ss i) ≡ false → Listed ss first i ranks → Listed ss first (i + 1) ranks
listed_on ss first i ranks none so_far r = so_far r ∙ by (cases_order r i)
  where
    by : ((r ≡ i) ⊎ ((r < i) ⊎ (i < r)))
        → (is_between first i r && has_name (slice_get ss r))
        ≡ (is_between first (i + 1) r && has_name (slice_get ss r))
    by (inl e) =
        ap (λ b. b && has_name (slice_get ss r)) (too_high first i r (omega arith))
        ∙ sym (ap (λ c. is_between first (i + 1) r && c) (ap (λ r. has_name (slice_get ss r)) e ∙ none)
        ∙ and-false (is_between first (i + 1) r))
    by (inr (inl lt)) = ap (λ b. b && has_name (slice_get ss r)) (one_more first i r (λ e. absurd (omega arith)))
    by (inr (inr gt)) = ap (λ b. b && has_name (slice_get ss r)) (one_more first i r (λ e. absurd (omega arith)))

pub listed_more : (ss : List Side) (first i : ℕ) (ranks : List ℕ)
    → first ≤ i → has_name (slice_get ss i) ≡ true → Listed ss first i ranks → Listed ss first (i + 1) (ranks ++ i ∷ [])
listed_more ss first i ranks le some so_far r = list_any-append (λ q. q == r) ranks (i ∷ []) ∙ by (cases_order r i)
  where
    other : (r ≡ i → ⊥)
        → (list_any (λ q. q == r) ranks || ((i == r) || false))
        ≡ (is_between first (i + 1) r && has_name (slice_get ss r))
    other ne =
        ap (λ b. list_any (λ q. q == r) ranks || (b || false)) (apart i r (λ e. ne (sym e)))
        ∙ or-false (list_any (λ q. q == r) ranks) ∙ so_far r
        ∙ ap (λ b. b && has_name (slice_get ss r)) (one_more first i r ne)

    by : ((r ≡ i) ⊎ ((r < i) ⊎ (i < r)))
        → (list_any (λ q. q == r) ranks || ((i == r) || false))
        ≡ (is_between first (i + 1) r && has_name (slice_get ss r))
    by (inl e) =
        ap (λ b. list_any (λ q. q == r) ranks || (b || false)) ((Decides-eqb i r).1 (sym e))
        ∙ or-true (list_any (λ q. q == r) ranks)
        ∙ sym (ap₂ (λ b c. b && c) (within first (i + 1) r (omega arith) (omega arith))
        (ap (λ r. has_name (slice_get ss r)) e ∙ some))
    by (inr (inl lt)) = other (λ e. absurd (omega arith))
    by (inr (inr gt)) = other (λ e. absurd (omega arith))

-- what is listed
pub each_listed : (P : ℕ → Type 0) (xs : List ℕ)
    → ((r : ℕ) → list_any (λ q. q == r) xs ≡ true → P r) → AllByRecursion P xs
each_listed P [] h = tt
each_listed P (x ∷ xs) h = (
  h x (ap (λ b. b || list_any (λ q. q == x) xs) ((Decides-eqb x x).1 refl)),
  each_listed P xs (λ r e. h r (ap (λ b. (x == r) || b) e ∙ or-true (x == r))),
)

pub named_at : (ss : List Side) (i : ℕ) (s : Side) (b : Bool)
    → i < length ss → s ≡ get_or ss i s → b ≡ is_some s.id_short → has_name (slice_get ss i) ≡ b
named_at ss i s b inside is says =
    ap has_name (slice_get-get_or ss i s inside ∙ ap (λ (s : Side). Some s) (sym is)) ∙ sym says
