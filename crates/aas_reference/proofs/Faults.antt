-- The first of some rows that fail for several things is the least over each of them.
use Rattle.std.proofs.Common.{◌≡◌, ℕ, ◌<◌, ◌&&◌, not, cond, List, [], ◌∷◌, map, filter, Bool, true, false, Option, Some, None, option_map, unwrap_or, refl, sym, ap, ◌∙◌, lit<, arith}
use Rattle.std.specs.Bool.{⊤}
use Rattle.std.specs.List.{list_all}
use Rattle.aas_model_names.specs.declared.enumerations.ReferenceType.{ReferenceType}
use Rattle.aas_model.specs.declared.reference.Key.{Key}
use Rattle.aas_model.specs.declared.reference.Reference.{Reference, out-Reference}
use Rattle.aas_model.specs.declared.reference.Reference.TheFolds.{fold-roll-Reference}
use Rattle.aas_reference.specs.Rules.{Level, Rule, reference_rules, levels_of, failing, first, first_fault}
use Rattle.aas_reference.specs.Faults.{level_of, first_broken, least, least_of}
use Rattle.aas_reference.proofs.Levels.{made, made_out}

-- ---- rows in rising order

-- the numbers rise, from above n on
abbrev pub AreAbove : ℕ → List ℕ → Type 0
AreAbove n [] = ⊤
AreAbove n (m ∷ ms) = (n < m) × AreAbove m ms

abbrev pub Rise : List ℕ → Type 0
Rise [] = ⊤
Rise (n ∷ ns) = AreAbove n ns

rise_on : (n : ℕ) (ns : List ℕ) → AreAbove n ns → Rise ns
rise_on n [] h = tt
rise_on n (m ∷ ms) h = h.1

abbrev IsAbove : ℕ → Option ℕ → Type 0
IsAbove n None = ⊤
IsAbove n (Some m) = n < m

above_more : (n m : ℕ) (o : Option ℕ) → n < m → IsAbove m o → IsAbove n o
above_more n m None lt h = tt
above_more n m (Some k) lt h = omega arith

least_left : (n : ℕ) (o : Option ℕ) → IsAbove n o → Some n ≡ least (Some n) o
least_left n None h = refl
least_left n (Some m) h = ap Some (omega arith)

least_right : (n : ℕ) (o : Option ℕ) → IsAbove n o → Some n ≡ least o (Some n)
least_right n None h = refl
least_right n (Some m) h = ap Some (omega arith)

-- ---- the first row that fails

module _ {S : Type 0} where
  numbers : List (Rule S) → List ℕ
  numbers rs = map (λ r. r.number) rs

  least_number : List (Rule S) → Option ℕ
  least_number rs = first (numbers rs)

  above_at : (b : Bool) (n : ℕ) (r : Rule S) (rs : List (Rule S)) → n < r.number → IsAbove r.number (least_number rs) → IsAbove n (least_number (cond b (r ∷ rs) rs))
  unfolding least_number numbers
  above_at true n r rs lt h = lt
  above_at false n r rs lt h = above_more n r.number (least_number rs) lt h

  above_all : (test : S → Bool) (n : ℕ) (rs : List (Rule S)) → AreAbove n (numbers rs) → IsAbove n (least_number (filter (λ r. not (test r.sentence)) rs))
  unfolding least_number numbers
  above_all test n [] h = tt
  above_all test n (r ∷ rs) h = above_at (not (test r.sentence)) n r (filter (λ x. not (test x.sentence)) rs) h.0 (above_all test r.number rs h.1)

  one_row : (p q : Bool) (r : Rule S) (k l m : List (Rule S)) → IsAbove r.number (least_number l) → IsAbove r.number (least_number m) → least_number k ≡ least (least_number l) (least_number m)
      → least_number (cond (not (p && q)) (r ∷ k) k) ≡ least (least_number (cond (not p) (r ∷ l) l)) (least_number (cond (not q) (r ∷ m) m))
  unfolding least_number numbers
  one_row true true r k l m a b later = later
  one_row true false r k l m a b later = least_right r.number (least_number l) a
  one_row false true r k l m a b later = least_left r.number (least_number m) b
  one_row false false r k l m a b later = ap Some (omega arith)

  -- The first row that fails one of two tests is the lesser of the first rows that fail each.
  pub least_of_both : (test other : S → Bool) (rs : List (Rule S)) → Rise (map (λ r. r.number) rs)
      → first (failing (λ s. test s && other s) rs) ≡ least (first (failing test rs)) (first (failing other rs))
  unfolding least_number numbers
  least_of_both test other [] h = refl
  least_of_both test other (r ∷ rs) h =
      one_row (test r.sentence) (other r.sentence) r (filter (λ x. not (test x.sentence && other x.sentence)) rs) (filter (λ x. not (test x.sentence)) rs) (filter (λ x. not (other x.sentence)) rs)
      (above_all test r.number rs h) (above_all other r.number rs h) (least_of_both test other rs (rise_on r.number (numbers rs) h))

  none_fails : (rs : List (Rule S)) → first (failing (λ s. true) rs) ≡ None
  none_fails [] = refl
  none_fails (r ∷ rs) = none_fails rs

  -- The first row that fails for any of some things is the least of the first rows that fail for each.
  pub least_of_each : {X : Type 0} (holds : S → X → Bool) (rs : List (Rule S)) → Rise (map (λ r. r.number) rs) → (xs : List X)
      → first (failing (λ s. list_all (holds s) xs) rs) ≡ least_of (map (λ x. first (failing (λ s. holds s x) rs)) xs)
  least_of_each holds rs h [] = none_fails rs
  least_of_each holds rs h (x ∷ xs) = least_of_both (λ s. holds s x) (λ s. list_all (holds s) xs) rs h ∙ ap (least (first (failing (λ s. holds s x) rs))) (least_of_each holds rs h xs)

-- ---- references

-- the numbers of the constraints on references rise
rules_rise : Rise (map (λ (r : Rule (Level → Bool)). r.number) reference_rules)
rules_rise = (lit< tt, (lit< tt, (lit< tt, (lit< tt, (lit< tt, (lit< tt, (lit< tt, tt)))))))

levels_at : (t : ReferenceType) (ks : List Key) (o : Option Reference) → levels_of (made t ks o) ≡ record { ref_type = t; keys = ks } ∷ unwrap_or (option_map levels_of o) []
levels_at t ks None = fold-roll-Reference (List Level) (λ x. record { ref_type = x.ref_type; keys = x.keys } ∷ unwrap_or x.referred []) (record { ref_type = t; keys = ks; referred = None })
levels_at t ks (Some r) = fold-roll-Reference (List Level) (λ x. record { ref_type = x.ref_type; keys = x.keys } ∷ unwrap_or x.referred []) (record { ref_type = t; keys = ks; referred = Some r })

pub levels_out : (r : Reference) → levels_of r ≡ level_of r ∷ unwrap_or (option_map levels_of (out-Reference r).referred) []
levels_out r = ap levels_of (sym (made_out r)) ∙ levels_at (out-Reference r).ref_type (out-Reference r).keys (out-Reference r).referred

fault_of : List Level → Option ℕ
fault_of ls = first (failing (λ s. list_all s ls) reference_rules)

fault_of_more : (l : Level) (ls : List Level) → fault_of (l ∷ ls) ≡ least (first_broken l) (fault_of ls)
unfolding fault_of
fault_of_more l ls = least_of_both (λ s. s l) (λ s. list_all s ls) reference_rules rules_rise

pub least_none : (o : Option ℕ) → least o None ≡ o
least_none None = refl
least_none (Some n) = refl

fault_out : (r : Reference) (o : Option Reference) → (out-Reference r).referred ≡ o → first_fault r ≡ least (first_broken (level_of r)) (fault_of (unwrap_or (option_map levels_of o) []))
unfolding fault_of
fault_out r o e = ap fault_of (levels_out r ∙ ap (λ x. level_of r ∷ unwrap_or (option_map levels_of x) []) e) ∙ fault_of_more (level_of r) (unwrap_or (option_map levels_of o) [])

-- the first fault of a reference with none within it
pub fault_outer : (r : Reference) → (out-Reference r).referred ≡ None → first_fault r ≡ first_broken (level_of r)
unfolding fault_of
fault_outer r e = fault_out r None e ∙ least_none (first_broken (level_of r))

-- the first fault of a reference with another one within it
pub fault_inner : (r s : Reference) → (out-Reference r).referred ≡ Some s → first_fault r ≡ least (first_broken (level_of r)) (first_fault s)
unfolding fault_of
fault_inner r s e = fault_out r (Some s) e
