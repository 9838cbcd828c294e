-- Tables as tests, and the tests of a reference.
use Rattle.std.proofs.Common.{◌≡◌, ℕ, not, cond, List, [], ◌∷◌, ◌++◌, map, filter, Bool, true, false, Some, None, refl, sym, ap₂, ◌∙◌}
use Rattle.std.specs.Prelude.{if◌then◌else◌}
use Rattle.std.specs.List.{find}
use Rattle.std.specs.Option.{option_map}
use Rattle.aas_json_table.specs.Rows.{first_of}
use Rattle.aas_model.specs.declared.reference.Reference.{Reference}
use Rattle.aas_reference.specs.Rules.{Rule, failing, first, first_fault, keeps, reference_rules}
use Rattle.aas_constraint_rules.specs.Lexical.{reference_has_form}
use Rattle.aas_constraint_rules.specs.Rules.{reference_is_string}
use Rattle.aas_constraint_parts.specs.Tests.{first_failed, tests}
use Rattle.aas_constraint_parts.specs.References.{reference_fault}

-- ---- the tests of a table

module _ {S : Type 0} (test : S → Bool) where
  pub first_failing : (rs : List (Rule S)) → first (failing test rs) ≡ first_failed (tests test rs)
  first_failing [] = refl
  first_failing (r ∷ rs) = by_test (test r.sentence) (first_failing rs)
    where
      by_test : (b : Bool) → first (failing test rs) ≡ first_failed (tests test rs)
          → first (map (λ r. r.number) (cond (not b) (r ∷ filter (λ r. not (test r.sentence)) rs) (filter (λ r. not (test r.sentence)) rs)))
          ≡ option_map (λ t. t.0) (cond (not b) (Some (r.number, b)) (find (λ t. not t.1) (tests test rs)))
      by_test true e = e
      by_test false e = refl

first_failed-append : (ts us : List (ℕ × Bool)) → first_failed (ts ++ us) ≡ first_of (first_failed ts) (first_failed us)
first_failed-append [] us = refl
first_failed-append (t ∷ ts) us = by_test t.1 (first_failed-append ts us)
  where
    by_test : (b : Bool) → first_failed (ts ++ us) ≡ first_of (first_failed ts) (first_failed us)
        → option_map (λ t. t.0) (cond (not b) (Some t) (find (λ t. not t.1) (ts ++ us))) ≡ first_of (option_map (λ t. t.0) (cond (not b) (Some t) (find (λ t. not t.1) ts))) (first_failed us)
    by_test true e = e
    by_test false e = refl

-- ---- a reference

if_string : (b : Bool) → first_failed ((130, b) ∷ []) ≡ (if b then None else Some 130)
if_string true = refl
if_string false = refl

abbrev tests_of : Reference → List (ℕ × Bool)
tests_of r = tests (λ s. keeps s r) reference_rules

by_form : (r : Reference) (b : Bool)
    → first_failed ((0, b) ∷ tests_of r ++ (130, reference_is_string r) ∷ []) ≡ (if b then first_of (first_fault r) (if reference_is_string r then None else Some 130) else Some 0)
by_form r true = first_failed-append (tests_of r) ((130, reference_is_string r) ∷ []) ∙ ap₂ first_of (sym (first_failing (λ s. keeps s r) reference_rules)) (if_string (reference_is_string r))
by_form r false = refl

pub reference_fault_is : (r : Reference) → reference_fault r ≡ (if reference_has_form r then first_of (first_fault r) (if reference_is_string r then None else Some 130) else Some 0)
reference_fault_is r = by_form r (reference_has_form r)
