-- The answers of the lexical calls are those of the tests.
use Rattle.std.proofs.Common.{◌≡◌, ◌↔◌, ◌==◌, not, ℕ, suc, arith, List, [], ◌∷◌, length, Bool, IsTrue, subst, sym, ap, ◌∙◌}
use Rattle.std.proofs.lemmas.Str.{chars-nil}
use Rattle.std.specs.Str.{chars, encode_utf8_all}
use Rattle.std.proofs.lemmas.Bool.Decides.{same_from_decides, nat_tests}
use Rattle.aas_constraint_rules.specs.Lexical.{is_there}

pub told : (form : List ℕ → Type 0) (s bytes : List ℕ) (answer test : Bool) → bytes ≡ encode_utf8_all s → IsTrue answer ↔ form bytes → IsTrue test ↔ form (encode_utf8_all s) → answer ≡ test
told form s bytes answer test e h k = let at : IsTrue answer ↔ form (encode_utf8_all s) = subst (λ x. IsTrue answer ↔ form x) e h in same_from_decides answer test at k

pub told_by_characters : (form : List ℕ → Type 0) (s bytes : List ℕ) (answer test : Bool) → chars bytes ≡ s → IsTrue answer ↔ form (chars bytes) → IsTrue test ↔ form s → answer ≡ test
told_by_characters form s bytes answer test e h k = let at : IsTrue answer ↔ form s = subst (λ x. IsTrue answer ↔ form x) e h in same_from_decides answer test at k

both_positive : (m n : ℕ) → (suc m == 0) ≡ (suc n == 0)
both_positive m n = grind (arith, nat_tests)

-- a text has bytes where it has characters
pub no_bytes : (s bytes : List ℕ) (answer : Bool) → bytes ≡ encode_utf8_all s → chars bytes ≡ s → answer ≡ (length bytes == 0) → not answer ≡ is_there s
no_bytes s bytes answer e h is = ap not (is ∙ by_lists s bytes e h)
  where
    by_lists : (cs bs : List ℕ) → bs ≡ encode_utf8_all cs → chars bs ≡ cs → (length bs == 0) ≡ (length cs == 0)
    by_lists [] bs e h = ap (λ x. length x == 0) e
    by_lists (c ∷ cs) [] e h = let no : [] ≡ c ∷ cs = sym chars-nil ∙ h in cc
    by_lists (c ∷ cs) (b ∷ bs) e h = both_positive (length bs) (length cs)
