-- A set of texts, and the list of texts for which it stands.
use Rattle.std.proofs.Common.{◌≡◌, ℕ, Bool, true, false, not, ◌||◌, List, [], ◌∷◌, ◌++◌, bytes_eq, filter_map, Some, None, subst, refl, sym, ap, ap₂, ◌∙◌}
use Rattle.std.specs.Str.{IsUtf8, chars}
use Rattle.std.specs.List.{list_any}
use Rattle.std.specs.Ordering.{nat_cmp, match_ordering, is_eq}
use Rattle.std.specs.Cmp.Lexicographic.{slice_cmp}
use Rattle.std.specs.declared.cmp.Ordering.{Ordering}
use Rattle.std.specs.declared.cmp.Ordering.TheVariants.{Less, Equal, Greater}
use Rattle.std.specs.BTreeSet.{BTreeSet, insert_key}
use Rattle.std.proofs.lemmas.Slice.Eq.{bytes_eq-Decides}
use Rattle.std.specs.BTreeMap.{is_at}
use Rattle.std.proofs.lemmas.Map.Text.{is_eq-slice_cmp}
use Rattle.std.proofs.Math.Bool.{or_assoc}
use Rattle.aas_model_text.proofs.Texts.{bytes_eq-chars}
use denote.Ref.{Bor}
use Rattle.aas_constraint_rules.specs.Texts.{is_among}
use Rattle.aas_constraint_parts.specs.Repeats.{HasTexts}
use Rattle.aas_constraint_rules.specs.Sites.{Own}
use Rattle.aas_constraint_rules.specs.Rules.{name_of}
use Rattle.aas_constraint_parts.proofs.Lists.{filtered_some, filtered_none}

or_swap : (a b c : Bool) → a || (b || c) ≡ b || (a || c)
or_swap true true c = refl
or_swap true false c = refl
or_swap false b c = refl

same_twice : (a b : Bool) → a ≡ b → b ≡ a || b
same_twice true b e = sym e
same_twice false b e = refl

any-insert_at : {K : Type 0} (cmp : K → K → Ordering) (test : K → Bool) (x k : K) (xs rest : List K) (o : Ordering) → (o ≡ Equal → test k ≡ test x)
    → list_any test rest ≡ test k || list_any test xs
    → list_any test (match_ordering o (k ∷ x ∷ xs) (x ∷ xs) (x ∷ rest)) ≡ test k || list_any test (x ∷ xs)
any-insert_at cmp test x k xs rest Less same ih = refl
any-insert_at cmp test x k xs rest Equal same ih = ap (λ b. b || list_any test xs) (same_twice (test k) (test x) (same refl)) ∙ or_assoc (test k) (test x) (list_any test xs)
any-insert_at cmp test x k xs rest Greater same ih = ap (λ b. test x || b) ih ∙ or_swap (test x) (test k) (list_any test xs)

-- a test of the keys once one was inserted, where equal keys pass alike
pub any-insert : {K : Type 0} (cmp : K → K → Ordering) (test : K → Bool) → ((x y : K) → cmp x y ≡ Equal → test x ≡ test y) → (xs : List K) (k : K)
    → list_any test (insert_key cmp xs k) ≡ test k || list_any test xs
any-insert cmp test same [] k = refl
any-insert cmp test same (x ∷ xs) k = any-insert_at cmp test x k xs (insert_key cmp xs k) (cmp k x) (same k x) (any-insert cmp test same xs k)

-- the texts, and one more
among-last : (t text : List ℕ) (texts : List (List ℕ)) → is_among t (texts ++ text ∷ []) ≡ bytes_eq t text || is_among t texts
among-last t text [] = refl
among-last t text (x ∷ xs) = ap (λ b. bytes_eq t x || b) (among-last t text xs) ∙ or_swap (bytes_eq t x) (bytes_eq t text) (is_among t xs)

any_same : {K : Type 0} (p q : K → Bool) → ((x : K) → p x ≡ q x) → (xs : List K) → list_any p xs ≡ list_any q xs
any_same p q same [] = refl
any_same p q same (x ∷ xs) = ap₂ (λ a b. a || b) (same x) (any_same p q same xs)

not_twice : (b : Bool) → not (not b) ≡ b
not_twice true = refl
not_twice false = refl

abbrev Key : Type 0
Key = Bor (List ℕ)

abbrev by_bytes : Key → Key → Ordering
by_bytes a b = slice_cmp nat_cmp a.now b.now

-- whether the text is there
pub again : (s : BTreeSet Key) (k : Key) (is_new : Bool) → IsUtf8 k.now → is_new ≡ not (list_any (is_at (by_bytes k)) s.keys) → (texts : List (List ℕ)) → HasTexts s texts
    → not is_new ≡ is_among (chars k.now) texts
again s k is_new u e texts has = ap not e ∙ not_twice _ ∙ any_same (is_at (by_bytes k)) (λ x. bytes_eq k.now x.now) (λ x. is_eq-slice_cmp k.now x.now) s.keys ∙ has k.now u

equal_keys : (x y : Key) → by_bytes x y ≡ Equal → x.now ≡ y.now
equal_keys x y e = (bytes_eq-Decides x.now y.now).0 (sym (is_eq-slice_cmp x.now y.now) ∙ ap is_eq e)

-- the text is there afterwards
pub one_more : (s n : BTreeSet Key) (k : Key) → IsUtf8 k.now → n.keys ≡ insert_key by_bytes s.keys k → (texts : List (List ℕ)) → HasTexts s texts → HasTexts n (texts ++ chars k.now ∷ [])
one_more s n k uk e texts has bytes u =
    ap (list_any (λ x. bytes_eq bytes x.now)) e
    ∙ any-insert by_bytes (λ x. bytes_eq bytes x.now) (λ x y same. ap (bytes_eq bytes) (equal_keys x y same)) s.keys k
    ∙ ap₂ (λ a b. a || b) (bytes_eq-chars bytes k.now u uk) (has bytes u)
    ∙ sym (among-last (chars bytes) (chars k.now) texts)

-- ---- the names of siblings, and one more

pub has_more : (s : BTreeSet Key) (b : List Own) (o : Own) (t : List ℕ) → name_of o ≡ Some t → HasTexts s (filter_map name_of b ++ t ∷ []) → HasTexts s (filter_map name_of (b ++ o ∷ []))
has_more s b o t is has = subst (HasTexts s) (sym (filtered_some name_of b o t is)) has

pub has_same : (s : BTreeSet Key) (b : List Own) (o : Own) → name_of o ≡ None → HasTexts s (filter_map name_of b) → HasTexts s (filter_map name_of (b ++ o ∷ []))
has_same s b o is has = subst (HasTexts s) (sym (filtered_none name_of b o is)) has
