-- Identifiers in order, and those of them above another one.
use Rattle.std.proofs.Common.{◌≡◌, suc, ◌<◌, Bool, true, false, cond, T, List, [], ◌∷◌, length, map, Option, Some, None}
use Rattle.std.proofs.Common.{refl, sym, ap, ◌∙◌, subst, arith}
use Rattle.std.specs.Prelude.{filter}
use Rattle.std.specs.List.{AllByRecursion, find}
use Rattle.std.specs.List.Sorted.{IsStrictlySortedBy}
use Rattle.std.specs.Ordering.{is_lt, ordering_reverse}
use Rattle.std.specs.declared.cmp.Ordering.TheVariants.{Less, Greater}
use Rattle.std.specs.FinMap as fin
use Rattle.std.specs.FinMap.{entries_sorted}
use Rattle.std.specs.FinMap.Entries.{below_all, is_sorted}
use Rattle.std.proofs.lemmas.Cmp.{nat_list_cmp_total, tied_itself}
use Rattle.std.proofs.lemmas.Map.Keys.{sorted_head, sorted_tail}
use Rattle.aas_lemmas.proofs.Truth.{Less-from_is_lt}
use Rattle.aas_model_names.specs.declared.collection.Collection.{Collection}
use Rattle.aas_model_names.specs.declared.collection.Collection.TheVariants.{Shells, Submodels, Concepts}
use Rattle.aas_store.specs.Documents.{Documents, Identifier, first_above, ids, is_above}
use Rattle.aas_store.proofs.Ordered.{less, order, parts}

abbrev AreAbove : Identifier → List Identifier → Type 0
AreAbove id ids = AllByRecursion (λ other. order id other ≡ Less) ids

-- ---- the identifiers of a collection rise

keys_above : {X : Type 0} (id : Identifier) (es : List (Identifier × X)) → T (below_all order id es) → AreAbove id (map (λ (e : Identifier × X). e.0) es)
keys_above id [] h = tt
keys_above id (e ∷ es) h = let both = parts (is_lt (order id e.0)) (below_all order id es) h in (less (order id e.0) both.0, keys_above id es both.1)

pub keys_rise : {X : Type 0} (es : List (Identifier × X)) → T (is_sorted order es) → IsStrictlySortedBy order (map (λ (e : Identifier × X). e.0) es)
unfolding IsStrictlySortedBy
keys_rise [] h = tt
keys_rise (e ∷ es) h = let both = parts (below_all order e.0 es) (is_sorted order es) h in (keys_above e.0 es both.0, keys_rise es both.1)

pub ids_rise : (c : Collection) (m : Documents) → IsStrictlySortedBy order (ids c m)
ids_rise Shells m = keys_rise (fin.entries m.shells) (entries_sorted m.shells)
ids_rise Submodels m = keys_rise (fin.entries m.submodels) (entries_sorted m.submodels)
ids_rise Concepts m = keys_rise (fin.entries m.concepts) (entries_sorted m.concepts)

-- ---- those above another one

abbrev pub above : Option Identifier → List Identifier → List Identifier
above after all = filter (is_above after) all

pub all_above_none : (all : List Identifier) → above None all ≡ all
all_above_none [] = refl
all_above_none (x ∷ xs) = ap (λ l. x ∷ l) (all_above_none xs)

pub above_both : (after : Option Identifier) (a b : Identifier) → is_above after a ≡ true → order a b ≡ Less → is_above after b ≡ true
above_both None a b high lower = refl
above_both (Some id) a b high lower = ap is_lt (nat_list_cmp_total.trans id a b (Less-from_is_lt (order id a) high) lower)

all_behind : (after : Option Identifier) (id : Identifier) (all : List Identifier) → is_above after id ≡ true → AreAbove id all → above after all ≡ all
all_behind after id [] high h = refl
all_behind after id (x ∷ xs) high h =
    ap (λ b. cond b (x ∷ above after xs) (above after xs)) (above_both after id x high h.0) ∙ ap (λ l. x ∷ l) (all_behind after id xs high h.1)

all_above : (id : Identifier) (all : List Identifier) → AreAbove id all → above (Some id) all ≡ all
all_above id [] h = refl
all_above id (x ∷ xs) h = ap (λ r. cond (is_lt r) (x ∷ above (Some id) xs) (above (Some id) xs)) h.0 ∙ ap (λ l. x ∷ l) (all_above id xs h.1)

found_above : (test : Identifier → Bool) (id x : Identifier) (all : List Identifier) → AreAbove id all → find test all ≡ Some x → order id x ≡ Less
found_above test id x [] h is = absurd (cc)
found_above test id x (y ∷ ys) h is = by (found_above test id x ys h.1) (test y) is
  where
    by : (find test ys ≡ Some x → order id x ≡ Less) → (b : Bool) → cond b (Some y) (find test ys) ≡ Some x → order id x ≡ Less
    by rest true is = let same : y ≡ x = cc in subst (λ x. order id x ≡ Less) same h.0
    by rest false is = rest is

-- the first of those above
pub next : (after : Option Identifier) (id : Identifier) (all : List Identifier) → IsStrictlySortedBy order all → first_above after all ≡ Some id → above after all ≡ id ∷ above (Some id) all
next after id [] rise is = absurd (cc)
next after id (x ∷ xs) rise is = by (next after id xs (sorted_tail order x xs rise)) (is_above after x) refl is
  where
    first : is_above after x ≡ true → x ∷ above after xs ≡ x ∷ above (Some x) (x ∷ xs)
    first high =
        let higher = sorted_head order x xs rise in
        ap (λ l. x ∷ l) (all_behind after x xs high higher ∙ sym (all_above x xs higher) ∙ ap (λ r. cond (is_lt r) (x ∷ above (Some x) xs) (above (Some x) xs)) (sym (tied_itself nat_list_cmp_total x)))

    by : (first_above after xs ≡ Some id → above after xs ≡ id ∷ above (Some id) xs) → (b : Bool) → is_above after x ≡ b → cond b (Some x) (find (is_above after) xs) ≡ Some id
        → cond b (x ∷ above after xs) (above after xs) ≡ id ∷ above (Some id) (x ∷ xs)
    by rest true high is = let same : x ≡ id = cc in subst (λ id. x ∷ above after xs ≡ id ∷ above (Some id) (x ∷ xs)) same (first high)
    by rest false high is =
        let lower : order id x ≡ Greater = nat_list_cmp_total.antisymm id x ∙ ap ordering_reverse (found_above (is_above after) x id xs (sorted_head order x xs rise) is) in
        rest is ∙ ap (λ r. id ∷ cond (is_lt r) (x ∷ above (Some id) xs) (above (Some id) xs)) (sym lower)

pub none_above : (after : Option Identifier) (all : List Identifier) → first_above after all ≡ None → above after all ≡ []
none_above after [] is = refl
none_above after (x ∷ xs) is = by (none_above after xs) (is_above after x) is
  where
    by : (first_above after xs ≡ None → above after xs ≡ []) → (b : Bool) → cond b (Some x) (find (is_above after) xs) ≡ None → cond b (x ∷ above after xs) (above after xs) ≡ []
    by rest true is = absurd (cc)
    by rest false is = rest is

pub fewer_left : (c : Collection) (m : Documents) (after : Option Identifier) (id : Identifier) → first_above after (ids c m) ≡ Some id
    → length (above (Some id) (ids c m)) < length (above after (ids c m))
fewer_left c m after id is = let more : length (above after (ids c m)) ≡ suc (length (above (Some id) (ids c m))) = ap length (next after id (ids c m) (ids_rise c m) is) in omega (arith, more)
