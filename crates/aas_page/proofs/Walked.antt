-- Walks over pages.
use Rattle.std.proofs.Common.{◌≡◌, ◌⊎◌, inl, inr, ⊎_elim, ℕ, zero, suc, Bool, true, false, List, [], ◌∷◌, ◌++◌, length, take, Option}
use Rattle.std.proofs.Common.{Some, None, refl, sym, ap, ◌∙◌, subst, arith}
use Rattle.std.specs.Prelude.{Contains}
use Rattle.std.specs.List.{last_or}
use Rattle.std.specs.FinMap as fin
use Rattle.std.specs.FinMap.{entries_sorted, get-entries}
use Rattle.std.proofs.lemmas.Bool.{ltb-false}
use Rattle.std.proofs.lemmas.List.{take_all, take-map}
use Rattle.std.proofs.lemmas.List.Elements.{Contains-append_left, Contains-append_right}
use Rattle.aas_lemmas.proofs.Truth.{Less-from_is_lt}
use Rattle.aas_store.specs.Documents.{Identifier, Map, is_above}
use Rattle.aas_store.proofs.Ordered.{order}
use Rattle.aas_page.specs.Pages.{left_after}
use Rattle.aas_page.specs.Walks.{IsWalk, ListsEachOnce, Look, Rise, Stays, listed, page_at}
use Rattle.aas_store.proofs.Above.{above_both}
use Rattle.aas_page.proofs.Following.{contains_first, contains_more, following, following_is, has_following, ids_of, rises}

-- ---- identifiers that rise

rise_take : (after : Option Identifier) (n : ℕ) (ids : List Identifier) → Rise after ids → Rise after (take n ids)
rise_take after zero ids rise = tt
rise_take after (suc n) [] rise = tt
rise_take after (suc n) (id ∷ ids) rise = (rise.0, rise_take (Some id) n ids rise.1)

rise_append : (after : Option Identifier) (ids more : List Identifier) → Rise after ids → Rise (last_or after ids) more
    → Rise after (ids ++ more)
rise_append after [] more rise rest = rest
rise_append after (id ∷ ids) more rise rest = (rise.0, rise_append (Some id) ids more rise.1 rest)

-- the first of a list, or another
contained : {X : Type 0} (x y : X) (xs : List X) → Contains (y ∷ xs) x → (y ≡ x) ⊎ Contains xs x
contained x y xs (zero, lt, is) = inl is
contained x y xs (suc k, lt, is) = inr (k, omega arith, is)

above_all : (id other : Identifier) (ids : List Identifier) → Rise (Some id) ids → Contains ids other → is_above (Some id) other ≡ true
above_all id other [] rise has = absurd (omega (arith, has.1))
above_all id other (next ∷ ids) rise has = ⊎_elim
    (λ same. subst (λ i. is_above (Some id) i ≡ true) same rise.0)
    (λ more. above_both (Some id) next other rise.0 (Less-from_is_lt (order next other) (above_all next other ids rise.1 more)))
    (contained other next ids has)

-- what rising identifiers contain is taken, or stands above the last one that is
taken_or_above : (after : Option Identifier) (n : ℕ) (ids : List Identifier) (id : Identifier) → Rise after ids → is_above after id ≡ true
    → Contains ids id
    → Contains (take n ids) id ⊎ (is_above (last_or after (take n ids)) id ≡ true)
taken_or_above after zero ids id rise above has = inr above
taken_or_above after (suc n) [] id rise above has = absurd (omega (arith, has.1))
taken_or_above after (suc n) (next ∷ ids) id rise above has = ⊎_elim
    (λ same. inl (subst (λ id. Contains (next ∷ take n ids) id) same (contains_first next (take n ids))))
    (λ more. ⊎_elim
    (λ taken. inl (contains_more id next (take n ids) taken))
    (λ behind. inr behind)
    (taken_or_above (Some next) n ids id rise.1 (above_all next id ids rise.1 more) more))
    (contained id next ids has)

module _ {X : Type 0} (passes : X → Bool) where
  -- ---- a page

  abbrev left : Option Identifier → Map X → List Identifier
  left after m = following passes after (fin.entries m)

  page_is : (after : Option Identifier) (look : Look X) → (page_at passes after look).entries ≡ take look.limit (left after look.documents)
  page_is after look =
      sym (take-map (λ (e : Identifier × X). e.0) look.limit (left_after passes after look.documents))
      ∙ ap (take look.limit) (sym (following_is passes after look.documents))

  last_page_is : (after : Option Identifier) (look : Look X) → (page_at passes after look).more ≡ false
      → (page_at passes after look).entries ≡ left after look.documents
  last_page_is after look last =
      let all = left_after passes after look.documents in
      ap ids_of (take_all look.limit all (ltb-false look.limit (length all) last)) ∙ sym (following_is passes after look.documents)

  left_rises : (after : Option Identifier) (m : Map X) → Rise after (left after m)
  left_rises after m = rises passes after (fin.entries m) (entries_sorted m)

  page_rises : (after : Option Identifier) (look : Look X) → Rise after (page_at passes after look).entries
  page_rises after look =
      subst (Rise after) (sym (page_is after look))
      (rise_take after look.limit (left after look.documents) (left_rises after look.documents))

  has_left : (after : Option Identifier) (m : Map X) (id : Identifier) → ((x : X) × (fin.get m id ≡ Some x) × (passes x ≡ true))
      → is_above after id ≡ true → Contains (left after m) id
  has_left after m id there above = has_following passes after (fin.entries m) id there.0 (sym (get-entries m id) ∙ there.1) there.2 above

  -- ---- a walk

  pub listed_rises : (after : Option Identifier) (looks : List (Look X)) → Rise after (listed passes after looks)
  listed_rises after [] = tt
  listed_rises after (look ∷ looks) =
      let ids = (page_at passes after look).entries in
      rise_append after ids (listed passes (last_or after ids) looks) (page_rises after look) (listed_rises (last_or after ids) looks)

  pub lists : (after : Option Identifier) (looks : List (Look X)) (id : Identifier) → IsWalk passes after looks → Stays passes id looks
      → is_above after id ≡ true
      → Contains (listed passes after looks) id
  lists after [] id walk stays above = absurd walk
  lists after (look ∷ []) id walk stays above =
      Contains-append_left (page_at passes after look).entries [] id
      (subst (λ ids. Contains ids id) (sym (last_page_is after look walk)) (has_left after look.documents id stays.0 above))
  lists after (look ∷ next ∷ looks) id walk stays above =
      let all = left after look.documents in
      let ids = (page_at passes after look).entries in
      let rest = listed passes (last_or after ids) (next ∷ looks) in
      let is = page_is after look in
      ⊎_elim
      (λ taken. Contains-append_left ids rest id (subst (λ ids. Contains ids id) (sym is) taken))
      (λ behind.
      let still : is_above (last_or after ids) id ≡ true = subst (λ ids. is_above (last_or after ids) id ≡ true) (sym is) behind in
      Contains-append_right ids rest id (lists (last_or after ids) (next ∷ looks) id walk.1 stays.1 still))
      (taken_or_above after look.limit all id (left_rises after look.documents) above (has_left after look.documents id stays.0 above))

pub lists_each_once : (X : Type 0) → ListsEachOnce X
lists_each_once X = record {
  each = λ passes looks id walk stays. lists passes None looks id walk stays refl;
  once = λ passes looks. listed_rises passes None looks;
}
