-- The identifiers of a map's entries that pass, from behind one on.
use Rattle.std.proofs.Common.{◌≡◌, ℕ, zero, suc, Bool, true, false, cond, ◌&&◌, T, List, [], ◌∷◌, map, slice_get, Option, Some, None}
use Rattle.std.proofs.Common.{refl, sym, ap, ap₂, ◌∙◌, subst, arith}
use Rattle.std.specs.Prelude.{filter, Contains}
use Rattle.std.specs.List.{find}
use Rattle.std.specs.Option.{option_map_or}
use Rattle.std.specs.Ordering.{is_eq, is_lt}
use Rattle.std.specs.declared.cmp.Ordering.{Ordering}
use Rattle.std.specs.declared.cmp.Ordering.TheVariants.{Less, Equal, Greater}
use Rattle.std.specs.FinMap as fin
use Rattle.std.proofs.lemmas.Cmp.{nat_list_cmp_total, tied_itself}
use Rattle.std.proofs.lemmas.List.Elements.{Contains-append_right}
use Rattle.std.proofs.lemmas.Option.{same_Some}
use Rattle.aas_store.specs.Documents.{Identifier, Map, first_above, is_above}
use Rattle.aas_store.proofs.Above.{above_both}
use Rattle.aas_store.proofs.Ordered.{order, greater, head_below, same_id, tail}
use Rattle.aas_page.specs.Pages.{left_after}
use Rattle.aas_page.specs.Walks.{Rise}

abbrev Entries : Type 0 → Type 0
Entries X = List (Identifier × X)

abbrev pub ids_of : {X : Type 0} → Entries X → List Identifier
ids_of es = map (λ e. e.0) es

-- ---- identifiers above one

not_above_itself : (id : Identifier) → is_above (Some id) id ≡ false
not_above_itself id = ap is_lt (tied_itself nat_list_cmp_total id)

pub contains_first : {X : Type 0} (x : X) (xs : List X) → Contains (x ∷ xs) x
contains_first x xs = (zero, omega arith, refl)

pub contains_more : {X : Type 0} (x y : X) (xs : List X) → Contains xs x → Contains (y ∷ xs) x
contains_more x y xs has = Contains-append_right (y ∷ []) xs x has

-- where an identifier that is found stands
pub found_entry : {X : Type 0} (p : Identifier → Bool) (es : Entries X) (id : Identifier) → find p (ids_of es) ≡ Some id
    → (j : ℕ) × (x : X) × (slice_get es j ≡ Some (id, x))
found_entry p [] id is = absurd (cc)
found_entry {X = X} p (e ∷ es) id is = by (p e.0) (found_entry p es id) is
  where
    Found : Entries X → Type 0
    Found es = (j : ℕ) × (x : X) × (slice_get es j ≡ Some (id, x))

    by : (b : Bool) → (find p (ids_of es) ≡ Some id → Found es) → cond b (Some e.0) (find p (ids_of es)) ≡ Some id → Found (e ∷ es)
    by true rest is = (zero, e.1, ap (λ id. Some (id, e.1)) (same_Some e.0 id is))
    by false rest is = let there = rest is in (suc there.0, there.1, there.2)

module _ {X : Type 0} (passes : X → Bool) where
  passing : Option Identifier → Identifier × X → Bool
  passing after e = is_above after e.0 && passes e.1

  pub following : Option Identifier → Entries X → List Identifier
  following after es = ids_of (filter (passing after) es)

  pub following_is : (after : Option Identifier) (m : Map X) → following after (fin.entries m) ≡ ids_of (left_after passes after m)
  unfolding following passing
  following_is after m = refl

  first_or_not : (b : Bool) (e : Identifier × X) (es : Entries X) → ids_of (cond b (e ∷ es) es) ≡ cond b (e.0 ∷ ids_of es) (ids_of es)
  first_or_not true e es = refl
  first_or_not false e es = refl

  -- the first entry passes or not
  first : (after : Option Identifier) (e : Identifier × X) (es : Entries X) (b : Bool) → passing after e ≡ b
      → following after (e ∷ es) ≡ cond b (e.0 ∷ following after es) (following after es)
  unfolding following
  first after e es b is = let rest = filter (passing after) es in ap (λ b. ids_of (cond b (e ∷ rest) rest)) is ∙ first_or_not b e rest

  passed_over : (after : Option Identifier) (e : Identifier × X) (es : Entries X) → is_above after e.0 ≡ false
      → following after (e ∷ es) ≡ following after es
  unfolding passing
  passed_over after e es below = first after e es false (ap (λ b. b && passes e.1) below)

  looked_at : (after : Option Identifier) (e : Identifier × X) (es : Entries X) → is_above after e.0 ≡ true
      → following after (e ∷ es) ≡ cond (passes e.1) (e.0 ∷ following after es) (following after es)
  unfolding passing
  looked_at after e es above = first after e es (passes e.1) (ap (λ b. b && passes e.1) above)

  -- behind two identifiers that are below all entries
  below_all_alike : (a b : Option Identifier) (es : Entries X)
      → ((j : ℕ) (e : Identifier × X) → slice_get es j ≡ Some e → (is_above a e.0 ≡ true) × (is_above b e.0 ≡ true))
      → following a es ≡ following b es
  unfolding following
  below_all_alike a b [] above = refl
  below_all_alike a b (e ∷ es) above =
      looked_at a e es (above zero e refl).0
      ∙ ap (λ ids. cond (passes e.1) (e.0 ∷ ids) ids) (below_all_alike a b es (λ j f at. above (suc j) f at))
      ∙ sym (looked_at b e es (above zero e refl).1)

  -- behind the first entry, which is above another identifier
  behind_first : (after : Option Identifier) (e : Identifier × X) (es : Entries X) → T (fin.is_sorted order (e ∷ es))
      → is_above after e.0 ≡ true → following after es ≡ following (Some e.0) es
  behind_first after e es sorted above =
      below_all_alike after (Some e.0) es (λ j f at.
      let below = head_below e f es j sorted at in
      (above_both after e.0 f.0 above below, ap is_lt below))

  -- ---- the next identifier

  abbrev GoesOn : Option Identifier → Identifier → Entries X → Type 0
  GoesOn after id es =
      let rest = following (Some id) es in
      following after es ≡ cond (option_map_or passes (fin.find order id es) false) (id ∷ rest) rest

  next_is_first : (after : Option Identifier) (e : Identifier × X) (es : Entries X) → T (fin.is_sorted order (e ∷ es))
      → is_above after e.0 ≡ true → GoesOn after e.0 (e ∷ es)
  next_is_first after e es sorted above =
      let rest = following (Some e.0) (e ∷ es) in
      let same = behind_first after e es sorted above ∙ sym (passed_over (Some e.0) e es (not_above_itself e.0)) in
      looked_at after e es above
      ∙ ap (λ ids. cond (passes e.1) (e.0 ∷ ids) ids) same
      ∙ ap (λ b. cond (option_map_or passes (cond b (Some e.1) (fin.find order e.0 es)) false) (e.0 ∷ rest) rest)
      (sym (ap is_eq (tied_itself nat_list_cmp_total e.0)))

  next_is_later : (after : Option Identifier) (id : Identifier) (e : Identifier × X) (es : Entries X) → is_above after e.0 ≡ false
      → order e.0 id ≡ Less → GoesOn after id es → GoesOn after id (e ∷ es)
  next_is_later after id e es below less rest =
      passed_over after e es below ∙ rest
      ∙ ap₂ (λ found ids. cond (option_map_or passes found false) (id ∷ ids) ids)
      (sym (ap (λ r. cond (is_eq r) (Some e.1) (fin.find order id es)) (greater e.0 id less)))
      (sym (passed_over (Some id) e es (ap is_lt (greater e.0 id less))))

  pub goes_on_after : (after : Option Identifier) (es : Entries X) (id : Identifier) → T (fin.is_sorted order es)
      → first_above after (ids_of es) ≡ Some id → GoesOn after id es
  goes_on_after after [] id sorted is = absurd (cc)
  goes_on_after after (e ∷ es) id sorted is = by (is_above after e.0) refl (goes_on_after after es id (tail e es sorted)) is
    where
      by : (b : Bool) → is_above after e.0 ≡ b → (first_above after (ids_of es) ≡ Some id → GoesOn after id es)
          → cond b (Some e.0) (first_above after (ids_of es)) ≡ Some id → GoesOn after id (e ∷ es)
      by true above rest is = subst (λ id. GoesOn after id (e ∷ es)) (same_Some e.0 id is) (next_is_first after e es sorted above)
      by false below rest is =
          let there = found_entry (is_above after) es id is in
          next_is_later after id e es below (head_below e (id, there.1) es there.0 sorted there.2) (rest is)

  pub ends_after : (after : Option Identifier) (es : Entries X) → first_above after (ids_of es) ≡ None → following after es ≡ []
  unfolding following
  ends_after after [] is = refl
  ends_after after (e ∷ es) is = by (is_above after e.0) refl (ends_after after es) is
    where
      by : (b : Bool) → is_above after e.0 ≡ b → (first_above after (ids_of es) ≡ None → following after es ≡ [])
          → cond b (Some e.0) (first_above after (ids_of es)) ≡ None → following after (e ∷ es) ≡ []
      by true above rest is = absurd (cc)
      by false below rest is = passed_over after e es below ∙ rest is

  -- ---- all that follows

  pub rises : (after : Option Identifier) (es : Entries X) → T (fin.is_sorted order es) → Rise after (following after es)
  unfolding following
  rises after [] sorted = tt
  rises after (e ∷ es) sorted = by (is_above after e.0) refl (λ a. rises a es (tail e es sorted))
    where
      kept : (b : Bool) → is_above after e.0 ≡ true → ((a : Option Identifier) → Rise a (following a es))
          → Rise after (cond b (e.0 ∷ following after es) (following after es))
      kept true above rest = (above, subst (Rise (Some e.0)) (sym (behind_first after e es sorted above)) (rest (Some e.0)))
      kept false above rest = rest after

      by : (b : Bool) → is_above after e.0 ≡ b → ((a : Option Identifier) → Rise a (following a es)) → Rise after (following after (e ∷ es))
      by true above rest = subst (Rise after) (sym (looked_at after e es above)) (kept (passes e.1) above rest)
      by false below rest = subst (Rise after) (sym (passed_over after e es below)) (rest after)

  pub has_following : (after : Option Identifier) (es : Entries X) (id : Identifier) (x : X) → fin.find order id es ≡ Some x
      → passes x ≡ true → is_above after id ≡ true → Contains (following after es) id
  has_following after [] id x is pass above = absurd (cc)
  has_following after (e ∷ es) id x is pass above = by (order id e.0) refl (λ is. has_following after es id x is pass above) is
    where
      kept : (b : Bool) → Contains (following after es) id → Contains (cond b (e.0 ∷ following after es) (following after es)) id
      kept true has = contains_more id e.0 (following after es) has
      kept false has = has

      later : Contains (following after es) id → Contains (following after (e ∷ es)) id
      later has = subst (λ ids. Contains ids id) (sym (first after e es (passing after e) refl)) (kept (passing after e) has)

      by : (r : Ordering) → order id e.0 ≡ r → (fin.find order id es ≡ Some x → Contains (following after es) id)
          → cond (is_eq r) (Some e.1) (fin.find order id es) ≡ Some x → Contains (following after (e ∷ es)) id
      by Less less rest is = later (rest is)
      by Equal same rest is =
          let own : id ≡ e.0 = same_id id e.0 same in
          let more = following after es in
          subst (λ ids. Contains ids id) (sym (looked_at after e es (subst (λ id. is_above after id ≡ true) own above)))
          (subst (λ b. Contains (cond b (e.0 ∷ more) more) id) (sym (ap passes (same_Some e.1 x is) ∙ pass))
          (subst (λ id. Contains (e.0 ∷ more) id) (sym own) (contains_first e.0 more)))
      by Greater more rest is = later (rest is)
