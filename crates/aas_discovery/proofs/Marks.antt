-- What the places of a list of identifiers say of their set.
use Rattle.std.proofs.Common.{◌≡◌, ℕ, zero, suc, ◌<◌, ◌≤◌, ◌-◌, T, List, [], ◌∷◌, map, length, get_or}
use Rattle.std.proofs.Common.{slice_get, cond, Some, None, Result, Ok, Err, MatchResult, OnOk, OnErr, option_map, Bool}
use Rattle.std.proofs.Common.{true, false, not, drop, refl, sym, ap, ◌∙◌, subst, arith}
use Rattle.std.specs.Prelude.{filter, ⊤}
use Rattle.std.specs.Str.{encode_utf8_all}
use Rattle.std.specs.List.{insert, remove}
use Rattle.std.specs.List.Sorted.{IsBinarySearchResult, IsNonDecreasingBy, IsPartitionPoint, IsPartitionedBy}
use Rattle.std.specs.List.Sorted.{IsSearchInRange}
use Rattle.std.specs.FinMap as fin
use Rattle.std.specs.FinMap.{FinMap, entries-from_sorted, entries_sorted, entries-insert, get-entries, get-from_sorted}
use Rattle.std.specs.FinMap.{get-remove, same_map}
use Rattle.std.specs.Ordering.{is_le, is_lt, ordering_index, ordering_reverse, eq_by_cmp}
use Rattle.std.proofs.lemmas.Cmp.{nat_list_cmp_total}
use Rattle.std.proofs.lemmas.List.{length-map}
use Rattle.std.proofs.lemmas.Option.{slice_get-map, slice_get_within, slice_get-get_or, get_or_from_slice_get}
use Rattle.std.proofs.lemmas.Simd.{map-map}
use Rattle.std.specs.declared.cmp.Ordering.{Ordering}
use Rattle.std.specs.declared.cmp.Ordering.TheVariants.{Less, Equal, Greater}
use Rattle.aas_store.specs.Documents.{is_above}
use Rattle.aas_store.specs.Places.{IsAt, IsGapFor}
use Rattle.aas_store.proofs.Ordered.{order, same_id, keys_compare, not_above_stand_first, rising, sorted_removed, put_between}
use Rattle.aas_store.proofs.Ordered.{found_removed}
use Rattle.aas_store.proofs.Shelves.{gap_behind, map-insert, map-remove, mapped_at, some_at, stands_for}
use Rattle.aas_discovery.specs.Ids.{marks}

-- ---- a list of identifiers and its set

module _ (ids : List (List ℕ)) (sorted : T (fin.is_sorted order (marks ids))) (m : FinMap order ⊤)
    (view : fin.from_sorted (marks ids) ≡ m) where
  entries_are : fin.entries m ≡ marks ids
  entries_are = ap fin.entries (sym view) ∙ entries-from_sorted order (marks ids) sorted

  length_is : length ids ≡ length (fin.entries m)
  length_is = sym (length-map ids _) ∙ ap length (sym entries_are)

  pub keys_are : map encode_utf8_all ids ≡ fin.keys m
  keys_are = sym (ap (map (λ (e : List ℕ × ⊤). e.0)) entries_are ∙ map-map _ _ ids)

  mark_at : (i : ℕ) (id : List ℕ) → slice_get ids i ≡ Some id
      → slice_get (fin.entries m) i ≡ Some (encode_utf8_all id, tt)
  mark_at i id at = ap (λ es. slice_get es i) entries_are ∙ slice_get-map _ ids i ∙ ap (option_map _) at

  id_at : (i : ℕ) (e : List ℕ × ⊤) → slice_get (fin.entries m) i ≡ Some e
      → (id : List ℕ) × (slice_get ids i ≡ Some id) × (◌≡◌ {A = List ℕ × ⊤} (encode_utf8_all id, tt) e)
  id_at i e at = mapped_at _ ids i e (ap (λ es. slice_get es i) (sym entries_are) ∙ at)

  pub is_within : (id : List ℕ) (place : ℕ) → IsAt m id place → place < length ids
  is_within id place at = subst (λ n. place < n) (sym length_is) (slice_get_within (fin.entries m) place _ at.1)

  pub gap_within : (id : List ℕ) (place : ℕ) → IsGapFor m id place → place ≤ length ids
  gap_within id place gap = subst (λ n. place ≤ n) (sym length_is) gap.within

  -- ---- a search

  mark_read : (i : ℕ) (d : List ℕ) → i < length ids → slice_get (marks ids) i
      ≡ Some (encode_utf8_all (get_or ids i d), tt)
  mark_read i d lt = slice_get-map _ ids i ∙ ap (option_map _) (slice_get-get_or ids i d lt)

  rises : (id : List ℕ) → IsNonDecreasingBy (λ own. ordering_index (order (encode_utf8_all own) id)) ids
  rises id = keys_compare encode_utf8_all id ids
      (λ i j d less lt. rising (marks ids) i j _ _ sorted less (mark_read i d (omega arith)) (mark_read j d lt))

  compared : (i : ℕ) (e : List ℕ × ⊤) (id : List ℕ) (at : slice_get (fin.entries m) i ≡ Some e)
      → order (encode_utf8_all (get_or ids i (id_at i e at).0)) id ≡ order e.0 id
  compared i e id at =
      let own = id_at i e at in
      ap (λ (own : List ℕ). order (encode_utf8_all own) id) (get_or_from_slice_get ids i own.0 own.0 own.1)
      ∙ ap (λ (e : List ℕ × ⊤). order e.0 id) own.2

  pub searched : (id : List ℕ) (r : Result ℕ ℕ) → IsSearchInRange r (length ids)
      → IsBinarySearchResult (λ own. order (encode_utf8_all own) id) ids r → MatchResult r (IsAt m id) (IsGapFor m id)
  searched id (Ok place) within at =
      let own = some_at ids place within in
      let tied : encode_utf8_all own.0 ≡ id = ap encode_utf8_all
      (sym (get_or_from_slice_get ids place own.0 own.0 own.1)) ∙ same_id _ id (at own.0) in
      (tt, mark_at place own.0 own.1 ∙ ap (λ k. Some (k, tt)) tied)
  searched id (Err place) within parted = record {
    within = subst (λ n. place ≤ n) length_is within;
    below = λ i e lt at. sym (compared i e id at) ∙ (parted (rises id)).0 i (id_at i e at).0 (omega arith) lt;
    above = λ i e le at. nat_list_cmp_total.antisymm id e.0
        ∙ ap ordering_reverse (sym (compared i e id at)
        ∙ (parted (rises id)).1 i (id_at i e at).0 le (slice_get_within ids i _ (id_at i e at).1));
  }

  pub behind_last : (id last : List ℕ) → slice_get ids (length ids - 1) ≡ Some last
      → order (encode_utf8_all last) id ≡ Less → IsGapFor m id (length ids)
  behind_last id last at less = subst (IsGapFor m id) (sym length_is) (gap_behind m id _
      (ap (λ n. slice_get (fin.entries m) (n - 1)) (sym length_is) ∙ mark_at (length ids - 1) last at) less)

  -- ---- what is changed

  inserted : (id : List ℕ) (place : ℕ) → IsGapFor m (encode_utf8_all id) place
      → marks (insert ids place id) ≡ fin.entries (fin.insert m (encode_utf8_all id) tt)
  inserted id place gap =
      map-insert _ ids place id (subst (λ n. place ≤ n) (sym length_is) gap.within)
      ∙ sym (entries-insert nat_list_cmp_total m (encode_utf8_all id) tt
      ∙ put_between (fin.entries m) place (encode_utf8_all id) tt gap.within gap.below gap.above
      ∙ ap (λ es. insert es place (encode_utf8_all id, tt)) entries_are)

  pub sorted_after_insert : {A B : Type 0} (r : Result A B) (new : List (List ℕ)) (id : List ℕ) (place : ℕ)
      → IsGapFor m (encode_utf8_all id) place → OnOk r (new ≡ insert ids place id) → OnErr r (new ≡ ids)
      → T (fin.is_sorted order (marks new))
  sorted_after_insert (Ok a) new id place gap ok err =
      (stands_for (marks new) _ (ap marks ok ∙ inserted id place gap)).0
  sorted_after_insert (Err b) new id place gap ok err = subst (λ ids. T (fin.is_sorted order (marks ids))) (sym err)
      sorted

  pub stands_after_insert : {A B : Type 0} (r : Result A B) (new : List (List ℕ)) (id key : List ℕ) (place : ℕ)
      → IsGapFor m (encode_utf8_all id) place → encode_utf8_all id ≡ key → OnOk r (new ≡ insert ids place id)
      → OnOk r (fin.from_sorted (marks new) ≡ fin.insert m key tt)
  stands_after_insert (Ok a) new id key place gap same ok =
      (stands_for (marks new) _ (ap marks ok ∙ inserted id place gap)).1 ∙ ap (λ k. fin.insert m k tt) same
  stands_after_insert (Err b) new id key place gap same ok = tt

  pub removed : (id : List ℕ) (place : ℕ) → IsAt m id place
      → T (fin.is_sorted order (marks (remove ids place)))
      × (fin.from_sorted (marks (remove ids place)) ≡ fin.remove m id)
  removed id place at =
      let same : marks (remove ids place) ≡ remove (fin.entries m) place = map-remove _ ids place
      ∙ ap (λ es. remove es place) (sym entries_are) in
      let in_order : T (fin.is_sorted order (marks (remove ids place))) =
      subst (λ (es : List (List ℕ × ⊤)). T (fin.is_sorted order es)) (sym same)
      (sorted_removed (fin.entries m) place (entries_sorted m)) in (
        in_order,
        same_map nat_list_cmp_total same_id _ _ (λ q.
            get-from_sorted order _ q in_order ∙ ap (fin.find order q) same
            ∙ found_removed (fin.entries m) place id at.0 q (entries_sorted m) at.1
            ∙ ap (cond (eq_by_cmp order q id) None) (sym (get-entries m q))
            ∙ sym (get-remove nat_list_cmp_total m id q)),
      )

  pub not_above_first : (a : List ℕ) → IsPartitionedBy (λ own. is_le (order (encode_utf8_all own) a)) ids
  not_above_first a = not_above_stand_first encode_utf8_all a ids (rises a)

-- ---- those above another one

filter_at_point : {X : Type 0} (p : X → Bool) (xs : List X) (i : ℕ)
    → ((j : ℕ) (x : X) → j < i → slice_get xs j ≡ Some x → p x ≡ false)
    → ((j : ℕ) (x : X) → i ≤ j → slice_get xs j ≡ Some x → p x ≡ true) → filter p xs ≡ drop i xs
filter_at_point p [] zero fails passes = refl
filter_at_point p [] (suc i) fails passes = refl
filter_at_point p (x ∷ xs) zero fails passes =
    ap (λ b. cond b (x ∷ filter p xs) (filter p xs)) (passes zero x (omega arith) refl)
    ∙ ap (λ ys. x ∷ ys) (filter_at_point p xs zero (λ j y lt at. absurd (omega arith))
    (λ j y le at. passes (suc j) y (omega arith) at))
filter_at_point p (x ∷ xs) (suc i) fails passes =
    ap (λ b. cond b (x ∷ filter p xs) (filter p xs)) (fails zero x (omega arith) refl)
    ∙ filter_at_point p xs i (λ j y lt at. fails (suc j) y (omega arith) at)
    (λ j y le at. passes (suc j) y (omega arith) at)

above_where_not : (a k : List ℕ) (b : Bool) → is_le (order k a) ≡ b → is_above (Some a) k ≡ not b
above_where_not a k b e = ap is_lt (nat_list_cmp_total.antisymm a k) ∙ by (order k a) ∙ ap not e
  where
    by : (r : Ordering) → is_lt (ordering_reverse r) ≡ not (is_le r)
    by Less = refl
    by Equal = refl
    by Greater = refl

map-drop : {X Y : Type 0} (f : X → Y) (n : ℕ) (xs : List X) → map f (drop n xs) ≡ drop n (map f xs)
map-drop f zero xs = refl
map-drop f (suc n) [] = refl
map-drop f (suc n) (x ∷ xs) = map-drop f n xs

pub above_point : (ids : List (List ℕ)) (a : List ℕ) (place : ℕ)
    → IsPartitionPoint (λ own. is_le (order (encode_utf8_all own) a) ≡ true)
    (λ own. is_le (order (encode_utf8_all own) a) ≡ false) ids place
    → map encode_utf8_all (drop place ids) ≡ filter (is_above (Some a)) (map encode_utf8_all ids)
above_point ids a place point =
    map-drop encode_utf8_all place ids
    ∙ sym (filter_at_point (is_above (Some a)) (map encode_utf8_all ids) place
    (λ j k lt at. let own = mapped_at encode_utf8_all ids j k at in
    ap (is_above (Some a)) (sym own.2) ∙ above_where_not a _ true
    (ap (λ (own : List ℕ). is_le (order (encode_utf8_all own) a))
    (sym (get_or_from_slice_get ids j own.0 own.0 own.1)) ∙ point.0 j own.0 (omega arith) lt))
    (λ j k le at. let own = mapped_at encode_utf8_all ids j k at in
    ap (is_above (Some a)) (sym own.2) ∙ above_where_not a _ false
    (ap (λ (own : List ℕ). is_le (order (encode_utf8_all own) a))
    (sym (get_or_from_slice_get ids j own.0 own.0 own.1))
    ∙ point.1 j own.0 le (slice_get_within ids j own.0 own.1))))
