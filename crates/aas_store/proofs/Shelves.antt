-- What the places of a shelf's entries say of its map.
use borrow.Follows.Closed.{read_of}
use Rattle.std.proofs.Common.{◌≡◌, ℕ, zero, suc, ◌<◌, ◌≤◌, ◌-◌, ◌⊎◌, inl, inr, Bool, true, false, not, T, List, [], ◌∷◌, map, length, get_or, slice_get, slice_set, Box, Global, MutBor, Option, Some, None, option_map, Result, Ok, Err, MatchResult, OnOk, OnErr, refl, sym, ap, ◌∙◌, subst, arith, cond}
use Rattle.std.specs.Str.{encode_utf8_all}
use Rattle.std.specs.List.{insert, remove, find}
use Rattle.std.specs.List.Sorted.{IsBinarySearchResult, IsNonDecreasingBy, IsPartitionPoint, IsPartitionedBy, IsSearchInRange}
use Rattle.std.specs.FinMap as fin
use Rattle.std.specs.FinMap.{FinMap, entries-from_sorted, entries_sorted, entries-insert, get-entries, get-from_sorted, get-insert, get-remove, len-entries, same_entries_map, same_map}
use Rattle.std.specs.Option.{option_map_or, ghost_name_of}
use Rattle.std.specs.Ordering.{is_eq, is_le, is_lt, eq_by_cmp, ordering_index, ordering_reverse}
use Rattle.std.specs.declared.cmp.Ordering.{Ordering}
use Rattle.std.specs.declared.cmp.Ordering.TheVariants.{Less, Equal, Greater}
use Rattle.std.proofs.lemmas.Bool.{cases_order}
use Rattle.std.proofs.lemmas.Cmp.{nat_list_cmp_total}
use Rattle.std.proofs.lemmas.List.{length-map, map-set}
use Rattle.std.proofs.lemmas.Option.{slice_get-map, slice_get_within, slice_get-get_or, get_or_from_slice_get, same_Some}
use Rattle.std.proofs.lemmas.Simd.{map-map}
use Rattle.aas_store.specs.declared.shelf.Entry.{Entry}
use Rattle.aas_store.specs.Documents.{first_above, is_above}
use Rattle.aas_store.specs.Lent.{with_document, with_document_at}
use Rattle.aas_store.specs.Places.{IsAt, IsGapFor}
use Rattle.aas_store.specs.Shelf.{pairs}
use Rattle.aas_store.proofs.Ordered.{order, same_id, greater, keys_compare, not_above_stand_first, rising, sorted_removed, found_none, found_at, put_at, put_between, found_removed}

-- ---- lists

pub mapped_at : {X Y : Type 0} (f : X → Y) (xs : List X) (i : ℕ) (y : Y) → slice_get (map f xs) i ≡ Some y → (x : X) × (slice_get xs i ≡ Some x) × (f x ≡ y)
mapped_at f [] i y at = absurd (cc)
mapped_at f (x ∷ xs) zero y at = (x, refl, same_Some (f x) y at)
mapped_at f (x ∷ xs) (suc i) y at = mapped_at f xs i y at

pub some_at : {X : Type 0} (xs : List X) (i : ℕ) → i < length xs → (x : X) × (slice_get xs i ≡ Some x)
some_at [] i lt = absurd (omega arith)
some_at (x ∷ xs) zero lt = (x, refl)
some_at (x ∷ xs) (suc i) lt = some_at xs i (omega arith)

-- what fails before a place and passes there is found there
find_at_point : {X : Type 0} (p : X → Bool) (xs : List X) (i : ℕ) → ((j : ℕ) (x : X) → j < i → slice_get xs j ≡ Some x → p x ≡ false) → ((x : X) → slice_get xs i ≡ Some x → p x ≡ true) → find p xs ≡ slice_get xs i
find_at_point p [] i fails passes = refl
find_at_point p (x ∷ xs) zero fails passes = ap (λ b. cond b (Some x) (find p xs)) (passes x refl)
find_at_point p (x ∷ xs) (suc i) fails passes =
    ap (λ b. cond b (Some x) (find p xs)) (fails zero x (omega arith) refl)
    ∙ find_at_point p xs i (λ j x lt at. fails (suc j) x (omega arith) at) passes

pub map-insert : {X Y : Type 0} (f : X → Y) (xs : List X) (i : ℕ) (x : X) → i ≤ length xs → map f (insert xs i x) ≡ insert (map f xs) i (f x)
map-insert f [] zero x le = refl
map-insert f [] (suc i) x le = absurd (omega arith)
map-insert f (y ∷ xs) zero x le = refl
map-insert f (y ∷ xs) (suc i) x le = ap (λ ys. f y ∷ ys) (map-insert f xs i x (omega arith))

pub map-remove : {X Y : Type 0} (f : X → Y) (xs : List X) (i : ℕ) → map f (remove xs i) ≡ remove (map f xs) i
map-remove f [] zero = refl
map-remove f [] (suc i) = refl
map-remove f (y ∷ xs) zero = refl
map-remove f (y ∷ xs) (suc i) = ap (λ ys. f y ∷ ys) (map-remove f xs i)

-- ---- maps

-- a list that is the entries of a map is in order and stands for the map
pub stands_for : {D : Type 0} (es : List (List ℕ × D)) (m : FinMap order D) → es ≡ fin.entries m → T (fin.is_sorted order es) × (fin.from_sorted es ≡ m)
stands_for {D = D} es m is =
    let sorted : T (fin.is_sorted order es) = subst (λ (es : List (List ℕ × D)). T (fin.is_sorted order es)) (sym is) (entries_sorted m) in
    (sorted, same_entries_map (fin.from_sorted es) m (entries-from_sorted order es sorted ∙ is))

pub found_there : {D : Type 0} (m : FinMap order D) (id : List ℕ) (place : ℕ) (d : D) → slice_get (fin.entries m) place ≡ Some (id, d) → fin.get m id ≡ Some d
found_there m id place d at = get-entries m id ∙ found_at (fin.entries m) place id d (entries_sorted m) at

pub absent_there : {D : Type 0} (m : FinMap order D) (id : List ℕ) (place : ℕ) → IsGapFor m id place → fin.get m id ≡ None
absent_there {D = D} m id place gap = get-entries m id ∙ found_none (fin.entries m) id (λ i e at. by i e at (cases_order i place))
  where
    by : (i : ℕ) (e : List ℕ × D) → slice_get (fin.entries m) i ≡ Some e → (i ≡ place) ⊎ ((i < place) ⊎ (place < i)) → eq_by_cmp order id e.0 ≡ false
    by i e at (inl same) = ap is_eq (gap.above i e (omega arith) at)
    by i e at (inr (inl lt)) = ap is_eq (greater e.0 id (gap.below i e lt at))
    by i e at (inr (inr gt)) = ap is_eq (gap.above i e (omega arith) at)

-- behind the last entry is the gap for what is above it
pub gap_behind : {D : Type 0} (m : FinMap order D) (id : List ℕ) (last : List ℕ × D)
    → slice_get (fin.entries m) (length (fin.entries m) - 1) ≡ Some last → order last.0 id ≡ Less
    → IsGapFor m id (length (fin.entries m))
gap_behind {D = D} m id last at less = record {
  within = omega arith;
  below = λ i e lt at_e. by i e lt at_e (cases_order i (length (fin.entries m) - 1));
  above = λ i e le at_e. let lt = slice_get_within (fin.entries m) i e at_e in absurd (omega arith);
}
  where
    by : (i : ℕ) (e : List ℕ × D) → i < length (fin.entries m) → slice_get (fin.entries m) i ≡ Some e
        → (i ≡ length (fin.entries m) - 1)
        ⊎ ((i < length (fin.entries m) - 1) ⊎ (length (fin.entries m) - 1 < i)) → order e.0 id ≡ Less
    by i e lt at_e (inl same) =
        let is : last ≡ e = same_Some last e (sym at ∙ ap (slice_get (fin.entries m)) (sym same) ∙ at_e) in
        ap (λ (e : List ℕ × D). order e.0 id) (sym is) ∙ less
    by i e lt at_e (inr (inl before)) = nat_list_cmp_total.trans e.0 last.0 id
        (rising (fin.entries m) i (length (fin.entries m) - 1) e last (entries_sorted m) before at_e at) less
    by i e lt at_e (inr (inr behind)) = absurd (omega arith)

pub removed_absent : {D : Type 0} (m : FinMap order D) (id : List ℕ) → fin.get m id ≡ None → m ≡ fin.remove m id
removed_absent {D = D} m id none = same_map nat_list_cmp_total same_id m (fin.remove m id) (λ q. by q (order q id) refl ∙ sym (get-remove nat_list_cmp_total m id q))
  where
    by : (q : List ℕ) (r : Ordering) → order q id ≡ r → fin.get m q ≡ cond (is_eq (order q id)) None (fin.get m q)
    by q Less is = sym (ap (λ r. cond (is_eq r) None (fin.get m q)) is)
    by q Equal is = ap (fin.get m) (same_id q id is) ∙ none ∙ sym (ap (λ r. cond (is_eq r) None (fin.get m q)) is)
    by q Greater is = sym (ap (λ r. cond (is_eq r) None (fin.get m q)) is)

-- a document in its own place
pub inserted_same : {D : Type 0} (m : FinMap order D) (id : List ℕ) (d : D) → fin.get m id ≡ Some d → fin.insert m id d ≡ m
inserted_same {D = D} m id d is = same_map nat_list_cmp_total same_id (fin.insert m id d) m (λ q. get-insert nat_list_cmp_total m id d q ∙ by q (order q id) refl)
  where
    by : (q : List ℕ) (r : Ordering) → order q id ≡ r → cond (is_eq (order q id)) (Some d) (fin.get m q) ≡ fin.get m q
    by q Less same = ap (λ r. cond (is_eq r) (Some d) (fin.get m q)) same
    by q Equal same = ap (λ r. cond (is_eq r) (Some d) (fin.get m q)) same ∙ sym (ap (fin.get m) (same_id q id same) ∙ is)
    by q Greater same = ap (λ r. cond (is_eq r) (Some d) (fin.get m q)) same

pub first_of_all : {D : Type 0} (m : FinMap order D) → first_above None (fin.keys m) ≡ slice_get (fin.keys m) 0
first_of_all m = find_at_point (is_above None) (fin.keys m) 0 (λ j x lt at. absurd (omega arith)) (λ x at. refl)

-- two lenders that end alike whatever is left of what they lend, and where nothing is lent
pub same_read : {X R : Type 0} (r : Option (MutBor X)) (F G : X → R) (u v : R) → ((w : X) → F w ≡ G w) → u ≡ v → read_of (ghost_name_of r) F u ≡ read_of (ghost_name_of r) G v
same_read None F G u v h e = λ i. inr (e i)
same_read (Some x) F G u v h e = λ i. inl (x.ghost_name, λ w. h w i)

-- ---- a shelf's entries and its map

module _ {D : Type 0} (entries : List (Entry D)) (sorted : T (fin.is_sorted order (pairs entries))) (m : FinMap order D) (view : fin.from_sorted (pairs entries) ≡ m) where
  pub entries_are : fin.entries m ≡ pairs entries
  entries_are = ap fin.entries (sym view) ∙ entries-from_sorted order (pairs entries) sorted

  pub length_is : length entries ≡ length (fin.entries m)
  length_is = sym (length-map entries _) ∙ ap length (sym entries_are)

  pub count_is : length entries ≡ fin.len m
  count_is = length_is ∙ sym (len-entries m)

  pub pair_at : (i : ℕ) (e : Entry D) → slice_get entries i ≡ Some e → slice_get (fin.entries m) i ≡ Some (encode_utf8_all e.id, e.document.value)
  pair_at i e at = ap (λ es. slice_get es i) entries_are ∙ slice_get-map _ entries i ∙ ap (option_map _) at

  pub entry_at : (i : ℕ) (p : List ℕ × D) → slice_get (fin.entries m) i ≡ Some p → (e : Entry D) × (slice_get entries i ≡ Some e) × (◌≡◌ {A = List ℕ × D} (encode_utf8_all e.id, e.document.value) p)
  entry_at i p at = mapped_at _ entries i p (ap (λ es. slice_get es i) (sym entries_are) ∙ at)

  pub is_within : (id : List ℕ) (place : ℕ) → IsAt m id place → place < length entries
  is_within id place at = subst (λ n. place < n) (sym length_is) (slice_get_within (fin.entries m) place _ at.1)

  -- ---- a search for an identifier

  read : (i : ℕ) (d : Entry D) → i < length entries → slice_get entries i ≡ Some (get_or entries i d)
  read i d lt = slice_get-get_or entries i d lt

  pair_read : (i : ℕ) (d : Entry D) → i < length entries → slice_get (pairs entries) i ≡ Some (encode_utf8_all (get_or entries i d).id, (get_or entries i d).document.value)
  pair_read i d lt = slice_get-map _ entries i ∙ ap (option_map _) (read i d lt)

  pub rises : (id : List ℕ) → IsNonDecreasingBy (λ e. ordering_index (order (encode_utf8_all e.id) id)) entries
  rises id = keys_compare (λ e. encode_utf8_all e.id) id entries
      (λ i j d less lt. rising (pairs entries) i j _ _ sorted less (pair_read i d (omega arith)) (pair_read j d lt))

  -- what is read of an entry of the map is read of the shelf's
  compared : (i : ℕ) (p : List ℕ × D) (id : List ℕ) (at : slice_get (fin.entries m) i ≡ Some p) → order (encode_utf8_all (get_or entries i (entry_at i p at).0).id) id ≡ order p.0 id
  compared i p id at =
      let e = entry_at i p at in
      ap (λ (e : Entry D). order (encode_utf8_all e.id) id) (get_or_from_slice_get entries i e.0 e.0 e.1) ∙ ap (λ (p : List ℕ × D). order p.0 id) e.2

  pub searched : (id : List ℕ) (r : Result ℕ ℕ) → IsSearchInRange r (length entries) → IsBinarySearchResult (λ e. order (encode_utf8_all e.id) id) entries r → MatchResult r (IsAt m id) (IsGapFor m id)
  searched id (Ok place) within at =
      let e = some_at entries place within in
      let tied : encode_utf8_all e.0.id ≡ id = ap (λ (e : Entry D). encode_utf8_all e.id) (sym (get_or_from_slice_get entries place e.0 e.0 e.1)) ∙ same_id _ id (at e.0) in
      (e.0.document.value, pair_at place e.0 e.1 ∙ ap (λ k. Some (k, e.0.document.value)) tied)
  searched id (Err place) within parted = record {
    within = subst (λ n. place ≤ n) length_is within;
    below = λ i p lt at. sym (compared i p id at) ∙ (parted (rises id)).0 i (entry_at i p at).0 (omega arith) lt;
    above = λ i p le at. nat_list_cmp_total.antisymm id p.0
        ∙ ap ordering_reverse (sym (compared i p id at) ∙ (parted (rises id)).1 i (entry_at i p at).0 le (slice_get_within entries i _ (entry_at i p at).1));
  }

  pub behind_last : (id : List ℕ) (last : Entry D) → slice_get entries (length entries - 1) ≡ Some last
      → order (encode_utf8_all last.id) id ≡ Less → IsGapFor m id (length entries)
  behind_last id last at less = subst (IsGapFor m id) (sym length_is) (gap_behind m id _
      (ap (λ n. slice_get (fin.entries m) (n - 1)) (sym length_is) ∙ pair_at (length entries - 1) last at) less)

  -- ---- what is read

  pub document_at : (id : List ℕ) (place : ℕ) (e : Entry D) → IsAt m id place → slice_get entries place ≡ Some e → fin.get m id ≡ Some e.document.value
  document_at id place e at is =
      found_there m id place at.0 at.1 ∙ ap (option_map (λ (p : List ℕ × D). p.1)) (sym at.1 ∙ pair_at place e is)

  pub found_is : (id : List ℕ) → fin.find order id (pairs entries) ≡ fin.get m id
  found_is id = ap (fin.find order id) (sym entries_are) ∙ sym (get-entries m id)

  ids_are : fin.keys m ≡ map (λ (e : Entry D). encode_utf8_all e.id) entries
  ids_are = ap (map (λ (p : List ℕ × D). p.0)) entries_are ∙ map-map _ _ entries

  pub id_at : (place : ℕ) → slice_get (fin.keys m) place ≡ option_map (λ (e : Entry D). encode_utf8_all e.id) (slice_get entries place)
  id_at place = ap (λ ks. slice_get ks place) ids_are ∙ slice_get-map _ entries place

  pub not_above_first : (a : List ℕ) → IsPartitionedBy (λ e. is_le (order (encode_utf8_all e.id) a)) entries
  not_above_first a = not_above_stand_first (λ e. encode_utf8_all e.id) a entries (rises a)

  above_where_not : (a k : List ℕ) (b : Bool) → is_le (order k a) ≡ b → is_above (Some a) k ≡ not b
  above_where_not a k b e = ap is_lt (nat_list_cmp_total.antisymm a k) ∙ by (order k a) ∙ ap not e
    where
      by : (r : Ordering) → is_lt (ordering_reverse r) ≡ not (is_le r)
      by Less = refl
      by Equal = refl
      by Greater = refl

  pub next_id : (a : List ℕ) (place : ℕ) → IsPartitionPoint (λ e. is_le (order (encode_utf8_all e.id) a) ≡ true) (λ e. is_le (order (encode_utf8_all e.id) a) ≡ false) entries place
      → first_above (Some a) (fin.keys m) ≡ slice_get (fin.keys m) place
  next_id a place point =
      find_at_point (is_above (Some a)) (fin.keys m) place
      (λ j k lt at. let e = id_read j k at in
      ap (is_above (Some a)) (sym e.2) ∙ above_where_not a _ true (ap (λ (e : Entry D). is_le (order (encode_utf8_all e.id) a)) (sym (get_or_from_slice_get entries j e.0 e.0 e.1)) ∙ point.0 j e.0 (omega arith) lt))
      (λ k at. let e = id_read place k at in
      ap (is_above (Some a)) (sym e.2) ∙ above_where_not a _ false (ap (λ (e : Entry D). is_le (order (encode_utf8_all e.id) a)) (sym (get_or_from_slice_get entries place e.0 e.0 e.1)) ∙ point.1 place e.0 (omega arith) (slice_get_within entries place e.0 e.1)))
    where
      id_read : (j : ℕ) (k : List ℕ) → slice_get (fin.keys m) j ≡ Some k → (e : Entry D) × (slice_get entries j ≡ Some e) × (encode_utf8_all e.id ≡ k)
      id_read j k at = mapped_at _ entries j k (ap (λ ks. slice_get ks j) (sym ids_are) ∙ at)

  -- ---- what is changed

  pub replaced : (id : List ℕ) (place : ℕ) (e : Entry D) (d : Box D Global) → IsAt m id place → slice_get entries place ≡ Some e → pairs (slice_set entries place (record e { document = d })) ≡ fin.entries (fin.insert m id d.value)
  replaced id place e d at is =
      let same : encode_utf8_all e.id ≡ id = ap (λ (p : List ℕ × D). p.0) (same_Some _ _ (sym (pair_at place e is) ∙ at.1)) in
      map-set _ entries place _ ∙ ap (λ k. slice_set (pairs entries) place (k, d.value)) same
      ∙ sym (entries-insert nat_list_cmp_total m id d.value ∙ put_at (fin.entries m) place id d.value at.0 (entries_sorted m) at.1 ∙ ap (λ es. slice_set es place (id, d.value)) entries_are)

  -- what a loan of the document in a place leaves
  pub lent : (id : List ℕ) (place : ℕ) (w : D) → IsAt m id place → T (fin.is_sorted order (pairs (with_document_at entries place w))) × (fin.from_sorted (pairs (with_document_at entries place w)) ≡ fin.insert m id w)
  lent id place w at =
      let e = entry_at place _ at.1 in
      subst
      (λ (o : Option (Entry D)). T (fin.is_sorted order (pairs (option_map_or (λ e. slice_set entries place (with_document e w)) o entries)))
      × (fin.from_sorted (pairs (option_map_or (λ e. slice_set entries place (with_document e w)) o entries)) ≡ fin.insert m id w))
      (sym e.1) (stands_for _ _ (replaced id place e.0 (record e.0.document { value = w }) at e.1))

  pub lent_value : (id : List ℕ) (place : ℕ) → IsAt m id place → option_map (λ (e : Entry D). e.document.value) (slice_get entries place) ≡ fin.get m id
  lent_value id place at =
      let e = entry_at place _ at.1 in
      ap (option_map (λ (e : Entry D). e.document.value)) e.1 ∙ sym (document_at id place e.0 at e.1)

  pub inserted : (e : Entry D) (place : ℕ) → IsGapFor m (encode_utf8_all e.id) place → pairs (insert entries place e) ≡ fin.entries (fin.insert m (encode_utf8_all e.id) e.document.value)
  inserted e place gap =
      map-insert _ entries place e (subst (λ n. place ≤ n) (sym length_is) gap.within)
      ∙ sym (entries-insert nat_list_cmp_total m (encode_utf8_all e.id) e.document.value ∙ put_between (fin.entries m) place (encode_utf8_all e.id) e.document.value gap.within gap.below gap.above
      ∙ ap (λ es. insert es place (encode_utf8_all e.id, e.document.value)) entries_are)

  pub sorted_after_insert : {A B : Type 0} (r : Result A B) (new : List (Entry D)) (e : Entry D) (place : ℕ) → IsGapFor m (encode_utf8_all e.id) place → OnOk r (new ≡ insert entries place e) → OnErr r (new ≡ entries)
      → T (fin.is_sorted order (pairs new))
  sorted_after_insert (Ok a) new e place gap ok err = (stands_for (pairs new) _ (ap pairs ok ∙ inserted e place gap)).0
  sorted_after_insert (Err b) new e place gap ok err = subst (λ es. T (fin.is_sorted order (pairs es))) (sym err) sorted

  pub stands_after_insert : {A B : Type 0} (r : Result A B) (new : List (Entry D)) (e : Entry D) (place : ℕ) (d : D) → IsGapFor m (encode_utf8_all e.id) place → e.document.value ≡ d → OnOk r (new ≡ insert entries place e)
      → OnOk r (fin.from_sorted (pairs new) ≡ fin.insert m (encode_utf8_all e.id) d)
  stands_after_insert (Ok a) new e place d gap same ok = (stands_for (pairs new) _ (ap pairs ok ∙ inserted e place gap)).1 ∙ ap (fin.insert m (encode_utf8_all e.id)) same
  stands_after_insert (Err b) new e place d gap same ok = tt

  pub removed : (id : List ℕ) (place : ℕ) → IsAt m id place → T (fin.is_sorted order (pairs (remove entries place))) × (fin.from_sorted (pairs (remove entries place)) ≡ fin.remove m id)
  removed id place at =
      let same : pairs (remove entries place) ≡ remove (fin.entries m) place = map-remove _ entries place ∙ ap (λ es. remove es place) (sym entries_are) in
      let in_order : T (fin.is_sorted order (pairs (remove entries place))) =
      subst (λ (es : List (List ℕ × D)). T (fin.is_sorted order es)) (sym same) (sorted_removed (fin.entries m) place (entries_sorted m)) in (
        in_order,
        same_map nat_list_cmp_total same_id _ _ (λ q.
            get-from_sorted order _ q in_order ∙ ap (fin.find order q) same ∙ found_removed (fin.entries m) place id at.0 q (entries_sorted m) at.1
            ∙ ap (cond (eq_by_cmp order q id) None) (sym (get-entries m q)) ∙ sym (get-remove nat_list_cmp_total m id q)),
      )
