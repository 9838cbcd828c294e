-- Two lists of entries become one from their ends.
use Rattle.std.proofs.Common.{◌≡◌, ◌<◌, ◌+◌, ℕ, zero, suc, length, slice_get, arith, Bool, true, false, cond, T, List, [], ◌∷◌, ◌++◌, reverse, Option, Some, None, refl, sym, ap, ◌∙◌, subst}
use Rattle.std.specs.FinMap.{find, is_sorted}
use Rattle.std.specs.FinMap.Entries.{below_all}
use Rattle.std.specs.List.{remove}
use Rattle.std.specs.Option.{option_or}
use Rattle.std.specs.Ordering.{is_eq, is_lt, eq_by_cmp, ordering_reverse}
use Rattle.std.specs.declared.cmp.Ordering.{Ordering}
use Rattle.std.specs.declared.cmp.Ordering.TheVariants.{Less, Equal, Greater}
use Rattle.std.proofs.Math.Seq.{append_snoc}
use Rattle.std.proofs.lemmas.Cmp.{nat_list_cmp_total}
use Rattle.std.specs.Prelude.{◌↔◌, IsTrue}
use Rattle.std.specs.Str.{encode_utf8_all}
use Rattle.std.proofs.lemmas.List.{map-append, reverse-append}
use Rattle.std.proofs.lemmas.Option.{same_Some}
use Rattle.aas_store.specs.Shelf.{pairs}
use Rattle.aas_store.specs.declared.shelf.Entry.{Entry}
use Rattle.aas_store.proofs.Ordered.{Entries, both, greater, is_below, less, order, parts, same_id, tail}

-- ---- lists in order

module _ {X : Type 0} where
  -- what stands at the end is in order
  pub sorted_end : (es ms : Entries X) → T (is_sorted order (es ++ ms)) → T (is_sorted order ms)
  sorted_end [] ms h = h
  sorted_end (e ∷ es) ms h = sorted_end es ms (tail e (es ++ ms) h)

  below_with : (k : List ℕ) (x : List ℕ × X) (es ms : Entries X) → T (below_all order k (es ++ ms)) → order k x.0 ≡ Less → T (below_all order k (es ++ x ∷ ms))
  below_with k x [] ms h lt = both (is_lt (order k x.0)) (below_all order k ms) (is_below (order k x.0) lt) h
  below_with k x (e ∷ es) ms h lt =
      let p = parts (is_lt (order k e.0)) (below_all order k (es ++ ms)) h in
      both (is_lt (order k e.0)) (below_all order k (es ++ x ∷ ms)) p.0 (below_with k x es ms p.1 lt)

  below_without : (k : List ℕ) (x : List ℕ × X) (es ms : Entries X) → T (below_all order k (es ++ x ∷ ms)) → (order k x.0 ≡ Less) × T (below_all order k (es ++ ms))
  below_without k x [] ms h = let p = parts (is_lt (order k x.0)) (below_all order k ms) h in (less (order k x.0) p.0, p.1)
  below_without k x (e ∷ es) ms h =
      let p = parts (is_lt (order k e.0)) (below_all order k (es ++ x ∷ ms)) h in
      let more = below_without k x es ms p.1 in
      (more.0, both (is_lt (order k e.0)) (below_all order k (es ++ ms)) p.0 more.1)

  -- without one of its entries
  pub sorted_without : (x : List ℕ × X) (es ms : Entries X) → T (is_sorted order (es ++ x ∷ ms)) → T (is_sorted order (es ++ ms))
  sorted_without x [] ms h = tail x ms h
  sorted_without x (e ∷ es) ms h =
      let p = parts (below_all order e.0 (es ++ x ∷ ms)) (is_sorted order (es ++ x ∷ ms)) h in
      both (below_all order e.0 (es ++ ms)) (is_sorted order (es ++ ms)) (below_without e.0 x es ms p.0).1 (sorted_without x es ms p.1)

  -- with one more behind y, which is below it
  pub sorted_behind : (x y : List ℕ × X) (es ms : Entries X) → T (is_sorted order (es ++ y ∷ ms)) → order y.0 x.0 ≡ Less → T (is_sorted order (x ∷ ms)) → T (is_sorted order (es ++ y ∷ x ∷ ms))
  sorted_behind x y [] ms h lt rest =
      both (below_all order y.0 (x ∷ ms)) (is_sorted order (x ∷ ms))
      (both (is_lt (order y.0 x.0)) (below_all order y.0 ms) (is_below (order y.0 x.0) lt) (parts (below_all order y.0 ms) (is_sorted order ms) h).0) rest
  sorted_behind x y (e ∷ es) ms h lt rest =
      let p = parts (below_all order e.0 (es ++ y ∷ ms)) (is_sorted order (es ++ y ∷ ms)) h in
      let b = below_without e.0 y es ms p.0 in
      both (below_all order e.0 (es ++ y ∷ x ∷ ms)) (is_sorted order (es ++ y ∷ x ∷ ms))
      (below_with e.0 y es (x ∷ ms) (below_with e.0 x es ms b.1 (nat_list_cmp_total.trans e.0 y.0 x.0 b.0 lt)) b.0)
      (sorted_behind x y es ms p.1 lt rest)

  -- ---- what is found

  -- an entry is found where it stands
  pub found_between : (q : List ℕ) (y : List ℕ × X) (es ms : Entries X) → T (is_sorted order (es ++ y ∷ ms)) → find order q (es ++ y ∷ ms) ≡ cond (eq_by_cmp order q y.0) (Some y.1) (find order q (es ++ ms))
  found_between q y [] ms h = refl
  found_between q y (e ∷ es) ms h =
      ap (cond (eq_by_cmp order q e.0) (Some e.1)) (found_between q y es ms (tail e (es ++ y ∷ ms) h)) ∙ by (order q y.0) refl
    where
      lt : order e.0 y.0 ≡ Less
      lt = (below_without e.0 y es ms (parts (below_all order e.0 (es ++ y ∷ ms)) (is_sorted order (es ++ y ∷ ms)) h).0).0

      rest : Option X
      rest = find order q (es ++ ms)

      by : (r : Ordering) → order q y.0 ≡ r → cond (eq_by_cmp order q e.0) (Some e.1) (cond (is_eq r) (Some y.1) rest) ≡ cond (is_eq r) (Some y.1) (cond (eq_by_cmp order q e.0) (Some e.1) rest)
      by Less is = refl
      by Equal is = ap (λ r. cond (is_eq r) (Some e.1) (Some y.1)) (ap (λ k. order k e.0) (same_id q y.0 is) ∙ greater e.0 y.0 lt)
      by Greater is = refl

  found_last : (q : List ℕ) (y : List ℕ × X) (es : Entries X) → find order q (es ++ y ∷ []) ≡ option_or (find order q es) (cond (eq_by_cmp order q y.0) (Some y.1) None)
  found_last q y [] = refl
  found_last q y (e ∷ es) = ap (cond (eq_by_cmp order q e.0) (Some e.1)) (found_last q y es) ∙ by (eq_by_cmp order q e.0)
    where
      last : Option X
      last = cond (eq_by_cmp order q y.0) (Some y.1) None

      by : (b : Bool) → cond b (Some e.1) (option_or (find order q es) last) ≡ option_or (cond b (Some e.1) (find order q es)) last
      by true = refl
      by false = refl

-- ---- the steps

-- of two lists, what stays of each, and the merged entries behind it
pub record IsMerging {X : Type 0} (older newer left_older left_newer merged : Entries X) : Type 0 where
  pub older_in_order : T (is_sorted order (left_older ++ merged))
  pub newer_in_order : T (is_sorted order (left_newer ++ merged))
  pub found : (q : List ℕ) → option_or (find order q left_newer) (find order q (left_older ++ merged)) ≡ option_or (find order q newer) (find order q older)

module _ {X : Type 0} (older newer : Entries X) where
  -- the last of the older ones is the greatest of all
  pub older_moved : (os ns ms : Entries X) (x y : List ℕ × X) → IsMerging older newer (os ++ x ∷ []) (ns ++ y ∷ []) ms → order x.0 y.0 ≡ Greater → IsMerging older newer os (ns ++ y ∷ []) (x ∷ ms)
  older_moved os ns ms x y so_far gt = record {
    older_in_order = whole;
    newer_in_order = subst (λ (es : Entries X). T (is_sorted order es)) (sym (append_snoc ns y (x ∷ ms)))
        (sorted_behind x y ns ms (subst (λ (es : Entries X). T (is_sorted order es)) (append_snoc ns y ms) so_far.newer_in_order) (nat_list_cmp_total.antisymm y.0 x.0 ∙ ap ordering_reverse gt) (sorted_end os (x ∷ ms) whole));
    found = λ q. ap (λ (es : Entries X). option_or (find order q (ns ++ y ∷ [])) (find order q es)) (sym (append_snoc os x ms)) ∙ so_far.found q;
  }
    where
      whole : T (is_sorted order (os ++ x ∷ ms))
      whole = subst (λ (es : Entries X). T (is_sorted order es)) (append_snoc os x ms) so_far.older_in_order

  -- no newer ones are left
  pub rest_moved : (os ms : Entries X) (x : List ℕ × X) → IsMerging older newer (os ++ x ∷ []) [] ms → IsMerging older newer os [] (x ∷ ms)
  rest_moved os ms x so_far =
      let whole : T (is_sorted order (os ++ x ∷ ms)) = subst (λ (es : Entries X). T (is_sorted order es)) (append_snoc os x ms) so_far.older_in_order in record {
        older_in_order = whole;
        newer_in_order = sorted_end os (x ∷ ms) whole;
        found = λ q. ap (find order q) (sym (append_snoc os x ms)) ∙ so_far.found q;
      }

  -- the last of the newer ones is
  newer_found : (os ns ms : Entries X) (y : List ℕ × X) → IsMerging older newer os (ns ++ y ∷ []) ms → T (is_sorted order (os ++ y ∷ ms)) → IsMerging older newer os ns (y ∷ ms)
  newer_found os ns ms y so_far whole = record {
    older_in_order = whole;
    newer_in_order = subst (λ (es : Entries X). T (is_sorted order es)) (append_snoc ns y ms) so_far.newer_in_order;
    found = λ q. ap (option_or (find order q ns)) (found_between q y os ms whole) ∙ by q (find order q ns) (eq_by_cmp order q y.0)
        ∙ ap (λ o. option_or o (find order q (os ++ ms))) (sym (found_last q y ns)) ∙ so_far.found q;
  }
    where
      by : (q : List ℕ) (o : Option X) (b : Bool) → option_or o (cond b (Some y.1) (find order q (os ++ ms))) ≡ option_or (option_or o (cond b (Some y.1) None)) (find order q (os ++ ms))
      by q (Some x) b = refl
      by q None true = refl
      by q None false = refl

  pub newer_moved : (os ns ms : Entries X) (x y : List ℕ × X) → IsMerging older newer (os ++ x ∷ []) (ns ++ y ∷ []) ms → order x.0 y.0 ≡ Less → IsMerging older newer (os ++ x ∷ []) ns (y ∷ ms)
  newer_moved os ns ms x y so_far lt =
      let alone : T (is_sorted order (y ∷ ms)) = sorted_end ns (y ∷ ms) (subst (λ (es : Entries X). T (is_sorted order es)) (append_snoc ns y ms) so_far.newer_in_order) in
      newer_found (os ++ x ∷ []) ns ms y so_far
      (subst (λ (es : Entries X). T (is_sorted order es)) (sym (append_snoc os x (y ∷ ms)))
      (sorted_behind y x os ms (subst (λ (es : Entries X). T (is_sorted order es)) (append_snoc os x ms) so_far.older_in_order) lt alone))

  -- no older ones are left
  pub newer_alone : (ns ms : Entries X) (y : List ℕ × X) → IsMerging older newer [] (ns ++ y ∷ []) ms → IsMerging older newer [] ns (y ∷ ms)
  newer_alone ns ms y so_far = newer_found [] ns ms y so_far (sorted_end ns (y ∷ ms) (subst (λ (es : Entries X). T (is_sorted order es)) (append_snoc ns y ms) so_far.newer_in_order))

  -- the last of the older ones is replaced
  pub older_dropped : (os ns ms : Entries X) (x y : List ℕ × X) → IsMerging older newer (os ++ x ∷ []) (ns ++ y ∷ []) ms → order x.0 y.0 ≡ Equal → IsMerging older newer os (ns ++ y ∷ []) ms
  older_dropped os ns ms x y so_far eq = record {
    older_in_order = sorted_without x os ms whole;
    newer_in_order = so_far.newer_in_order;
    found = λ q. by q (eq_by_cmp order q y.0) refl ∙ ap (λ (es : Entries X). option_or (find order q (ns ++ y ∷ [])) (find order q es)) (sym (append_snoc os x ms)) ∙ so_far.found q;
  }
    where
      whole : T (is_sorted order (os ++ x ∷ ms))
      whole = subst (λ (es : Entries X). T (is_sorted order es)) (append_snoc os x ms) so_far.older_in_order

      settled : (o : Option X) (a b : Option X) → option_or (option_or o (Some y.1)) a ≡ option_or (option_or o (Some y.1)) b
      settled (Some z) a b = refl
      settled None a b = refl

      by : (q : List ℕ) (b : Bool) → eq_by_cmp order q y.0 ≡ b → option_or (find order q (ns ++ y ∷ [])) (find order q (os ++ ms)) ≡ option_or (find order q (ns ++ y ∷ [])) (find order q (os ++ x ∷ ms))
      by q true is =
          let there : find order q (ns ++ y ∷ []) ≡ option_or (find order q ns) (Some y.1) = found_last q y ns ∙ ap (λ b. option_or (find order q ns) (cond b (Some y.1) None)) is in
          ap (λ o. option_or o (find order q (os ++ ms))) there
          ∙ settled (find order q ns) (find order q (os ++ ms)) (find order q (os ++ x ∷ ms))
          ∙ ap (λ o. option_or o (find order q (os ++ x ∷ ms))) (sym there)
      by q false is =
          ap (option_or (find order q (ns ++ y ∷ [])))
          (sym (found_between q x os ms whole ∙ ap (λ b. cond b (Some x.1) (find order q (os ++ ms))) (ap (eq_by_cmp order q) (same_id x.0 y.0 eq) ∙ is)))

-- ---- the same of entries, where the merged ones stand in turned order

ends : {X : Type 0} (xs : List X) → 0 < length xs → (ys : List X) × ((y : X) × (xs ≡ ys ++ y ∷ []))
ends [] some = absurd (omega (arith, some))
ends (x ∷ []) some = ([], (x, refl))
ends (x ∷ y ∷ xs) some = let rest = ends (y ∷ xs) (omega arith) in (x ∷ rest.0, (rest.1.0, ap (λ zs. x ∷ zs) rest.1.1))

pub not_empty : {X : Type 0} (xs : List X) (is_empty : Bool) → IsTrue is_empty ↔ (xs ≡ []) → is_empty ≡ false → 0 < length xs
not_empty [] is_empty is some = let e = is.1 refl in absurd (cc)
not_empty (x ∷ xs) is_empty is some = omega arith

-- the last is taken away
pub without_last : {X : Type 0} (xs : List X) (n : ℕ) (x : X) → n + 1 ≡ length xs → slice_get xs n ≡ Some x → xs ≡ remove xs n ++ x ∷ []
without_last [] n x last at = absurd (cc)
without_last (y ∷ []) zero x last at = ap (λ z. z ∷ []) (same_Some y x at)
without_last (y ∷ []) (suc n) x last at = absurd (omega (arith, last))
without_last (y ∷ z ∷ xs) zero x last at = absurd (omega (arith, last))
without_last (y ∷ z ∷ xs) (suc n) x last at = ap (λ zs. y ∷ zs) (without_last (z ∷ xs) n x (omega (arith, last)) at)

-- each list that isn't empty ends with an entry, and these compare so
abbrev pub EndsCompare : {D : Type 0} → (os ns : List (Entry D)) → Ordering → Type 0
EndsCompare {D = D} os ns r = (before_x before_y : List (Entry D)) (x y : Entry D) → os ≡ before_x ++ x ∷ [] → ns ≡ before_y ++ y ∷ [] → r ≡ order (encode_utf8_all x.id) (encode_utf8_all y.id)

module _ {D : Type 0} (older newer : List (Entry D)) where
  abbrev pub Merges : (os ns ms : List (Entry D)) → Type 0
  Merges os ns ms = IsMerging (pairs older) (pairs newer) (pairs os) (pairs ns) (pairs (reverse ms))

  abbrev pair : Entry D → List ℕ × D
  pair e = (encode_utf8_all e.id, e.document.value)

  pushed : (es all : List (Entry D)) (x : Entry D) → all ≡ es ++ x ∷ [] → pairs all ≡ pairs es ++ pair x ∷ []
  pushed es all x is = ap pairs is ∙ map-append pair es (x ∷ [])

  turned : (es all : List (Entry D)) (x : Entry D) → all ≡ es ++ x ∷ [] → pair x ∷ pairs (reverse es) ≡ pairs (reverse all)
  turned es all x is = sym (ap (λ (es : List (Entry D)). pairs (reverse es)) is ∙ ap pairs (reverse-append es (x ∷ [])))

  pub after_greater : (os ns ms left_os moved : List (Entry D)) (x : Entry D) → Merges os ns ms → 0 < length ns → EndsCompare os ns Greater → os ≡ left_os ++ x ∷ [] → moved ≡ ms ++ x ∷ [] → Merges left_os ns moved
  after_greater os ns ms left_os moved x so_far some compare taken put =
      let y = ends ns some in
      subst (λ (m : Entries D). IsMerging (pairs older) (pairs newer) (pairs left_os) (pairs ns) m) (turned ms moved x put)
      (subst (λ (n : Entries D). IsMerging (pairs older) (pairs newer) (pairs left_os) n (pair x ∷ pairs (reverse ms))) (sym (pushed y.0 ns y.1.0 y.1.1))
      (older_moved (pairs older) (pairs newer) (pairs left_os) (pairs y.0) (pairs (reverse ms)) (pair x) (pair y.1.0)
      (subst (λ (n : Entries D). IsMerging (pairs older) (pairs newer) (pairs left_os ++ pair x ∷ []) n (pairs (reverse ms))) (pushed y.0 ns y.1.0 y.1.1)
      (subst (λ (o : Entries D). IsMerging (pairs older) (pairs newer) o (pairs ns) (pairs (reverse ms))) (pushed left_os os x taken) so_far))
      (sym (compare left_os y.0 x y.1.0 taken y.1.1))))

  pub after_equal : (os ns ms left_os : List (Entry D)) (x : Entry D) → Merges os ns ms → 0 < length ns → EndsCompare os ns Equal → os ≡ left_os ++ x ∷ [] → Merges left_os ns ms
  after_equal os ns ms left_os x so_far some compare taken =
      let y = ends ns some in
      subst (λ (n : Entries D). IsMerging (pairs older) (pairs newer) (pairs left_os) n (pairs (reverse ms))) (sym (pushed y.0 ns y.1.0 y.1.1))
      (older_dropped (pairs older) (pairs newer) (pairs left_os) (pairs y.0) (pairs (reverse ms)) (pair x) (pair y.1.0)
      (subst (λ (n : Entries D). IsMerging (pairs older) (pairs newer) (pairs left_os ++ pair x ∷ []) n (pairs (reverse ms))) (pushed y.0 ns y.1.0 y.1.1)
      (subst (λ (o : Entries D). IsMerging (pairs older) (pairs newer) o (pairs ns) (pairs (reverse ms))) (pushed left_os os x taken) so_far))
      (sym (compare left_os y.0 x y.1.0 taken y.1.1)))

  pub after_less : (os ns ms left_ns moved : List (Entry D)) (y : Entry D) → Merges os ns ms → EndsCompare os ns Less → ns ≡ left_ns ++ y ∷ [] → moved ≡ ms ++ y ∷ [] → Merges os left_ns moved
  after_less [] ns ms left_ns moved y so_far compare taken put =
      subst (λ (m : Entries D). IsMerging (pairs older) (pairs newer) [] (pairs left_ns) m) (turned ms moved y put)
      (newer_alone (pairs older) (pairs newer) (pairs left_ns) (pairs (reverse ms)) (pair y)
      (subst (λ (n : Entries D). IsMerging (pairs older) (pairs newer) [] n (pairs (reverse ms))) (pushed left_ns ns y taken) so_far))
  after_less (o ∷ os) ns ms left_ns moved y so_far compare taken put =
      let x = ends (o ∷ os) (omega arith) in
      subst (λ (m : Entries D). IsMerging (pairs older) (pairs newer) (pairs (o ∷ os)) (pairs left_ns) m) (turned ms moved y put)
      (subst (λ (p : Entries D). IsMerging (pairs older) (pairs newer) p (pairs left_ns) (pair y ∷ pairs (reverse ms))) (sym (pushed x.0 (o ∷ os) x.1.0 x.1.1))
      (newer_moved (pairs older) (pairs newer) (pairs x.0) (pairs left_ns) (pairs (reverse ms)) (pair x.1.0) (pair y)
      (subst (λ (n : Entries D). IsMerging (pairs older) (pairs newer) (pairs x.0 ++ pair x.1.0 ∷ []) n (pairs (reverse ms))) (pushed left_ns ns y taken)
      (subst (λ (p : Entries D). IsMerging (pairs older) (pairs newer) p (pairs ns) (pairs (reverse ms))) (pushed x.0 (o ∷ os) x.1.0 x.1.1) so_far))
      (sym (compare x.0 left_ns x.1.0 y x.1.1 taken))))

  pub after_all : (os ms left_os moved : List (Entry D)) (x : Entry D) → Merges os [] ms → os ≡ left_os ++ x ∷ [] → moved ≡ ms ++ x ∷ [] → Merges left_os [] moved
  after_all os ms left_os moved x so_far taken put =
      subst (λ (m : Entries D). IsMerging (pairs older) (pairs newer) (pairs left_os) [] m) (turned ms moved x put)
      (rest_moved (pairs older) (pairs newer) (pairs left_os) (pairs (reverse ms)) (pair x)
      (subst (λ (o : Entries D). IsMerging (pairs older) (pairs newer) o [] (pairs (reverse ms))) (pushed left_os os x taken) so_far))
