-- What a look-up by name finds.
use Rattle.std.proofs.Common.{◌≡◌, ℕ, zero, suc, ◌+◌, ◌-◌, ◌<◌, ◌≤◌, Bool, true, false, nat_lt, ◌==◌, ◌&&◌, get_or}
use Rattle.std.proofs.Common.{List, [], ◌∷◌, length, take, drop, slice_get, Option, Some, None, IsSome, option_map}
use Rattle.std.proofs.Common.{refl, sym, subst, ap, ap₂, ◌∙◌, arith, if◌then◌else◌}
use Rattle.std.specs.Cmp.Lexicographic.{slice_cmp}
use Rattle.std.specs.FinMap.{nat_cmp-IsAntisymmetric, slice_cmp-IsAntisymmetric}
use Rattle.std.specs.List.{AllWithin, list_any, position}
use Rattle.std.specs.Ordering.{nat_cmp, is_lt, ordering_then, ordering_reverse}
use Rattle.std.specs.Str.{chars, encode_utf8_all}
use Rattle.std.specs.declared.cmp.Ordering.{Ordering}
use Rattle.std.specs.declared.cmp.Ordering.TheVariants.{Less, Equal, Greater}
use Rattle.std.proofs.lemmas.Bool.{ltb-false, ltb-true, false_from_ne_true}
use Rattle.std.proofs.lemmas.Bool.Decides.{Decides-eqb}
use Rattle.std.proofs.lemmas.Cmp.{nat_list_cmp_total, tied_itself}
use Rattle.std.proofs.lemmas.List.{get_or_default}
use Rattle.std.proofs.lemmas.List.Folds.{Any-from_list_any, list_any_at}
use Rattle.std.proofs.lemmas.List.Sorted.{sorted_far}
use Rattle.std.proofs.lemmas.Option.{get_or_from_slice_get, slice_get-get_or, slice_get_within}
use Rattle.std.proofs.lemmas.Slice.Eq.{bytes_eq-Decides}
use Rattle.aas_lemmas.proofs.Truth.{and_right}
use Rattle.aas_path_trees.specs.ElementAt.{is_text}
use Rattle.aas_rows.proofs.Stepping.{first_where, position_first}
use Rattle.aas_sheet_index.specs.Index.{compared, has_name, is_between, key, key_at, key_of, name_bytes, short_key}
use Rattle.aas_sheet_index.specs.Index.{AreKeyed, IsKeyed, IsPart}
use Rattle.aas_sheet_index.specs.Sides.{is_named_below}
use Rattle.aas_sheet_index.specs.declared.side.Side.{Side}
use Rattle.aas_sheet_index.proofs.Ranks.{within}
use Rattle.aas_sheet_index.proofs.Ordered.{is_less, numbers, weak}

-- ---- what stands between

pub tied : (a : List ℕ) (m n : ℕ) → is_lt (compared a m a n) ≡ nat_lt m n
tied a m n = ap (λ o. is_lt (ordering_then o (nat_cmp m n))) (tied_itself nat_list_cmp_total a) ∙ numbers m n

pub between : (a b : List ℕ) (first r q : ℕ)
    → is_lt (compared b r a first) ≡ false → is_lt (compared a q b r) ≡ false → (b ≡ a) × (first ≤ r) × (r ≤ q)
between a b first r q low high = by (slice_cmp nat_cmp b a) refl low
  where
    back : (o : Ordering) → slice_cmp nat_cmp b a ≡ o → slice_cmp nat_cmp a b ≡ ordering_reverse o
    back o is = nat_list_cmp_total.antisymm a b ∙ ap ordering_reverse is

    by : (o : Ordering) → slice_cmp nat_cmp b a ≡ o → is_lt (ordering_then o (nat_cmp r first)) ≡ false
        → (b ≡ a) × (first ≤ r) × (r ≤ q)
    by Less is low = absurd (cc)
    by Equal is low = (
      slice_cmp-IsAntisymmetric nat_cmp-IsAntisymmetric b a is,
      ltb-false r first (sym (numbers r first) ∙ low),
      ltb-false q r (sym (numbers q r) ∙ sym (ap (λ o. is_lt (ordering_then o (nat_cmp q r))) (back Equal is)) ∙ high),
    )
    by Greater is low =
        let lost = sym (ap (λ o. is_lt (ordering_then o (nat_cmp q r))) (back Greater is)) ∙ high in absurd (cc)

-- ---- what is looked for

record Named (k : ℕ) (name : List ℕ) (t : Side) : Type 0 where
  level : t.level ≡ k + 1
  id_short : t.id_short ≡ Some (chars name)

is_named : (k : ℕ) (name : List ℕ) (t : Side) → is_named_below k (chars name) t ≡ true → Named k name t
is_named k name t e = by (t.level == k + 1) refl t.id_short refl e
  where
    by : (b : Bool) → (t.level == k + 1) ≡ b → (o : Option (List ℕ))
        → t.id_short ≡ o → (b && is_text (chars name) o) ≡ true → Named k name t
    by true level (Some m) id e = record {
      level = (Decides-eqb t.level (k + 1)).0 level;
      id_short = id ∙ ap (λ m. Some m) ((bytes_eq-Decides m (chars name)).0 e);
    }
    by true level None id e = absurd (cc)
    by false level o id e = absurd (cc)

-- the place in an index behind all that stand before what is looked for
pub record Sought (ss : List Side) (ranks : List ℕ) (k : ℕ) (name : List ℕ) (first place : ℕ) : Type 0 where
  pub index : IsPart ss 0 ranks
  pub keyed : AreKeyed ss
  pub spelled : encode_utf8_all (chars name) ≡ name
  pub before : AllWithin (λ r. is_lt (compared (key_at ss r) r (key (k + 1) name) first) ≡ true) ranks 0 place
  pub behind : AllWithin (λ r. is_lt (compared (key_at ss r) r (key (k + 1) name) first) ≡ false) ranks place
      (length ranks)

keyed_at : (ss : List Side) (q : ℕ) (t : Side) → AreKeyed ss → slice_get ss q ≡ Some t → IsKeyed t
keyed_at ss q t keyed at = subst IsKeyed (get_or_from_slice_get ss q t t at) (keyed q t (slice_get_within ss q t at))

-- the key of a side that is looked for
own_key : (ss : List Side) (k : ℕ) (name : List ℕ) (q : ℕ) (t : Side) → AreKeyed ss
    → encode_utf8_all (chars name) ≡ name → slice_get ss q ≡ Some t → Named k name t → key_at ss q ≡ key (k + 1) name
own_key ss k name q t keyed spelled at n =
    let kept : t.short_key ≡ short_key t.level (name_bytes t.id_short) = keyed_at ss q t keyed at in
    let bytes : name_bytes t.id_short ≡ name = ap name_bytes n.id_short ∙ spelled in
    ap key_of at ∙ ap (λ a. a ∷ t.level ∷ name_bytes t.id_short) kept ∙ ap₂ key n.level bytes

-- a rank of an index, and its side
pub record There (ss : List Side) (r : ℕ) : Type 0 where
  pub side : Side
  pub at : slice_get ss r ≡ Some side
  pub named : IsSome side.id_short

pub there : (ss : List Side) (ranks : List ℕ) (m : ℕ)
    → IsPart ss 0 ranks → m < length ranks → There ss (get_or ranks m 0)
there ss ranks m x lt =
    let r : ℕ = get_or ranks m 0 in
    let has : list_any (λ q. q == r) ranks ≡ true = list_any_at (λ q. q == r) ranks m 0 lt ((Decides-eqb r r).1 refl) in
    of r (slice_get ss r) refl
    (and_right (is_between 0 (length ss) r) (has_name (slice_get ss r)) (sym (x.listed r) ∙ has))
  where
    of : (r : ℕ) (o : Option Side) → slice_get ss r ≡ o → has_name o ≡ true → There ss r
    of r None at h = absurd (cc)
    of r (Some s) at h = record { side = s; at = at; named = h }

-- one that is looked for stands no earlier than the entry at the place, which has its key
record Later (ss : List Side) (ranks : List ℕ) (k : ℕ) (name : List ℕ) (first place q : ℕ) : Type 0 where
  inside : place < length ranks
  own_key : key_at ss (get_or ranks place 0) ≡ key (k + 1) name
  low : first ≤ get_or ranks place 0
  high : get_or ranks place 0 ≤ q

later : (ss : List Side) (ranks : List ℕ) (k : ℕ) (name : List ℕ) (first place q : ℕ) (t : Side)
    → Sought ss ranks k name first place → first ≤ q → slice_get ss q ≡ Some t → is_named_below k (chars name) t ≡ true
    → Later ss ranks k name first place q
later ss ranks k name first place q t x le at named =
    let n = is_named k name t named in
    let wanted : List ℕ = key (k + 1) name in
    let own : key_at ss q ≡ wanted = own_key ss k name q t x.keyed x.spelled at n in
    let has : list_any (λ r. r == q) ranks ≡ true =
    x.index.listed q
    ∙ ap₂ (λ b c. b && c) (within 0 (length ss) q (omega arith) (slice_get_within ss q t at))
    (ap has_name at ∙ some t (chars name) n.id_short) in
    let e = Any-from_list_any (λ r. r == q) ranks has in
    let i : ℕ = e.0 in
    let inside : i < length ranks = e.2 in
    let here : get_or ranks i 0 ≡ q = get_or_default ranks i 0 e.1 inside ∙ e.3 ∙ (Decides-eqb e.1 q).0 e.4 in
    let order : place ≤ i = not_before i inside here own (nat_lt i place) refl in
    let r : ℕ = get_or ranks place 0 in
    let far : is_less ss (get_or ranks i 0) r ≡ false =
    sorted_far (is_less ss) (weak ss) ranks x.index.ordered place i 0 order inside in
    let high : is_lt (compared wanted q (key_at ss r) r) ≡ false =
    sym (ap₂ (λ a m. is_lt (compared a m (key_at ss r) r)) (ap (key_at ss) here ∙ own) here) ∙ far in
    let b =
    between wanted (key_at ss r) first r q (x.behind place 0 (omega arith) (omega (arith, order, inside))) high in
    record { inside = omega (arith, order, inside); own_key = b.0; low = b.1; high = b.2 }
  where
    some : (t : Side) (m : List ℕ) → t.id_short ≡ Some m → has_name (Some t) ≡ true
    some t m e = ap (λ (o : Option (List ℕ)). has_name (Some (record t { id_short = o }))) e

    not_before : (i : ℕ) → i < length ranks → get_or ranks i 0 ≡ q → key_at ss q ≡ key (k + 1) name → (b : Bool)
        → nat_lt i place ≡ b → place ≤ i
    not_before i inside here own false e = ltb-false i place e
    not_before i inside here own true e =
        let wanted : List ℕ = key (k + 1) name in
        let holds = x.before i 0 (omega arith) (ltb-true i place e) in
        let less : nat_lt q first ≡ true =
        sym (ap₂ (λ a m. is_lt (compared a m wanted first)) (ap (key_at ss) here ∙ own) here ∙ tied wanted q first)
        ∙ holds in
        let lt = ltb-true q first less in
        absurd (omega (arith, lt))

-- ---- the first that passes

record First (p : Side → Bool) (xs : List Side) (o : Option ℕ) : Type 0 where
  found : (i : ℕ) → o ≡ Some i → (s : Side) × (slice_get xs i ≡ Some s) × (p s ≡ true)
  first : (i j : ℕ) (s : Side) → o ≡ Some i → j < i → slice_get xs j ≡ Some s → p s ≡ false
  none : (j : ℕ) (s : Side) → o ≡ None → slice_get xs j ≡ Some s → p s ≡ false

skip : (p : Side → Bool) (x : Side) (xs : List Side) (o : Option ℕ)
    → p x ≡ false → o ≡ option_map (λ i. i + 1) (first_where p xs) → o ≡ first_where p (x ∷ xs)
skip p x xs o e is = is ∙ sym (ap (λ b. if b then Some 0 else option_map (λ i. i + 1) (first_where p xs)) e)

is_first : (p : Side → Bool) (xs : List Side) (o : Option ℕ) → First p xs o → o ≡ first_where p xs
is_first p [] None f = refl
is_first p [] (Some i) f = absurd (let s = f.found i refl in let in_it = s.1 in cc)
is_first p (x ∷ xs) None f =
    skip p x xs None (f.none 0 x refl refl)
    (ap (option_map (λ i. i + 1)) (is_first p xs None (record {
      found = λ i e. absurd (cc);
      first = λ i j s e lt at. absurd (cc);
      none = λ j s e at. f.none (suc j) s refl at;
    })))
is_first p (x ∷ xs) (Some zero) f =
    let s = f.found 0 refl in
    let same : x ≡ s.0 = let at = s.1 in cc in
    sym (ap (λ b. if b then Some 0 else option_map (λ i. i + 1) (first_where p xs)) (ap p same ∙ s.2))
is_first p (x ∷ xs) (Some (suc i)) f =
    let next : suc i ≡ i + 1 = omega arith in
    skip p x xs (Some (suc i)) (f.first (suc i) 0 x refl (omega arith) refl)
    (ap (λ n. Some n) next ∙ ap (option_map (λ i. i + 1)) (is_first p xs (Some i) (record {
      found = λ j e.
          let same : i ≡ j = cc in
          let s = f.found (suc i) refl in
          (s.0, ap (slice_get xs) (sym same) ∙ s.1, s.2);
      first = λ j q s e lt at. let same : i ≡ j = cc in f.first (suc i) (suc q) s refl (omega arith) at;
      none = λ j s e at. absurd (cc);
    })))

cut_get : (ss : List Side) (first n j : ℕ) → j < n → slice_get (take n (drop first ss)) j ≡ slice_get ss (first + j)
cut_get ss zero n j lt = let same : j ≡ 0 + j = omega arith in front ss n j lt ∙ ap (slice_get ss) same
  where
    front : (ss : List Side) (n j : ℕ) → j < n → slice_get (take n ss) j ≡ slice_get ss j
    front ss zero j lt = absurd (omega arith)
    front [] (suc n) j lt = refl
    front (s ∷ ss) (suc n) zero lt = refl
    front (s ∷ ss) (suc n) (suc j) lt = front ss n j (omega arith)
cut_get [] (suc first) zero j lt = absurd (omega arith)
cut_get [] (suc first) (suc n) j lt = refl
cut_get (s ∷ ss) (suc first) n j lt =
    let same : suc first + j ≡ suc (first + j) = omega arith in
    cut_get ss first n j lt ∙ sym (ap (slice_get (s ∷ ss)) same)

cut_short : (ss : List Side) (n j : ℕ) (s : Side) → slice_get (take n ss) j ≡ Some s → j < n
cut_short ss zero j s e = absurd (cc)
cut_short [] (suc n) j s e = absurd (cc)
cut_short (x ∷ ss) (suc n) zero s e = omega arith
cut_short (x ∷ ss) (suc n) (suc j) s e = let more = cut_short ss n j s e in omega (arith, more)

back_on : (first : ℕ) (result : Option ℕ) → ((r : ℕ) → result ≡ Some r → first ≤ r)
    → result ≡ option_map (λ i. first + i) (option_map (λ r. r - first) result)
back_on first None h = refl
back_on first (Some r) h =
    let le = h r refl in
    let same : r ≡ first + (r - first) = omega (arith, le) in
    ap (λ n. Some n) same

-- ---- a look-up says what a walk along the rows from first to end says

abbrev Walked : List Side → (Side → Bool) → ℕ → ℕ → Option ℕ → Type 0
Walked ss p first end result = result ≡ option_map (λ i. first + i) (position p (take (end - first) (drop first ss)))

walked : (ss : List Side) (p : Side → Bool) (first end : ℕ) (result : Option ℕ)
    → ((r : ℕ) → result ≡ Some r → first ≤ r)
    → First p (take (end - first) (drop first ss)) (option_map (λ r. r - first) result) → Walked ss p first end result
walked ss p first end result low f =
    back_on first result low
    ∙ ap (option_map (λ i. first + i))
    (is_first p (take (end - first) (drop first ss)) (option_map (λ r. r - first) result) f
    ∙ position_first p (take (end - first) (drop first ss)))

none_walked : (ss : List Side) (p : Side → Bool) (first end : ℕ)
    → ((q : ℕ) (s : Side) → first ≤ q → q < end → slice_get ss q ≡ Some s → p s ≡ true → ⊥) → Walked ss p first end None
none_walked ss p first end h =
    walked ss p first end None (λ r e. absurd (cc))
    (record {
      found = λ i e. absurd (cc);
      first = λ i j s e lt at. absurd (cc);
      none = λ j s e at.
          let lt = cut_short (drop first ss) (end - first) j s at in
          let at_j : slice_get ss (first + j) ≡ Some s = sym (cut_get ss first (end - first) j lt) ∙ at in
          false_from_ne_true (p s) (h (first + j) s (omega arith) (omega (arith, lt)) at_j);
    })

some_walked : (ss : List Side) (p : Side → Bool) (first end r : ℕ) (t : Side)
    → first ≤ r → r < end → slice_get ss r ≡ Some t → p t ≡ true
    → ((q : ℕ) (s : Side) → first ≤ q → q < r → slice_get ss q ≡ Some s → p s ≡ true → ⊥)
    → Walked ss p first end (Some r)
some_walked ss p first end r t low high at_r holds h =
    walked ss p first end (Some r) (λ q e. let same : r ≡ q = cc in omega arith)
    (record {
      found = λ i e.
          let same : r - first ≡ i = cc in
          let at : first + i ≡ r = omega arith in
          (t, cut_get ss first (end - first) i (omega arith) ∙ ap (slice_get ss) at ∙ at_r, holds);
      first = λ i j s e lt at.
          let same : r - first ≡ i = cc in
          let short = cut_short (drop first ss) (end - first) j s at in
          let at_j : slice_get ss (first + j) ≡ Some s = sym (cut_get ss first (end - first) j short) ∙ at in
          false_from_ne_true (p s) (h (first + j) s (omega arith) (omega arith) at_j);
      none = λ j s e at. absurd (cc);
    })

module _ (ss : List Side) (ranks : List ℕ) (k : ℕ) (name : List ℕ)
    (first end place : ℕ) (x : Sought ss ranks k name first place) where
  pub none_past : length ranks ≤ place → Walked ss (is_named_below k (chars name)) first end None
  none_past past =
      none_walked ss (is_named_below k (chars name)) first end (λ q s le lt at holds.
      let l = later ss ranks k name first place q s x le at holds in
      let inside = l.inside in absurd (omega (arith, inside, past)))

  pub none_behind : end ≤ get_or ranks place 0 → Walked ss (is_named_below k (chars name)) first end None
  none_behind behind =
      none_walked ss (is_named_below k (chars name)) first end (λ q s le lt at holds.
      let l = later ss ranks k name first place q s x le at holds in
      let high = l.high in absurd (omega (arith, high, behind)))

  at_place : place < length ranks → (side : Side)
      → side ≡ get_or ss (get_or ranks place 0) side → slice_get ss (get_or ranks place 0) ≡ Some side
  at_place inside side is =
      let t = there ss ranks place x.index inside in
      slice_get-get_or ss (get_or ranks place 0) side (slice_get_within ss (get_or ranks place 0) t.side t.at)
      ∙ ap (λ s. Some s) (sym is)

  pub none_other : place < length ranks → (side : Side) → side ≡ get_or ss (get_or ranks place 0) side → (b : Bool)
      → b ≡ false → (IsSome side.id_short → side.level ≡ k + 1 → name_bytes side.id_short ≡ name → b ≡ true)
      → Walked ss (is_named_below k (chars name)) first end None
  none_other inside side is b fails says =
      let at = at_place inside side is in
      let t = there ss ranks place x.index inside in
      let same : t.side ≡ side = let here = t.at in cc in
      none_walked ss (is_named_below k (chars name)) first end (λ q s le lt at_q holds.
      let l = later ss ranks k name first place q s x le at_q holds in
      let same_key : side.short_key ∷ side.level ∷ name_bytes side.id_short ≡ key (k + 1) name =
      sym (ap key_of at) ∙ l.own_key in
      let level : side.level ≡ k + 1 = cc in
      let bytes : name_bytes side.id_short ≡ name = cc in
      let passes = says (ap (λ (s : Side). has_name (Some s)) (sym same) ∙ t.named) level bytes in
      absurd (cc))

  pub some_there : place < length ranks → (side : Side) → side ≡ get_or ss (get_or ranks place 0) side
      → get_or ranks place 0 < end → is_named_below k (chars name) side ≡ true
      → Walked ss (is_named_below k (chars name)) first end (Some (get_or ranks place 0))
  some_there inside side is high holds =
      let r : ℕ = get_or ranks place 0 in
      let at = at_place inside side is in
      let n = is_named k name side holds in
      let own : key_at ss r ≡ key (k + 1) name = own_key ss k name r side x.keyed x.spelled at n in
      let not_less : nat_lt r first ≡ false =
      sym (ap (λ a. is_lt (compared a r (key (k + 1) name) first)) own ∙ tied (key (k + 1) name) r first)
      ∙ x.behind place 0 (omega arith) inside in
      some_walked ss (is_named_below k (chars name)) first end r side (ltb-false r first not_less) high at holds
      (λ q s le lt at_q passes. let l = later ss ranks k name first place q s x le at_q passes in
      let later_on = l.high in absurd (omega (arith, later_on, lt)))
