-- There is exactly one set that has exactly what is reached.
use Rattle.std.specs.Prelude.{◌≡◌, ◌⊎◌, ℕ, zero, suc, ◌+◌, ◌*◌, ◌<◌, ◌≤◌, Bool, true, false, cond, not, List, [], ◌∷◌}
use Rattle.std.specs.Prelude.{◌++◌, length, Contains, Option, Some, None, is_some}
use Rattle.std.proofs.Common.{refl, sym, ap, ◌∙◌, subst, inl, inr, arith, true≢false, length-append}
use Rattle.std.specs.FinMap as map
use Rattle.std.specs.FinMap.{get-insert, get-empty, same_map, nat_cmp-IsAntisymmetric, slice_cmp-IsAntisymmetric}
use Rattle.std.specs.List.{count_by}
use Rattle.std.specs.Ordering.{nat_cmp, eq_by_cmp, is_eq}
use Rattle.std.specs.Cmp.Lexicographic.{slice_cmp}
use Rattle.std.specs.declared.cmp.Ordering.{Ordering}
use Rattle.std.specs.declared.cmp.Ordering.TheVariants.{Less, Equal, Greater}
use Rattle.std.proofs.lemmas.Cmp.{nat_list_cmp_total, tied_itself}
use Rattle.std.proofs.lemmas.List.Sums.{sum_by-cons}
use Rattle.std.proofs.lemmas.List.Elements.{Contains-append_left, Contains-append_right, Contains-append_cases}
use Rattle.std.proofs.lemmas.List.Elements.{Contains-push, Contains-push_cases}
use Rattle.aas_store.specs.Documents.{Identifier, Map}
use Rattle.aas_serialization.specs.Reaches.{Set, IsIn, Reaches, at_root, onward, IsReached}

order : Identifier → Identifier → Ordering
order = slice_cmp nat_cmp

-- ---- lists

pub contains_none : {X : Type 0} (x : X) → Contains [] x → ⊥
contains_none x has = omega (arith, has.1)

pub contains_first : {X : Type 0} (x : X) (xs : List X) → Contains (x ∷ xs) x
contains_first x xs = Contains-append_left (x ∷ []) xs x (Contains-push [] x)

pub contains_more : {X : Type 0} (y x : X) (xs : List X) → Contains xs x → Contains (y ∷ xs) x
contains_more y x xs has = Contains-append_right (y ∷ []) xs x has

pub contains_cases : {X : Type 0} (y x : X) (xs : List X) → Contains (y ∷ xs) x → (y ≡ x) ⊎ Contains xs x
contains_cases y x xs has = elim (Contains-append_cases (y ∷ []) xs x has) [
  | inl one ↦ elim (Contains-push_cases [] y x one) [ inl none ↦ absurd (contains_none x none) | inr same ↦ inl same ]
  | inr more ↦ inr more
]

-- fewer pass where one of them no longer does
fewer_or_same : {X : Type 0} (p q : X → Bool) (xs : List X) → ((x : X) → q x ≡ true → p x ≡ true)
    → count_by q xs ≤ count_by p xs
fewer_or_same p q [] le = omega arith
fewer_or_same p q (x ∷ xs) le =
    let first = by (p x) (q x) refl refl (fewer_or_same p q xs le) in
    omega (arith, first, sum_by-cons (λ y. cond (p y) 1 0) x xs, sum_by-cons (λ y. cond (q y) 1 0) x xs)
  where
    by : (a b : Bool) → p x ≡ a → q x ≡ b → count_by q xs ≤ count_by p xs
        → cond b 1 0 + count_by q xs ≤ cond a 1 0 + count_by p xs
    by true true is then rest = omega (arith, rest)
    by true false is then rest = omega (arith, rest)
    by false true is then rest = absurd (true≢false (sym (le x then) ∙ is))
    by false false is then rest = omega (arith, rest)

fewer : {X : Type 0} (p q : X → Bool) (x : X) (xs : List X) → ((x : X) → q x ≡ true → p x ≡ true) → Contains xs x
    → p x ≡ true → q x ≡ false → count_by q xs < count_by p xs
fewer p q x [] le has passes fails = absurd (contains_none x has)
fewer {X = X} p q x (y ∷ ys) le has passes fails =
    let first : cond (q y) 1 0 + count_by q ys < cond (p y) 1 0 + count_by p ys = elim (contains_cases y x ys has) [
      | inl same ↦ here (p y) (q y) (ap p same ∙ passes) (ap q same ∙ fails) (fewer_or_same p q ys le)
      | inr more ↦ later (p y) (q y) refl refl (fewer p q x ys le more passes fails)
    ] in
    omega (arith, first, sum_by-cons (λ z. cond (p z) 1 0) y ys, sum_by-cons (λ z. cond (q z) 1 0) y ys)
  where
    here : (a b : Bool) → a ≡ true → b ≡ false → count_by q ys ≤ count_by p ys
        → cond b 1 0 + count_by q ys < cond a 1 0 + count_by p ys
    here true false is then rest = omega (arith, rest)
    here true true is then rest = absurd (true≢false then)
    here false b is then rest = absurd (true≢false (sym is))

    later : (a b : Bool) → p y ≡ a → q y ≡ b → count_by q ys < count_by p ys
        → cond b 1 0 + count_by q ys < cond a 1 0 + count_by p ys
    later true true is then rest = omega (arith, rest)
    later true false is then rest = omega (arith, rest)
    later false true is then rest = absurd (true≢false (sym (le y then) ∙ is))
    later false false is then rest = omega (arith, rest)

-- ---- sets

same_id : (p q : Identifier) → order p q ≡ Equal → p ≡ q
unfolding order
same_id p q e = slice_cmp-IsAntisymmetric nat_cmp-IsAntisymmetric p q e

pub equal_from : (r : Ordering) → is_eq r ≡ true → r ≡ Equal
equal_from Equal e = refl
equal_from Less e = absurd (true≢false (sym e))
equal_from Greater e = absurd (true≢false (sym e))

module _ {X : Type 0} where
  has_inserted : (s : Map X) (id : Identifier) (x : X) → IsIn (map.insert s id x) id
  unfolding order
  has_inserted s id x =
      ap is_some (get-insert nat_list_cmp_total s id x id)
      ∙ ap (λ r. is_some (cond (is_eq r) (Some x) (map.get s id))) (tied_itself nat_list_cmp_total id)

  has_kept : (s : Map X) (id q : Identifier) (x : X) → IsIn s q → IsIn (map.insert s id x) q
  has_kept s id q x has = ap is_some (get-insert nat_list_cmp_total s id x q)
      ∙ by (eq_by_cmp (slice_cmp nat_cmp) q id) (map.get s q) has
    where
      by : (b : Bool) (o : Option X) → is_some o ≡ true → is_some (cond b (Some x) o) ≡ true
      by true o has = refl
      by false o has = has

  has_cases : (s : Map X) (id q : Identifier) (x : X) → IsIn (map.insert s id x) q → IsIn s q ⊎ (id ≡ q)
  unfolding order
  has_cases s id q x has = by (order q id) refl (sym (ap is_some (get-insert nat_list_cmp_total s id x q)) ∙ has)
    where
      by : (r : Ordering) → order q id ≡ r → is_some (cond (is_eq r) (Some x) (map.get s q)) ≡ true → IsIn s q
          ⊎ (id ≡ q)
      by Equal is now = inr (sym (same_id q id is))
      by Less is now = inl now
      by Greater is now = inl now

has_none : (X : Type 0) (q : Identifier) → IsIn {X = X} map.empty q → ⊥
has_none X q has = true≢false (sym has ∙ ap is_some (get-empty (slice_cmp nat_cmp) q))

-- ---- one step after another: identifiers are taken into the set, and those that it hadn't wait, where they lead on

-- how much is left to do: those that aren't taken count twice, those that wait once
abbrev pub is_out : {X : Type 0} → Map X → Identifier → Bool
is_out taken id = not (map.contains_key taken id)

abbrev pub weight : {X : Type 0} → List Identifier → Map X → List Identifier → ℕ
weight all taken waiting = 2 * count_by (is_out taken) all + length waiting

-- some identifiers are taken
pub record Takes {X : Type 0} (next : Identifier → List Identifier) (all : List Identifier)
    (taken : Map X) (waiting : List Identifier) (taken' : Map X) (waiting' ids : List Identifier) : Type 0 where
  pub kept : (id : Identifier) → IsIn taken id → IsIn taken' id
  pub added : (id : Identifier) → Contains ids id → IsIn taken' id
  pub from : (id : Identifier) → IsIn taken' id → IsIn taken id ⊎ Contains ids id
  pub still : (id : Identifier) → Contains waiting id → Contains waiting' id
  pub new : (from id : Identifier) → IsIn taken' from → Contains (next from) id
      → IsIn taken from ⊎ Contains waiting' from
  pub waits : (id : Identifier) → Contains waiting' id → Contains waiting id ⊎ Contains ids id
  pub lighter : weight all taken' waiting' ≤ weight all taken waiting

module _ {X : Type 0} (next : Identifier → List Identifier) (all : List Identifier) where
  pub takes_nothing : (t : Map X) (w : List Identifier) → Takes next all t w t w []
  takes_nothing t w = record {
    kept = λ id has. has;
    added = λ id has. absurd (contains_none id has);
    from = λ id has. inl has;
    still = λ id has. has;
    new = λ id to has leads. inl has;
    waits = λ id has. inl has;
    lighter = omega arith;
  }

  pub takes_both : (t u v : Map X) (w x y xs ys : List Identifier) → Takes next all t w u x xs
      → Takes next all u x v y ys → Takes next all t w v y (xs ++ ys)
  takes_both t u v w x y xs ys a b = record {
    kept = λ id has. b.kept id (a.kept id has);
    added = λ id has. elim (Contains-append_cases xs ys id has)
        [ inl here ↦ b.kept id (a.added id here) | inr later ↦ b.added id later ];
    from = λ id has. elim (b.from id has) [
      | inl before ↦ elim (a.from id before)
          [ inl first ↦ inl first | inr here ↦ inr (Contains-append_left xs ys id here) ]
      | inr later ↦ inr (Contains-append_right xs ys id later)
    ];
    still = λ id has. b.still id (a.still id has);
    new = λ id to has leads. elim (b.new id to has leads) [
      | inl before ↦ elim (a.new id to before leads) [ inl first ↦ inl first | inr waits ↦ inr (b.still id waits) ]
      | inr waits ↦ inr waits
    ];
    waits = λ id has. elim (b.waits id has) [
      | inl before ↦ elim (a.waits id before)
          [ inl first ↦ inl first | inr here ↦ inr (Contains-append_left xs ys id here) ]
      | inr later ↦ inr (Contains-append_right xs ys id later)
    ];
    lighter = omega (arith, a.lighter, b.lighter);
  }

  -- one that is taken already
  pub takes_again : (t : Map X) (w : List Identifier) (id : Identifier) → IsIn t id → Takes next all t w t w (id ∷ [])
  takes_again t w id there = record {
    kept = λ q has. has;
    added = λ q has. elim (contains_cases id q [] has)
        [ inl same ↦ subst (λ q. IsIn t q) same there | inr none ↦ absurd (contains_none q none) ];
    from = λ q has. inl has;
    still = λ q has. has;
    new = λ q to has leads. inl has;
    waits = λ q has. inl has;
    lighter = omega arith;
  }

  out_before : (t : Map X) (id : Identifier) (x : X) (q : Identifier) → is_out (map.insert t id x) q ≡ true
      → is_out t q ≡ true
  out_before t id x q out = by (map.contains_key t q) refl
    where
      by : (b : Bool) → map.contains_key t q ≡ b → not b ≡ true
      by false is = refl
      by true is = absurd (true≢false (sym out ∙ ap not (has_kept t id q x is)))

  -- one that isn't, and is among all: it waits, or leads nowhere
  takes_new : (t : Map X) (w w' : List Identifier) (id : Identifier) (x : X) → Contains all id
      → map.contains_key t id ≡ false → ((q : Identifier) → Contains w q → Contains w' q)
      → ((q : Identifier) → Contains w' q → Contains w q ⊎ Contains (id ∷ []) q)
      → ((to : Identifier) → Contains (next id) to → Contains w' id) → length w' ≤ length w + 1
      → Takes next all t w (map.insert t id x) w' (id ∷ [])
  takes_new t w w' id x known out still waits leading long =
      let u = map.insert t id x in
      let less : count_by (is_out u) all < count_by (is_out t) all =
      fewer (is_out t) (is_out u) id all (out_before t id x) known (ap not out) (ap not (has_inserted t id x)) in
      record {
        kept = λ q has. has_kept t id q x has;
        added = λ q has. elim (contains_cases id q [] has) [
          | inl same ↦ subst (λ q. IsIn (map.insert t id x) q) same (has_inserted t id x)
          | inr none ↦ absurd
              (contains_none q none)
        ];
        from = λ q has. elim (has_cases t id q x has) [
          | inl before ↦ inl before
          | inr same ↦ inr (subst (λ q. Contains (id ∷ []) q) same (contains_first id []))
        ];
        still = still;
        new = λ q to has leads. elim (has_cases t id q x has) [
          | inl before ↦ inl before
          | inr same ↦
              inr (subst (λ q. Contains w' q) same (leading to (subst (λ q. Contains (next q) to) (sym same) leads)))
        ];
        waits = waits;
        lighter = omega (arith, less, long);
      }

  pub takes_one : (t : Map X) (w : List Identifier) (id : Identifier) (x : X) → Contains all id
      → map.contains_key t id ≡ false → Takes next all t w (map.insert t id x) (w ++ id ∷ []) (id ∷ [])
  takes_one t w id x known out =
      let long : length (w ++ id ∷ []) ≡ length w + 1 = length-append w (id ∷ []) in
      takes_new t w (w ++ id ∷ []) id x known out
      (λ q has. Contains-append_left w (id ∷ []) q has) (λ q has. Contains-append_cases w (id ∷ []) q has)
      (λ to leads. Contains-push w id) (omega (arith, long))

  pub takes_last : (t : Map X) (w : List Identifier) (id : Identifier) (x : X) → Contains all id
      → map.contains_key t id ≡ false → next id ≡ [] → Takes next all t w (map.insert t id x) w (id ∷ [])
  takes_last t w id x known out nowhere =
      takes_new t w w id x known out (λ q has. has) (λ q has. inl has)
      (λ to leads. absurd (contains_none to (subst (λ ids. Contains ids to) nowhere leads))) (omega arith)

-- ---- from the roots on

-- all that is taken is reached, the roots are taken, and what is taken waits, or all to which it leads is taken
pub record Closing {X : Type 0} (next : Identifier
    → List Identifier) (roots : List Identifier) (taken : Map X) (waiting : List Identifier) : Type 0 where
  pub sound : (id : Identifier) → IsIn taken id → Reaches next roots id
  pub waits : (id : Identifier) → Contains waiting id → IsIn taken id
  pub rooted : (id : Identifier) → Contains roots id → IsIn taken id
  pub closed : (from id : Identifier) → IsIn taken from → Contains (next from) id → IsIn taken id
      ⊎ Contains waiting from

module _ {X : Type 0} (next : Identifier → List Identifier) (roots all : List Identifier) where
  pub closing_begun : (t : Map X) (w : List Identifier) → Takes next all map.empty [] t w roots → Closing next roots t w
  closing_begun t w a = record {
    sound = λ id has. elim (a.from id has) [ inl none ↦ absurd (has_none X id none) | inr here ↦ at_root id here ];
    waits = λ id has. elim (a.waits id has) [ inl none ↦ absurd (contains_none id none) | inr here ↦ a.added id here ];
    rooted = a.added;
    closed = λ from id has leads. elim (a.new from id has leads) [
      | inl none ↦ absurd (has_none X from none)
      | inr waits ↦ inr waits
    ];
  }

  pub closing_next : (t u : Map X) (old w x : List Identifier) (from : Identifier)
      → ((q : Identifier) → Contains old q → Contains w q ⊎ (from ≡ q))
      → ((q : Identifier) → Contains w q → Contains old q) → Contains old from
      → Closing next roots t old → Takes next all t w u x (next from) → Closing next roots u x
  closing_next t u old w x from left less first c a = record {
    sound = λ id has. elim (a.from id has)
        [ inl before ↦ c.sound id before | inr here ↦ onward from id (c.sound from (c.waits from first)) here ];
    waits = λ id has. elim (a.waits id has)
        [ inl before ↦ a.kept id (c.waits id (less id before)) | inr here ↦ a.added id here ];
    rooted = λ id here. a.kept id (c.rooted id here);
    closed = λ f id has leads. elim (a.new f id has leads) [
      | inl before ↦ elim (c.closed f id before leads) [
        | inl taken ↦ inl (a.kept id taken)
        | inr waits ↦ elim (left f waits) [
          | inl still ↦ inr (a.still f still)
          | inr same ↦ inl
              (a.added id (subst (λ f. Contains (next f) id) (sym same) leads))
        ]
      ]
      | inr waits ↦ inr waits
    ];
  }

all_taken : {X : Type 0} (next : Identifier → List Identifier) (roots : List Identifier) (t : Map X)
    → Closing next roots t [] → (id : Identifier) → Reaches next roots id → IsIn t id
all_taken next roots t c _ (at_root id has) = c.rooted id has
all_taken next roots t c _ (onward from id reached leads) =
    elim (c.closed from id (all_taken next roots t c from reached) leads)
    [ inl taken ↦ taken | inr waits ↦ absurd (contains_none from waits) ]

pub closing_done : (next : Identifier → List Identifier) (roots : List Identifier) (t : Set) → Closing next roots t []
    → IsReached next roots t
closing_done next roots t c id = (c.sound id, all_taken next roots t c id)

-- ---- there is one

-- a set and identifiers that wait
pub record HasTakenAll (next : Identifier → List Identifier) (all : List Identifier)
    (taken : Set) (waiting ids : List Identifier) : Type 0 where
  pub taken' : Set
  pub waiting' : List Identifier
  pub takes : Takes next all taken waiting taken' waiting' ids

take_all : (next : Identifier → List Identifier) (all ids : List Identifier)
    → ((id : Identifier) → Contains ids id → Contains all id) → (t : Set) (w : List Identifier)
    → HasTakenAll next all t w ids
take_all next all [] known t w = record { taken' = t; waiting' = w; takes = takes_nothing next all t w }
take_all next all (id ∷ ids) known t w = by (take_all next all ids more) (map.contains_key t id) refl
  where
    more : (q : Identifier) → Contains ids q → Contains all q
    more q has = known q (contains_more id q ids has)

    with_first : (u : Set) (x : List Identifier) → Takes next all t w u x (id ∷ []) → HasTakenAll next all u x ids
        → HasTakenAll next all t w (id ∷ ids)
    with_first u x first rest = record {
      taken' = rest.taken';
      waiting' = rest.waiting';
      takes = takes_both next all t u rest.taken' w x rest.waiting' (id ∷ []) ids first rest.takes;
    }

    by : ((u : Set) (x : List Identifier) → HasTakenAll next all u x ids) → (b : Bool) → map.contains_key t id ≡ b
        → HasTakenAll next all t w (id ∷ ids)
    by rest true there = with_first t w (takes_again next all t w id there) (rest t w)
    by rest false out =
        with_first (map.insert t id tt) (w ++ id ∷ [])
        (takes_one next all t w id tt (known id (contains_first id ids)) out)
        (rest (map.insert t id tt) (w ++ id ∷ []))

module _ (next : Identifier → List Identifier) (roots all : List Identifier) (next_known : (from id : Identifier)
    → Contains (next from) id → Contains all id) where
  closes : (n : ℕ) (t : Set) (w : List Identifier) → weight all t w ≤ n → Closing next roots t w → (s : Set)
      × IsReached next roots s
  closes zero t [] le c = (t, closing_done next roots t c)
  closes (suc n) t [] le c = (t, closing_done next roots t c)
  closes zero t (from ∷ w) le c = absurd (omega (arith, le))
  closes (suc n) t (from ∷ w) le c =
      let more = take_all next all (next from) (next_known from) t w in
      closes n more.taken' more.waiting' (omega (arith, le, more.takes.lighter))
      (closing_next next roots all t more.taken' (from ∷ w) w more.waiting' from
      (λ q has. elim (contains_cases from q w has) [ inl same ↦ inr same | inr later ↦ inl later ])
      (λ q has. contains_more from q w has) (contains_first from w) c more.takes)

  one_reached : ((id : Identifier) → Contains roots id → Contains all id) → (s : Set) × IsReached next roots s
  one_reached roots_known =
      let begun = take_all next all roots roots_known map.empty [] in
      closes (weight all begun.taken' begun.waiting') begun.taken' begun.waiting' (omega arith)
      (closing_begun next roots all begun.taken' begun.waiting' begun.takes)

  -- the set: all that is known of it stands in the lemma behind it
  pub reached : ((id : Identifier) → Contains roots id → Contains all id) → Set
  reached roots_known = (one_reached roots_known).0

  pub reached_is : (roots_known : (id : Identifier) → Contains roots id → Contains all id)
      → IsReached next roots (reached roots_known)
  unfolding reached
  reached_is roots_known = (one_reached roots_known).1

-- ---- there is no other

same_units : (a b : Option (Unit {0})) → (is_some a ≡ true → is_some b ≡ true) → (is_some b ≡ true → is_some a ≡ true)
    → a ≡ b
same_units None None there back = refl
same_units (Some x) (Some y) there back = refl
same_units None (Some y) there back = absurd (true≢false (sym (back refl)))
same_units (Some x) None there back = absurd (true≢false (sym (there refl)))

pub same_reached : (next : Identifier → List Identifier) (roots : List Identifier) (s t : Set)
    → IsReached next roots s → IsReached next roots t → s ≡ t
same_reached next roots s t is_s is_t =
    same_map nat_list_cmp_total (slice_cmp-IsAntisymmetric nat_cmp-IsAntisymmetric) s t
    (λ q. same_units (map.get s q) (map.get t q) (λ has. (is_t q).1 ((is_s q).0 has))
    (λ has. (is_s q).1 ((is_t q).0 has)))
