-- What an event at one place makes of all.
use Rattle.std.proofs.Common.{◌≡◌, ◌≢◌, ◌⊎◌, inl, inr, ℕ, zero, suc, ◌+◌, ◌*◌, ◌<◌, ◌≤◌, List, [], ◌∷◌, length, None}
use Rattle.std.proofs.Common.{Some, Bool, true, false, cond, refl, sym, ap, ◌∙◌, subst, arith, slice_get}
use Rattle.std.proofs.Common.{slice_set, slice_index_or}
use Rattle.std.specs.List.{count_by}
use Rattle.std.specs.declared.option.Option.{Option}
use Rattle.std.proofs.Math.ListN.{length-set}
use Rattle.std.proofs.lemmas.Bool.Decides.{eqb_tells, nat_tests}
use Rattle.std.proofs.lemmas.List.Sums.{sum_by-cons, sum_by-set}
use Rattle.std.proofs.lemmas.List.Quantifiers.{position-Some}
use Rattle.std.specs.Prelude.{nat_lt, position}
use borrow.Author.Tests.{ltb-true}
use Rattle.aas_clients.specs.Kept.{limit_of}
use Rattle.std.proofs.lemmas.Option.{cond_some, none-some, same_Some, slice_get-get_or}
use Rattle.std.proofs.lemmas.Option.{slice_get_read, slice_get_within}
use Rattle.aas_clients.specs.Clients.{GoesOn, HasStood, KeepsTurn, waiting_of}
use Rattle.aas_clients.specs.Places.{AreRight, Changes, HasStoodHere, IsCountedAt, Keeps, KeepsPlace, Moves, OnlyAt}
use Rattle.aas_clients.specs.Places.{is_free, is_large, is_open, large_count, next_place, open_count, place_among}
use Rattle.aas_clients.specs.Places.{storage_at, storage_of, turn_of}
use Rattle.aas_clients.specs.declared.client.Client.{Client}
use Rattle.aas_clients.specs.declared.client.Turn.TheVariants.{Off, Visited}
use Rattle.aas_clients.specs.declared.parting.Parting.{Parting as Parted}
use Rattle.aas_clients.specs.declared.place.Place.{Place}
use Rattle.aas_clients.specs.declared.place.Place.TheVariants.{Free, Open, Parting}

-- ---- one of a list in place of another

pub get-set_same : {X : Type 0} (xs : List X) (k : ℕ) (x : X) → k < length xs → slice_get (slice_set xs k x) k ≡ Some x
get-set_same [] k x within = absurd (omega (arith, within))
get-set_same (y ∷ xs) zero x within = refl
get-set_same (y ∷ xs) (suc k) x within = get-set_same xs k x (omega (arith, within))

pub get-set_other : {X : Type 0} (xs : List X) (k j : ℕ) (x : X)
    → j ≢ k → slice_get (slice_set xs k x) j ≡ slice_get xs j
get-set_other [] k j x other = refl
get-set_other (y ∷ xs) zero zero x other = absurd (other refl)
get-set_other (y ∷ xs) zero (suc j) x other = refl
get-set_other (y ∷ xs) (suc k) zero x other = refl
get-set_other (y ∷ xs) (suc k) (suc j) x other = get-set_other xs k j x (λ same. other (ap suc same))

-- either it is the new one, or another that was there before
pub get-set : {X : Type 0} (xs : List X) (k j : ℕ) (x y : X) → k < length xs → slice_get (slice_set xs k x) j ≡ Some y
    → ((j ≡ k) × (x ≡ y)) ⊎ ((j ≢ k) × (slice_get xs j ≡ Some y))
get-set xs k j x y within is =
    elim (eqb_tells j k) [
      | inl same ↦ inl (
        same.1,
        same_Some x y
            (sym (get-set_same xs k x within) ∙ ap (λ (n : ℕ). slice_get (slice_set xs k x) n) (sym same.1) ∙ is),
      )
      | inr other ↦ inr (other.1, sym (get-set_other xs k j x other.1) ∙ is)
    ]

-- ---- counts

rises : (a b : Bool) → (a ≡ true → b ≡ true) → cond a 1 0 ≤ cond b 1 0
rises true b h = subst (λ (x : Bool). 1 ≤ cond x 1 0) (sym (h refl)) (omega arith)
rises false b h = omega arith

at_most_one : (a : Bool) → cond a 1 0 ≤ 1
at_most_one true = omega arith
at_most_one false = omega arith

limit_of-is : (is_large : Bool) → limit_of is_large ≡ 4177920 * cond is_large 1 0 + 32768
limit_of-is true = refl
limit_of-is false = refl

pub among_less : (size : ℕ) → size < 512 → place_among None size ≡ Some size
among_less size less = grind (arith, nat_tests)

pub among_full : (size : ℕ) → 512 ≤ size → place_among None size ≡ None
among_full size full = grind (arith, nat_tests)

module _ {S : Type 0} {g : _} where
  -- ---- one place

  same_client : (a b : Client S g) → ◌≡◌ {A = Place S g} (Open a) (Open b) → a ≡ b
  same_client a b e = cc

  not_free : (client : Client S g) → ◌≡◌ {A = Place S g} Free (Open client) → ⊥
  not_free client e = cc

  not_parting : (parting : Parted S g) (client : Client S g) → ◌≡◌ {A = Place S g} (Parting parting) (Open client) → ⊥
  not_parting parting client e = cc

  -- where no client lies, none is opened, joins the line or is visited
  moves_away : (old new : Place S g) (next next_now : ℕ) → is_open new ≡ false → is_large new ≡ false
      → turn_of new ≡ None → ((client : Client S g) → new ≡ Open client → ⊥) → next ≤ next_now
      → Moves old new next next_now
  moves_away old new next next_now closed small waits none rises = record {
    changes = record {
      opens = λ is. absurd (let e : false ≡ true = sym closed ∙ is in cc);
      counts = λ is. absurd (let e : false ≡ true = sym closed ∙ is in cc);
      rises = rises;
      stays = λ n at is. absurd (let e : false ≡ true = sym closed ∙ is in cc);
      line = λ n is. absurd (none-some n (sym waits ∙ is));
      visited = λ (client, is, turn). absurd (none client is);
      stood = λ client is. absurd (none client is);
    };
    large = λ is. absurd (let e : false ≡ true = sym small ∙ is in cc);
  }

  pub moves_closed : (old new : Place S g) (next next_now : ℕ)
      → is_open new ≡ false → next ≤ next_now → Moves old new next next_now
  moves_closed old (Open client) next next_now closed rises = absurd (let e : true ≡ false = closed in cc)
  moves_closed old Free next next_now closed rises = moves_away old Free next next_now refl refl refl not_free rises
  moves_closed old (Parting parting) next next_now closed rises =
      moves_away old (Parting parting) next next_now refl refl refl (not_parting parting) rises

  changes_open : (client client_now : Client S g) (next next_now : ℕ)
      → (client_now.requests ≡ client.requests) × (client_now.handed ≡ client.handed)
      → KeepsTurn client.turn client_now.turn next next_now → HasStood client_now
      → Changes (Open client) (Open client_now) next next_now
  changes_open client client_now next next_now counts turn stood = record {
    opens = λ is. refl;
    counts = λ is. cc (counts.0, counts.1);
    rises = turn.rises;
    stays = λ n at is. turn.stays n at;
    line = turn.line;
    visited = λ (c, is, visited).
        (client, refl, turn.visited (ap (λ (d : Client S g). d.turn) (same_client client_now c is) ∙ visited));
    stood = λ c is. subst (λ (d : Client S g). HasStood d) (same_client client_now c is) stood;
  }

  pub moves_open : (old : Place S g) (client client_now : Client S g) (next next_now : ℕ) → old ≡ Open client
      → GoesOn client client_now → KeepsTurn client.turn client_now.turn next next_now → HasStood client_now
      → Moves old (Open client_now) next next_now
  moves_open old client client_now next next_now was goes_on turn stood =
      subst (λ (p : Place S g). Moves p (Open client_now) next next_now) (sym was)
      (record {
        changes = changes_open client client_now next next_now (goes_on.requests, goes_on.handed) turn stood;
        large = λ is. sym goes_on.large ∙ is;
      })

  pub moves_none : (place : Place S g) (next : ℕ) → HasStoodHere place → Moves place place next next
  moves_none place next stood = record {
    changes = record {
      opens = λ is. is;
      counts = λ is. refl;
      rises = omega arith;
      stays = λ n at is. at;
      line = λ n is. inl is;
      visited = λ is. is;
      stood = stood;
    };
    large = λ is. is;
  }

  same_turn : (client client_now : Client S g) (next : ℕ)
      → client_now.turn ≡ client.turn → KeepsTurn client.turn client_now.turn next next
  same_turn client client_now next turn = record {
    rises = omega arith;
    stays = λ n is. ap waiting_of turn ∙ is;
    line = λ n is. inl (ap waiting_of (sym turn) ∙ is);
    visited = λ is. sym turn ∙ is;
  }

  pub moves_visited : (old : Place S g) (client client_now : Client S g) (next : ℕ)
      → old ≡ Open client → client.turn ≡ Visited → client_now.turn ≡ client.turn → GoesOn client client_now
      → Moves old (Open client_now) next next
  moves_visited old client client_now next was visited turn goes_on =
      moves_open old client client_now next next was goes_on (same_turn client client_now next turn)
      (λ off replied some. absurd (let e : Visited ≡ Off = sym visited ∙ sym turn ∙ off in cc))

  pub grown_open : (old : Place S g) (client client_now : Client S g) → old ≡ Open client
      → client_now.turn ≡ client.turn → client_now.inbox ≡ client.inbox → client_now.replies ≡ client.replies
      → client_now.has_ended ≡ client.has_ended
      → (client_now.requests ≡ client.requests) × (client_now.handed ≡ client.handed) → (next : ℕ)
      → HasStoodHere old → Changes old (Open client_now) next next
  grown_open old client client_now was turn inbox replies has_ended counts next stood =
      subst (λ (p : Place S g). Changes p (Open client_now) next next) (sym was)
      (changes_open client client_now next next counts (same_turn client client_now next turn)
      (rw (turn, inbox, replies, has_ended) (stood client was)))

  -- ---- all places

  open_client : (place : Place S g) (n : ℕ)
      → turn_of place ≡ Some n → (client : Client S g) × (place ≡ Open client) × (waiting_of client.turn ≡ Some n)
  open_client Free n is = absurd (none-some n is)
  open_client (Open client) n is = (client, refl, is)
  open_client (Parting parting) n is = absurd (none-some n is)

  pub right_set : (places : List (Place S g)) (k next next_now : ℕ) (present : Option ℕ) (old new : Place S g)
      → k < length places → slice_get places k ≡ Some old → Changes old new next next_now → AreRight places next present
      → AreRight (slice_set places k new) next_now present
  right_set places k next next_now present old new within was moves right j client is =
      elim (get-set places k j new (Open client) within is) [
        | inl here ↦ record {
          numbered = λ n waits.
              let line = moves.line n (ap turn_of here.1 ∙ waits) in
              elim line [
                | inl stays ↦
                    let O = open_client old n stays in
                    let R = (right k O.0 (was ∙ ap Some O.1)).numbered n O.2 in
                    omega (arith, R, moves.rises)
                | inr joins ↦ joins.1
              ];
          visited = λ visited.
              let V = moves.visited (client, here.1, visited) in
              (right k V.0 (was ∙ ap Some V.1)).visited V.2 ∙ ap Some (sym here.0);
          stood = moves.stood client here.1;
        }
        | inr there ↦ let R = right j client there.1 in record {
          numbered = λ n waits. let h = R.numbered n waits in omega (arith, h, moves.rises);
          visited = R.visited;
          stood = R.stood;
        }
      ]

  pub keeps_same : (places places_now : List (Place S g)) (next next_now : ℕ)
      → places_now ≡ places → next_now ≡ next → Keeps places next places_now next_now
  keeps_same places places_now next next_now same same_next = record {
    rises = omega (arith, same_next);
    size = ap length same;
    each = λ k old new was is.
        let e : old ≡ new =
        same_Some old new (sym was ∙ ap (λ (l : List (Place S g)). slice_get l k) (sym same) ∙ is) in
        subst (λ (p : Place S g). KeepsPlace old p next) e
        (record { opens = λ h. h; stays = λ n at h. at; line = λ n h. inl h; counts = λ h. refl });
  }

  pub keeps_set : (places : List (Place S g)) (k next next_now : ℕ) (old new : Place S g)
      → k < length places → slice_get places k ≡ Some old → Changes old new next next_now
      → Keeps places next (slice_set places k new) next_now
  keeps_set places k next next_now old new within was moves = record {
    rises = moves.rises;
    size = length-set places k new;
    each = λ j old_j new_j was_j is_j.
        elim (get-set places k j new new_j within is_j) [
          | inl here ↦
              let e : old ≡ old_j =
              same_Some old old_j (sym was ∙ ap (λ (n : ℕ). slice_get places n) (sym here.0) ∙ was_j) in
              subst (λ (p : Place S g). KeepsPlace p new_j next) e
              (subst (λ (p : Place S g). KeepsPlace old p next) here.1 (record {
                opens = moves.opens;
                stays = moves.stays;
                line = λ n is. elim (moves.line n is) [ inl stays ↦ inl stays | inr joins ↦ inr joins.0 ];
                counts = moves.counts;
              }))
          | inr there ↦
              let e : old_j ≡ new_j = same_Some old_j new_j (sym was_j ∙ there.1) in
              subst (λ (p : Place S g). KeepsPlace old_j p next) e
              (record { opens = λ h. h; stays = λ n at h. at; line = λ n h. inl h; counts = λ h. refl })
        ];
  }

  pub keeps_both : (first second third : List (Place S g)) (a b c : ℕ)
      → Keeps first a second b → Keeps second b third c → Keeps first a third c
  keeps_both first second third a b c one two = record {
    rises = omega (arith, one.rises, two.rises);
    size = two.size ∙ one.size;
    each = λ k old new was is.
        let M = slice_get-get_or second k new (omega (arith, slice_get_within third k new is, two.size)) in
        let mid = slice_index_or second k new in
        let P = one.each k old mid was M in
        let Q = two.each k mid new M is in
        record {
          opens = λ h. P.opens (Q.opens h);
          stays = λ n at h. Q.stays n (P.stays n at (Q.opens h)) h;
          line = λ n h. elim (Q.line n h) [
            | inl stays ↦ P.line n stays
            | inr joins ↦ inr (omega (arith, joins, one.rises))
          ];
          counts = λ h. Q.counts h ∙ P.counts (Q.opens h);
        };
  }

  pub only_same : (places places_now : List (Place S g)) (k : ℕ) → places_now ≡ places → OnlyAt places places_now k
  only_same places places_now k same j other = ap (λ (l : List (Place S g)). slice_get l j) same

  pub only_set : (places : List (Place S g)) (k : ℕ) (new : Place S g) → OnlyAt places (slice_set places k new) k
  only_set places k new j other = get-set_other places k j new other

  pub only_both : (first second third : List (Place S g)) (k : ℕ)
      → OnlyAt first second k → OnlyAt second third k → OnlyAt first third k
  only_both first second third k one two j other = two j other ∙ one j other

  -- ---- counts

  -- one in place of another for which it holds if it holds for this one
  pub count_set : (p : Place S g → Bool) (places : List (Place S g)) (k : ℕ) (old new : Place S g) (most : ℕ)
      → k < length places → slice_get places k ≡ Some old → (p new ≡ true → p old ≡ true)
      → count_by p places ≤ most → count_by p (slice_set places k new) ≤ most
  count_set p places k old new most within was h few =
      let T = sum_by-set (λ s. cond (p s) 1 0) places k new old within in
      let e : slice_index_or places k old ≡ old =
      same_Some (slice_index_or places k old) old (sym (slice_get-get_or places k old within) ∙ was) in
      let f : cond (p (slice_index_or places k old)) 1 0 ≡ cond (p old) 1 0 =
      ap (λ (s : Place S g). cond {A = ℕ} (p s) 1 0) e in
      let R = rises (p new) (p old) h in
      omega (arith, T, f, R, few)

  -- one in place of another
  pub count_one : (p : Place S g → Bool) (places : List (Place S g)) (k : ℕ) (new : Place S g)
      → k < length places → count_by p (slice_set places k new) ≤ count_by p places + 1
  count_one p places k new within =
      let T = sum_by-set (λ s. cond (p s) 1 0) places k new new within in
      omega (arith, T, at_most_one (p new))

  -- ---- a place

  -- what lies there, as an index gives it
  pub at_place : (places : List (Place S g)) (k size : ℕ) (place : Place S g)
      → size ≡ length places → k < size → place ≡ slice_index_or places k place → slice_get places k ≡ Some place
  at_place places k size place all within is = slice_get_read places size k place all within is

  -- the same, and that there is such a place
  pub lies_at : (places : List (Place S g)) (k size : ℕ) (place : Place S g)
      → size ≡ length places → k < size → place ≡ slice_index_or places k place
      → (k < length places) × (slice_get places k ≡ Some place)
  lies_at places k size place all within is = (omega (arith, all, within), at_place places k size place all within is)

  pub stood_at : (places : List (Place S g)) (k next : ℕ) (present : Option ℕ) (place : Place S g)
      → slice_get places k ≡ Some place → AreRight places next present → HasStoodHere place
  stood_at places k next present place was right client is = (right k client (was ∙ ap Some is)).stood

  pub set_has : (P : Place S g → Type 0) (places : List (Place S g)) (k : ℕ) (new : Place S g)
      → k < length places → P new → (place : Place S g) → slice_get (slice_set places k new) k ≡ Some place → P place
  set_has P places k new within here place is =
      subst P (same_Some new place (sym (get-set_same places k new within) ∙ is)) here

  pub none_there : (P : Place S g → Type 0) (places : List (Place S g)) (k : ℕ)
      → length places ≤ k → (place : Place S g) → slice_get places k ≡ Some place → P place
  none_there P places k past place is = absurd (omega (arith, slice_get_within places k place is, past))

  -- ---- storage

  storage_of-le : (place : Place S g)
      → storage_of place ≤ 4177920 * cond (is_large place) 1 0 + 32768 * cond (is_open place) 1 0 + 32768
  storage_of-le Free = omega arith
  storage_of-le (Open client) =
      let r = client.replies.short in
      let i = limit_of-is client.is_large in
      omega (arith, client.short, r, i)
  storage_of-le (Parting parting) = let r = parting.replies.short in omega (arith, r)

  pub storage_at-le : (places : List (Place S g))
      → storage_at places ≤ 4177920 * large_count places + 32768 * open_count places + 32768 * length places
  storage_at-le [] = omega arith
  storage_at-le (place ∷ places) =
      let s = sum_by-cons storage_of place places in
      let l = sum_by-cons (λ p. cond {A = ℕ} (is_large p) 1 0) place places in
      let o = sum_by-cons (λ p. cond {A = ℕ} (is_open p) 1 0) place places in
      omega (arith, s, l, o, storage_of-le place, storage_at-le places)

  -- ---- one more, or one less

  pub counted_set : (places : List (Place S g)) (k : ℕ) (old new : Place S g)
      → k < length places → slice_get places k ≡ Some old → IsCountedAt places (slice_set places k new) k
  counted_set places k old new within was old_k new_k was_k is_k =
      let e : slice_index_or places k old_k ≡ old_k =
      same_Some _ old_k (sym (slice_get-get_or places k old_k within) ∙ was_k) in
      let n : new ≡ new_k = same_Some new new_k (sym (get-set_same places k new within) ∙ is_k) in
      let T = sum_by-set (λ p. cond {A = ℕ} (is_open p) 1 0) places k new old_k within in
      let f : cond {A = ℕ} (is_open (slice_index_or places k old_k)) 1 0 ≡ cond (is_open old_k) 1 0 =
      ap (λ (p : Place S g). cond {A = ℕ} (is_open p) 1 0) e in
      let h : cond {A = ℕ} (is_open new) 1 0 ≡ cond (is_open new_k) 1 0 =
      ap (λ (p : Place S g). cond {A = ℕ} (is_open p) 1 0) n in
      omega (arith, T, f, h)

  pub counted_same : (places places_now : List (Place S g)) (k : ℕ)
      → places_now ≡ places → IsCountedAt places places_now k
  counted_same places places_now k same old new was is =
      let e : old ≡ new = same_Some old new (sym was ∙ ap (λ (l : List (Place S g)). slice_get l k) (sym same) ∙ is) in
      let f : cond {A = ℕ} (is_open old) 1 0 ≡ cond (is_open new) 1 0 =
      ap (λ (p : Place S g). cond {A = ℕ} (is_open p) 1 0) e in
      let h = ap (λ (l : List (Place S g)). open_count l) same in
      omega (arith, f, h)

  -- ---- the next place

  free_is : (place : Place S g) → is_free place ≡ true → place ≡ Free
  free_is Free free = refl
  free_is (Open client) free = absurd (let e : false ≡ true = free in cc)
  free_is (Parting parting) free = absurd (let e : false ≡ true = free in cc)

  next_is : (places : List (Place S g)) (found : Option ℕ) (k : ℕ)
      → position is_free places ≡ found → place_among found (length places) ≡ Some k
      → (slice_get places k ≡ Some Free) ⊎ ((k ≡ length places) × (k < 512))
  next_is places (Some number) k at is =
      let e : number ≡ k = same_Some number k is in
      let P = position-Some is_free places k Free (at ∙ ap Some e) in
      inl (slice_get-get_or places k Free P.0 ∙ ap Some (free_is (slice_index_or places k Free) P.1))
  next_is places None k at is =
      let T = cond_some (nat_lt (length places) 512) (length places) k is in
      inr (sym T.1, let t = ltb-true (length places) 512 T.0 in omega (arith, t, T.1))

  pub next_place_is : (places : List (Place S g)) (k : ℕ)
      → next_place places ≡ Some k → (slice_get places k ≡ Some Free) ⊎ ((k ≡ length places) × (k < 512))
  next_place_is places k is = next_is places (position is_free places) k refl is

  pub next_same : (places : List (Place S g)) (found : Option ℕ)
      → found ≡ position is_free places → place_among found (length places) ≡ next_place places
  next_same places found is = ap (λ (o : Option ℕ). place_among o (length places)) is
