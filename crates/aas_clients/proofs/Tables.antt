-- What begins and ends a visit makes of all places.
use Rattle.std.proofs.Common.{◌≡◌, ◌≢◌, ◌⊎◌, inl, inr, ℕ, zero, suc, ◌+◌, ◌<◌, ◌≤◌, List, [], ◌∷◌, ◌++◌, length, None}
use Rattle.std.proofs.Common.{Some, Bool, true, false, cond, refl, sym, ap, ◌∙◌, subst, arith, rules, length-append}
use Rattle.std.proofs.Common.{slice_get, slice_set, slice_index_or}
use Rattle.std.proofs.Math.ListN.{length-set}
use Rattle.std.specs.Prelude.{IfSome, IfNone, IsTrue, is_some, not}
use Rattle.std.specs.Option.{option_and_then}
use Rattle.std.specs.declared.option.Option.{Option}
use Rattle.std.proofs.lemmas.Bool.Decides.{eqb_tells}
use Rattle.std.proofs.lemmas.List.Sums.{sum_by_push}
use Rattle.std.proofs.lemmas.Option.{none-some, same_Some, slice_get-get_or, slice_get_within}
use Rattle.aas_clients.specs.Clients.{InTime, Visits, waiting_of}
use Rattle.aas_clients.specs.Places.{AreInTime, AreRight, BeginsAt, HandsOverAt, HasRoom, IsClosedAt, IsCountedAt}
use Rattle.aas_clients.specs.Places.{IsDoneAt, IsLongestIdle, IsNext, IsPutAt, IsQuiet, IsQuietAt, IsVisited, IsWaiting}
use Rattle.aas_clients.specs.Places.{Keeps, KeepsQuiet, OnlyAt, idle_since, is_large, is_open, large_count, next_place}
use Rattle.aas_clients.specs.Places.{open_count, turn_at, turn_of}
use Rattle.aas_clients.specs.Visits.{IsSameVisit, number_of}
use Rattle.aas_clients.specs.declared.client.Client.{Client}
use Rattle.aas_clients.specs.declared.client.Handed.{Handed}
use Rattle.aas_clients.specs.declared.client.Turn.TheVariants.{Off, Visited}
use Rattle.aas_clients.specs.declared.place.Event.TheVariants as event
use Rattle.aas_clients.specs.declared.place.Place.{Place}
use Rattle.aas_clients.specs.declared.place.Place.TheVariants.{Free, Open, Parting}
use Rattle.aas_clients.specs.declared.visit.Visit.{Visit}
use Rattle.aas_clients.proofs.Places.{count_one, count_set, get-set, next_place_is}

-- ---- one more at the end of a list

pub get-push : {X : Type 0} (xs : List X) (j : ℕ) (y z : X)
    → slice_get (xs ++ y ∷ []) j ≡ Some z → ((j ≡ length xs) × (y ≡ z)) ⊎ ((j ≢ length xs) × (slice_get xs j ≡ Some z))
get-push [] zero y z is = inl (refl, same_Some y z is)
get-push [] (suc j) y z is = absurd (none-some z is)
get-push (x ∷ xs) zero y z is = inr ((λ same. absurd (let e : zero ≡ suc (length xs) = same in omega (arith, e))), is)
get-push (x ∷ xs) (suc j) y z is =
    elim (get-push xs j y z is) [
      | inl here ↦ inl (ap suc here.0, here.1)
      | inr there ↦ inr ((λ same. there.0 (let e : suc j ≡ suc (length xs) = same in omega (arith, e))), there.1)
    ]

-- ---- the visit that is begun

pub number_of-none : (present : Option Visit) (b : Bool) → b ≡ is_some present → b ≡ false → number_of present ≡ None
number_of-none None b is no_visit = refl
number_of-none (Some visit) b is no_visit = absurd (let e : true ≡ false = sym is ∙ no_visit in cc)

pub if_none : {X : Type 0} (r : Option X) (P : Type 0) → P → IfNone r P
if_none None P p = p
if_none (Some x) P p = tt

stays_closed : (b : Bool) → (b ≡ true → ⊥) → b ≡ false
stays_closed true never = absurd (never refl)
stays_closed false never = refl

pub same_visit : (present present_now : Option Visit) (visit visit_now : Visit)
    → present ≡ Some visit → present_now ≡ Some visit_now → visit_now.number ≡ visit.number
    → visit_now.handed ≡ visit.handed → IsSameVisit present present_now
same_visit present present_now visit visit_now was is number handed =
    subst (λ (o : Option Visit). IsSameVisit o present_now) (sym was) (visit_now, is, number, handed)

module _ {S : Type 0} {g : _} where
  -- the lists are alike but for this place, where that lies now
  abbrev PutIn : List (Place S g) → List (Place S g) → ℕ → Place S g → Type 0
  PutIn places places_now k new = (j : ℕ) (place : Place S g)
      → slice_get places_now j ≡ Some place → ((j ≡ k) × (new ≡ place)) ⊎ ((j ≢ k) × (slice_get places j ≡ Some place))

  same_open : (a b : Client S g) → ◌≡◌ {A = Place S g} (Open a) (Open b) → a ≡ b
  same_open a b e = cc

  -- a client that is visited lies at a place, where nobody was visited
  right_visited : (places places_now : List (Place S g)) (k next : ℕ) (client : Client S g)
      → PutIn places places_now k (Open client) → client.turn ≡ Visited → AreRight places next None
      → AreRight places_now next (Some k)
  right_visited places places_now k next client put turn right j other is =
      elim (put j (Open other) is) [
        | inl here ↦
            let e : client ≡ other = same_open client other here.1 in
            let now : other.turn ≡ Visited = ap (λ (c : Client S g). c.turn) (sym e) ∙ turn in
            record {
              numbered = λ n waits. absurd (none-some n (ap waiting_of (sym now) ∙ waits));
              visited = λ visited. ap Some (sym here.0);
              stood = λ off replied some. absurd (let f : Visited ≡ Off = sym now ∙ off in cc);
            }
        | inr there ↦
            let R = right j other there.1 in
            record {
              numbered = R.numbered;
              visited = λ visited. absurd (none-some j (R.visited visited));
              stood = R.stood;
            }
      ]

  pub right_begins : (places : List (Place S g)) (k next : ℕ) (old new : Place S g) (handed : Handed)
      → k < length places → HandsOverAt old new handed → AreRight places next None
      → AreRight (slice_set places k new) next (Some k)
  right_begins places k next old new handed within (client, client_now, was, is, visits) right =
      subst (λ (p : Place S g). AreRight (slice_set places k p) next (Some k)) (sym is)
      (right_visited places (slice_set places k (Open client_now)) k next client_now
      (λ j place at. get-set places k j (Open client_now) place within at) visits.turn right)

  pub begins_opens : (old new : Place S g) (handed : Handed)
      → HandsOverAt old new handed → is_open new ≡ true → is_open old ≡ true
  begins_opens old new handed (client, client_now, was, is, visits) open_now = ap is_open was

  pub begins_large : (old new : Place S g) (handed : Handed)
      → HandsOverAt old new handed → is_large new ≡ true → is_large old ≡ true
  begins_large old new handed (client, client_now, was, is, visits) large =
      ap is_large was ∙ visits.large (ap is_large (sym is) ∙ large)

  at_within : (found : Option (Place S g)) (places : List (Place S g)) (k n : ℕ)
      → slice_get places k ≡ found → option_and_then turn_of found ≡ Some n → k < length places
  at_within None places k n at is = absurd (none-some n is)
  at_within (Some place) places k n at is = slice_get_within places k place at

  pub next_within : (found places : List (Place S g)) (k : ℕ) → found ≡ places → IsNext found k → k < length places
  next_within found places k same first =
      let h = at_within (slice_get found k) found k first.0 refl first.1 in
      omega (arith, h, ap length same)

  pub begins_at : (places : List (Place S g)) (k : ℕ) (old new : Place S g) (visit : Visit) (handed : Handed)
      → slice_get places k ≡ Some old → visit.number ≡ k → visit.at ≡ 0 → visit.handed ≡ handed
      → HandsOverAt old new handed
      → BeginsAt places (slice_set places k new) (Some visit) k
  begins_at places k old new visit handed was there first same begins = record {
    client = begins.0;
    client_now = begins.1;
    visit = visit;
    was = was ∙ ap Some begins.2;
    is = ap (λ (p : Place S g). slice_set places k p) begins.3;
    begun = refl;
    there = there;
    at_first = first;
    hands_over = subst (λ (h : Handed). Visits begins.0 begins.1 h) (sym same) begins.4;
  }

  -- ---- a client more

  pub right_put : (places places_now : List (Place S g)) (k next : ℕ) (client : Client S g)
      → IsPutAt places places_now client k → client.turn ≡ Visited → AreRight places next None
      → AreRight places_now next (Some k)
  right_put places places_now k next client put turn right =
      elim put.is [
        | inl here ↦
            subst (λ (l : List (Place S g)). AreRight l next (Some k)) (sym here.1)
            (right_visited places (slice_set places k (Open client)) k next client
            (λ j place at. get-set places k j (Open client) place (slice_get_within places k Free here.0) at)
            turn right)
        | inr more ↦
            subst (λ (l : List (Place S g)). AreRight l next (Some k)) (sym more.1)
            (right_visited places (places ++ Open client ∷ []) k next client (λ j place at.
            subst (λ (n : ℕ). ((j ≡ n) × (Open client ≡ place)) ⊎ ((j ≢ n) × (slice_get places j ≡ Some place)))
            (sym more.0) (get-push places j (Open client) place at))
            turn right)
      ]

  pub open_put : (places places_now : List (Place S g)) (k : ℕ) (client : Client S g)
      → IsPutAt places places_now client k → open_count places_now ≤ open_count places + 1
  open_put places places_now k client put =
      elim put.is [
        | inl here ↦
            subst (λ (l : List (Place S g)). open_count l ≤ open_count places + 1) (sym here.1)
            (count_one is_open places k (Open client) (slice_get_within places k Free here.0))
        | inr more ↦
            subst (λ (l : List (Place S g)). open_count l ≤ open_count places + 1) (sym more.1)
            (let e = sum_by_push (λ p. cond {A = ℕ} (is_open p) 1 0) places (Open client) in omega (arith, e))
      ]

  not_large : (client : Client S g) → client.is_large ≡ false → cond {A = ℕ} (is_large (Open client)) 1 0 ≡ 0
  not_large client small = ap (λ (b : Bool). cond {A = ℕ} b 1 0) small

  pub large_put : (places places_now : List (Place S g)) (k most : ℕ) (client : Client S g)
      → IsPutAt places places_now client k → client.is_large ≡ false → large_count places ≤ most
      → large_count places_now ≤ most
  large_put places places_now k most client put small few =
      elim put.is [
        | inl here ↦
            subst (λ (l : List (Place S g)). large_count l ≤ most) (sym here.1)
            (count_set is_large places k Free (Open client) most (slice_get_within places k Free here.0) here.0
            (λ large. absurd (let e : false ≡ true = sym small ∙ large in cc)) few)
        | inr more ↦
            subst (λ (l : List (Place S g)). large_count l ≤ most) (sym more.1)
            (let e = sum_by_push (λ p. cond {A = ℕ} (is_large p) 1 0) places (Open client) in
            let n = not_large client small in omega (arith, e, n, few))
      ]

  -- ---- a visit ends

  pub right_rested : (places : List (Place S g)) (k next : ℕ) → AreRight places next (Some k)
      → ((place : Place S g) → slice_get places k ≡ Some place → IsVisited place → ⊥) → AreRight places next None
  right_rested places k next right rests j client is =
      let R = right j client is in
      record {
        numbered = R.numbered;
        visited = λ visited.
            let e : k ≡ j = same_Some k j (R.visited visited) in
            absurd (rests (Open client) (ap (λ (n : ℕ). slice_get places n) e ∙ is) (client, refl, visited));
        stood = R.stood;
      }

  closed_rests : (place : Place S g) → is_open place ≡ false → IsVisited place → ⊥
  closed_rests place closed (client, is, turn) = let e : true ≡ false = ap is_open (sym is) ∙ closed in cc

  pub parted_rests : (places : List (Place S g)) (k : ℕ) → IsClosedAt places k → (place : Place S g)
      → slice_get places k ≡ Some place → IsVisited place → ⊥
  parted_rests places k closed place is = closed_rests place (closed place is)

  pub closed_stays : (places places_now : List (Place S g)) (k next next_now : ℕ)
      → Keeps places next places_now next_now → IsClosedAt places k → IsClosedAt places_now k
  closed_stays places places_now k next next_now keeps closed place is =
      let mid = slice_get-get_or places k place (omega (arith, slice_get_within places_now k place is, keeps.size)) in
      stays_closed (is_open place) (λ opened. let e = (keeps.each k _ place mid is).opens opened in
      let f : false ≡ true = sym (closed _ mid) ∙ e in cc)

  -- ---- time passes

  pub in_time_step : (first second : List (Place S g)) (n now : ℕ) (is_over : Bool) → AreInTime first n is_over now
      → OnlyAt first second n → IsDoneAt (event.Waits is_over) now second n → AreInTime second (n + 1) is_over now
  in_time_step first second n now is_over before only done k below place is =
      elim (eqb_tells k n) [
        | inl same ↦ done place (ap (λ (m : ℕ). slice_get second m) (sym same.1) ∙ is)
        | inr other ↦ before k (let f : k ≢ n = other.1 in omega arith) place (sym (only k other.1) ∙ is)
      ]

  -- the places from the n-th on are as they were
  abbrev pub OnlyFrom : List (Place S g) → List (Place S g) → ℕ → Type 0
  OnlyFrom places places_now n = (k : ℕ) → n ≤ k → slice_get places_now k ≡ slice_get places k

  pub only_from_step : (first second third : List (Place S g)) (n : ℕ)
      → OnlyFrom first second n → OnlyAt second third n → OnlyFrom first third (n + 1)
  only_from_step first second third n before only k past =
      only k (let f : k ≢ n = omega arith in f) ∙ before k (omega arith)

  pub quiet_step : (first second third : List (Place S g)) (n : ℕ) → KeepsQuiet first second n → OnlyFrom first second n
      → OnlyAt second third n → (IsQuietAt second n → third ≡ second) → KeepsQuiet first third (n + 1)
  quiet_step first second third n before later only here k below quiet =
      elim (eqb_tells k n) [
        | inl same ↦
            let at : slice_get second k ≡ slice_get first k = later k (omega (arith, same.1)) in
            let quiet_now : IsQuietAt second k = (quiet.0, at ∙ quiet.1, quiet.2) in
            ap (λ (l : List (Place S g)). slice_get l k) (here (subst (λ (m : ℕ). IsQuietAt second m) same.1 quiet_now))
            ∙ at
        | inr other ↦ only k other.1 ∙ before k (let f : k ≢ n = other.1 in omega arith) quiet
      ]

  pub quiet_there : (places : List (Place S g)) (n : ℕ) (place : Place S g)
      → slice_get places n ≡ Some place → IsQuietAt places n → IsQuiet place
  quiet_there places n place at quiet =
      subst (λ (p : Place S g). IsQuiet p) (same_Some quiet.0 place (sym quiet.1 ∙ at)) quiet.2

  pub quiet_within : (places : List (Place S g)) (n : ℕ) → IsQuietAt places n → n < length places
  quiet_within places n quiet = slice_get_within places n quiet.0 quiet.1

  pub quiet_in_time : (places : List (Place S g)) (n now : ℕ) (is_over : Bool)
      → is_over ≡ false → IsQuietAt places n → IsDoneAt (event.Waits is_over) now places n
  quiet_in_time places n now is_over not_over quiet place is client here not_visited =
      let q = quiet.2 in
      let e : q.client ≡ client =
      same_open q.client client (sym q.here ∙ same_Some quiet.0 place (sym quiet.1 ∙ is) ∙ here) in
      subst (λ (c : Client S g). InTime c is_over now) e (record {
        replies = λ some. absurd (some q.taken);
        idle = λ over none. let f : false ≡ true = sym not_over ∙ over in cc;
        request = search (q.nothing, rules);
      })

  -- ---- who waits

  pub waiting_tells : (places : List (Place S g)) (found : Option ℕ) (b : Bool)
      → b ≡ is_some found → IfSome found (IsNext places) → IfNone found ((k n : ℕ) → turn_at places k ≡ Some n → ⊥)
      → (IsTrue b → IsWaiting places) × (IsWaiting places → IsTrue b)
  waiting_tells places None b is first none = (
    (λ is_true. absurd (let e : false ≡ true = sym is ∙ is_true in cc)),
    λ (number, first_at). absurd (none number first_at.0 first_at.1),
  )
  waiting_tells places (Some number) b is first none = ((λ is_true. (number, first)), λ waits. is)

  -- ---- the next place

  pub put_set : (found places : List (Place S g)) (next : Option ℕ) (k : ℕ) (client : Client S g)
      → found ≡ places → next ≡ next_place found → next ≡ Some k → k < length places → length places ≤ 512
      → IsPutAt places (slice_set places k (Open client)) client k
  put_set found places next k client same is was within few =
      let here : next_place places ≡ Some k = ap next_place (sym same) ∙ sym is ∙ was in
      record {
        next = here;
        is = elim (next_place_is places k here) [
          | inl free ↦ inl (free, refl)
          | inr more ↦ absurd (omega (arith, more.0, within))
        ];
        few = omega (arith, length-set places k (Open client), few);
      }

  pub put_push : (found places places_now : List (Place S g)) (next : Option ℕ) (k : ℕ) (client : Client S g)
      → found ≡ places → next ≡ next_place found → next ≡ Some k → length places ≤ k
      → places_now ≡ places ++ Open client ∷ []
      → IsPutAt places places_now client k
  put_push found places places_now next k client same is was past pushed =
      let here : next_place places ≡ Some k = ap next_place (sym same) ∙ sym is ∙ was in
      let more : (k ≡ length places) × (k < 512) = elim (next_place_is places k here) [
        | inl free ↦ absurd (omega (arith, slice_get_within places k Free free, past))
        | inr more ↦ more
      ] in
      record {
        next = here;
        is = inr (more.0, pushed);
        few = omega (arith, more.0, more.1, ap length pushed, length-append places (Open client ∷ []));
      }

  -- ---- room for one client more

  place_there : (places : List (Place S g)) (found : Option ℕ) (b : Bool) → next_place places ≡ found
      → is_some found ≡ not b → b ≡ false → (length places < 512) ⊎ ((k : ℕ) × (slice_get places k ≡ Some Free))
  place_there places None b at is some = absurd (let e : false ≡ true = is ∙ ap not some in cc)
  place_there places (Some k) b at is some =
      elim (next_place_is places k at) [ inl free ↦ inr (k, free) | inr more ↦ inl (omega (arith, more.0, more.1)) ]

  pub room_same : (places : List (Place S g)) (found : Option ℕ) (b : Bool)
      → found ≡ next_place places → is_some found ≡ not b → b ≡ false → open_count places < 500 → HasRoom places
  room_same places found b at is some few = record { few = few; place = place_there places found b (sym at) is some }

  idle_open : (place : Option (Place S g)) (t : ℕ)
      → option_and_then idle_since place ≡ Some t → (there : Place S g) × (place ≡ Some there) × (is_open there ≡ true)
  idle_open None t idle = absurd (none-some t idle)
  idle_open (Some Free) t idle = absurd (none-some t idle)
  idle_open (Some (Open client)) t idle = (Open client, refl, refl)
  idle_open (Some (Parting parting)) t idle = absurd (none-some t idle)

  free_other : (places : List (Place S g)) (number k : ℕ) (there : Place S g)
      → slice_get places number ≡ Some there → is_open there ≡ true → slice_get places k ≡ Some Free → k ≢ number
  free_other places number k there at opened free same =
      let e : Free ≡ there = same_Some Free there (sym free ∙ ap (λ (n : ℕ). slice_get places n) same ∙ at) in
      let f : false ≡ true = ap is_open e ∙ opened in cc

  pub room_parted : (places places_now : List (Place S g)) (number next next_now : ℕ) (found : Option ℕ) (b : Bool)
      → found ≡ next_place places → is_some found ≡ not b → b ≡ false → Keeps places next places_now next_now
      → OnlyAt places places_now number → IsCountedAt places places_now number → IsClosedAt places_now number
      → IsLongestIdle places number → open_count places ≤ 500 → HasRoom places_now
  room_parted places places_now number next next_now found b at is some keeps only counted closed longest few =
      let I = idle_open (slice_get places number) longest.0 longest.1 in
      let now_at =
      slice_get-get_or places_now number I.0 (omega (arith, slice_get_within places number I.0 I.1, keeps.size)) in
      let place_now = slice_index_or places_now number I.0 in
      let count = counted I.0 place_now I.1 now_at in
      let one : cond {A = ℕ} (is_open I.0) 1 0 ≡ 1 = ap (λ (v : Bool). cond {A = ℕ} v 1 0) I.2 in
      let none : cond {A = ℕ} (is_open place_now) 1 0 ≡ 0 =
      ap (λ (v : Bool). cond {A = ℕ} v 1 0) (closed place_now now_at) in
      record {
        few = omega (arith, count, one, none, few);
        place = elim (place_there places found b (sym at) is some) [
          | inl less ↦ inl (omega (arith, less, keeps.size))
          | inr free ↦ inr (free.0, only free.0 (free_other places number free.0 I.0 I.1 I.2 free.1) ∙ free.1)
        ];
      }
