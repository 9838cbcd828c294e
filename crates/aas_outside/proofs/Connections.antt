-- The visits to come of a wire in memory.
use Rattle.std.proofs.Common.{◌≡◌, ◌≤◌, ◌<◌, ℕ, Bool, true, false, cond, List, [], ◌∷◌, ◌++◌, length, Option, Some}
use Rattle.std.proofs.Common.{None, refl, sym, ◌∙◌, ap, subst, arith, ◌+◌, length-append}
use Rattle.std.specs.Prelude.{All, nat_lt, max, is_some, if◌then◌else◌}
use Rattle.std.specs.List.{filter}
use Rattle.std.specs.Option.{option_to_list}
use Rattle.std.proofs.lemmas.Bool.{cond-true, cond-false, lt-ltb, le-ltb}
use Rattle.std.proofs.lemmas.Bool.Decides.{nat_tests}
use Rattle.std.proofs.lemmas.List.Elements.{All-append, All-cons, All-tail, All-filter, filter_passes}
use Rattle.aas_outside.specs.MemCalls.{MemCallsState}
use Rattle.aas_outside.specs.MemConnection.{MemConnectionState}
use Rattle.aas_outside.specs.declared.memory_visit.MemVisit.{MemVisit}
use Rattle.aas_outside.specs.declared.visit.NextVisit.{NextVisit}
use Rattle.aas_outside.specs.declared.visit.NextVisit.TheVariants.{New, Again, NoneLeft}
use Rattle.aas_outside.specs.MemVisit.{is_below, number, visits_from, AreReady, BecamePresent, BeginsFirst}
use Rattle.aas_outside.specs.MemWire.{MemWireState, clients_behind, left_on, link_state, sent_on, connections_of}
use Rattle.aas_outside.specs.Surroundings.{Visit, to_first, open_visits, sent_on_all}
use Rattle.aas_outside.specs.Wire.{Begins, BeginsVisit}

-- ---- a visit more

pub visits_more : (n : ℕ) (visits : List MemVisit) (v : MemVisit)
    → visits_from n (visits ++ v ∷ []) ≡ visits_from n visits
    ++ record { client = number (clients_behind n (visits_from n visits)) v.again; input = v.connection.left } ∷ []
visits_more n [] v = refl
visits_more n (w ∷ visits) v =
    ap (λ (l : List Visit). record { client = number n w.again; input = w.connection.left } ∷ l)
    (visits_more (max n (number n w.again + 1)) visits v)

abbrev IsUnsent : ℕ → MemVisit → Type 0
IsUnsent room v = (v.connection.sent ≡ []) × (room ≤ v.connection.room)

All-nil : (room : ℕ) → All (IsUnsent room) []
All-nil room = λ k d less. absurd (omega (arith, less))

-- if there was memory for it
pub one_more_ready : (coming now : List MemVisit) (present : Option MemConnectionState)
    (room : ℕ) (added : Bool) (v : MemVisit)
    → now ≡ cond added (coming ++ v ∷ []) coming
    → v.connection.sent ≡ [] → room ≤ v.connection.room → AreReady coming present room → AreReady now present room
one_more_ready coming now present room false v is unsent roomy ready =
    subst (λ (l : List MemVisit). AreReady l present room) (sym is) ready
one_more_ready coming now present room true v is unsent roomy ready =
    let all : All (IsUnsent room) (coming ++ v ∷ []) = All-append (IsUnsent room) coming
    (v ∷ []) ready.unsent (All-cons (IsUnsent room) v [] (unsent, roomy) (All-nil room)) in
    subst (λ (l : List MemVisit). AreReady l present room) (sym is) (record { unsent = all; roomy = ready.roomy })

-- it takes one place more at most
pub one_more_place : (coming now : List MemVisit) (present : Option MemConnectionState) (added : Bool) (v : MemVisit)
    → now ≡ cond added (coming ++ v ∷ []) coming
    → length now + length (option_to_list present) ≤ length coming + 2
one_more_place coming now None false v is = omega (arith, ap length is)
one_more_place coming now None true v is = omega (arith, ap length is, length-append coming (v ∷ []))
one_more_place coming now (Some x) false v is = omega (arith, ap length is)
one_more_place coming now (Some x) true v is = omega (arith, ap length is, length-append coming (v ∷ []))

-- ---- the visits to clients that were begun

number_low : (n m : ℕ) (a : Option ℕ) → n ≤ m → is_below n a ≡ true → (number m a ≡ number n a) × (number n a < n)
number_low n m None le is = let no : ⊥ = cc in absurd no
number_low n m (Some k) le is = let less : k < n = grind (arith, nat_tests) in (omega arith, omega arith)

number_high : (n m : ℕ) (a : Option ℕ) → n ≤ m → is_below n a ≡ false → n ≤ number m a
number_high n m None le is = le
number_high n m (Some k) le is = let more : n ≤ k = grind (arith, nat_tests) in omega arith

abbrev to_begun : ℕ → List MemVisit → List MemVisit
to_begun n visits = filter (λ (w : MemVisit). is_below n w.again) visits

module _ (n m : ℕ) (v : MemVisit) (visits : List MemVisit) (le : n ≤ m) where
  abbrev behind : ℕ
  behind = max m (number m v.again + 1)

  kept_first : to_first n (visits_from behind visits) ≡ visits_from n (to_begun n visits) → (b : Bool)
      → is_below n v.again ≡ b
      → to_first n (visits_from m (v ∷ visits)) ≡ visits_from n (to_begun n (v ∷ visits))
  kept_first rest true is =
      let N = number_low n m v.again le is in
      let x : ℕ → List Visit → List Visit = λ c l. record { client = c; input = v.connection.left } ∷ l in
      let less : number m v.again < n = omega (arith, N.0, N.1) in
      let same : n ≡ max n (number n v.again + 1) = omega (arith, N.1) in
      let left : to_first n (visits_from m (v ∷ visits))
      ≡ x (number m v.again) (to_first n (visits_from behind visits)) =
      cond-true _ _ _ (lt-ltb (number m v.again) n less) in
      let right : to_begun n (v ∷ visits) ≡ v ∷ to_begun n visits = cond-true _ _ _ is in
      left ∙ ap (λ c. x c (to_first n (visits_from behind visits))) N.0
      ∙ ap (λ l. x (number n v.again) l) (rest ∙ ap (λ (k : ℕ). visits_from k (to_begun n visits)) same)
      ∙ sym (ap (λ l. visits_from n l) right)
  kept_first rest false is =
      let left : to_first n (visits_from m (v ∷ visits)) ≡ to_first n (visits_from behind visits) =
      cond-false _ _ _ (le-ltb (number m v.again) n (number_high n m v.again le is)) in
      let right : to_begun n (v ∷ visits) ≡ to_begun n visits = cond-false _ _ _ is in
      left ∙ rest ∙ sym (ap (λ l. visits_from n l) right)

-- where at least so many clients were begun, these are the visits that go to them
pub to_first_kept : (n m : ℕ) (visits : List MemVisit)
    → n ≤ m → to_first n (visits_from m visits) ≡ visits_from n (to_begun n visits)
to_first_kept n m [] le = refl
to_first_kept n m (v ∷ visits) le =
    kept_first n m v visits le
    (to_first_kept n (max m (number m v.again + 1)) visits (omega arith)) (is_below n v.again) refl

-- dropping others leaves the rest ready
pub kept_ready : (n : ℕ) (visits now : List MemVisit) (present : Option MemConnectionState) (room : ℕ)
    → now ≡ to_begun n visits → AreReady visits present room → AreReady now present room
kept_ready n visits now present room is ready =
    subst (λ (l : List MemVisit). AreReady l present room) (sym is) (record {
      unsent = All-filter (λ (w : MemVisit). is_below n w.again) (IsUnsent room) visits ready.unsent;
      roomy = ready.roomy;
    })

-- ---- the first visit

at_most : (n : ℕ) (a : Option ℕ) → n ≤ number n a → number n a ≡ n
at_most n None le = refl
at_most n (Some k) le = omega arith

-- by whom it goes to
pub begins_first : (wire : MemWireState) (visits rest : List MemVisit) (v : MemVisit)
    → wire.coming ≡ visits_from wire.clients visits → visits ≡ v ∷ rest → v.connection.sent ≡ []
    → (again : Bool) → again ≡ is_below wire.clients v.again
    → BeginsFirst wire (record wire {
      coming = visits_from (if again then wire.clients else wire.clients + 1) rest;
      clients = if again then wire.clients else wire.clients + 1;
      present = Some v.connection;
    })
    (if again then Again else New)
begins_first wire visits rest v coming is unsent true below =
    let N = number_low wire.clients wire.clients v.again (omega arith) (sym below) in
    let same : wire.clients ≡ max wire.clients (number wire.clients v.again + 1) = omega (arith, N.1) in (
      record { client = number wire.clients v.again; input = v.connection.left },
      visits_from wire.clients rest,
      N.1,
      record {
        coming =
            coming ∙ ap (λ l. visits_from wire.clients l) is
            ∙ ap (λ (k : ℕ).
            record { client = number wire.clients v.again; input = v.connection.left } ∷ visits_from k rest)
            (sym same);
        connection = v.connection;
        left = refl;
        unsent = unsent;
        new_is = refl;
      },
    )
begins_first wire visits rest v coming is unsent false below =
    let high : wire.clients ≤ number wire.clients v.again =
    number_high wire.clients wire.clients v.again (omega arith) (sym below) in
    let same : number wire.clients v.again ≡ wire.clients = at_most wire.clients v.again high in
    let next : wire.clients + 1 ≡ max wire.clients (number wire.clients v.again + 1) = omega (arith, same) in (
      record { client = number wire.clients v.again; input = v.connection.left },
      visits_from (wire.clients + 1) rest,
      same,
      record {
        coming =
            coming ∙ ap (λ l. visits_from wire.clients l) is
            ∙ ap (λ (k : ℕ).
            record { client = number wire.clients v.again; input = v.connection.left } ∷ visits_from k rest)
            (sym next);
        connection = v.connection;
        left = refl;
        unsent = unsent;
        new_is = refl;
      },
    )

pub begins_first_now : (view now : MemWireState) (visits rest : List MemVisit) (v : MemVisit)
    → view ≡ now → view.coming ≡ visits_from view.clients visits → visits ≡ v ∷ rest → v.connection.sent ≡ []
    → (again : Bool) → again ≡ is_below view.clients v.again
    → BeginsFirst now (record view {
      coming = visits_from (if again then view.clients else view.clients + 1) rest;
      clients = if again then view.clients else view.clients + 1;
      present = Some v.connection;
    })
    (if again then Again else New)
begins_first_now view now visits rest v same coming is unsent again below =
    let new : MemWireState = record view {
      coming = visits_from (if again then view.clients else view.clients + 1) rest;
      clients = if again then view.clients else view.clients + 1;
      present = Some v.connection;
    } in
    subst (λ (w : MemWireState). BeginsFirst w new (if again then Again else New)) same
    (begins_first view visits rest v coming is unsent again below)

-- it and the rest are ready
pub first_ready : (visits rest : List MemVisit) (v : MemVisit) (present : Option MemConnectionState) (room : ℕ)
    → visits ≡ v ∷ rest → AreReady visits present room
    → AreReady rest (Some v.connection) room × (v.connection.sent ≡ [])
first_ready visits rest v present room is ready =
    let all : All (IsUnsent room) (v ∷ rest) = subst (λ (l : List MemVisit). All (IsUnsent room) l) is ready.unsent in
    let here : IsUnsent room v = all 0 v (omega arith) in (
      record { unsent = All-tail (IsUnsent room) v rest all; roomy = here.1 },
      here.0,
    )

-- ---- what the wire tells behind it

-- the present visit has ended, and these are the visits that may be made
pub record IsOpen (may_begin : Bool) (old dropped : MemWireState) : Type 0 where
  pub coming : dropped.coming ≡ open_visits may_begin (connections_of old)
  pub clients : dropped.clients ≡ old.clients
  pub ended : dropped.ended ≡ sent_on_all (connections_of old) (sent_on old.present)
  pub present : dropped.present ≡ None

pub is_open : (may_begin : Bool) (now : MemWireState) (calls : MemCallsState) (before ended dropped : MemWireState)
    → before ≡ record now { calls = calls }
    → ended ≡ record before { ended = sent_on_all (connections_of before) (sent_on before.present); present = None }
    → dropped ≡ record ended { coming = open_visits may_begin (connections_of ended) } → IsOpen may_begin now dropped
is_open may_begin now calls before ended dropped b e d = record {
  coming =
      ap (λ (w : MemWireState). w.coming) d ∙ ap (λ (w : MemWireState). open_visits may_begin (connections_of w)) e
      ∙ ap (λ (w : MemWireState). open_visits may_begin (connections_of w)) b;
  clients =
      ap (λ (w : MemWireState). w.clients) d ∙ ap (λ (w : MemWireState). w.clients) e
      ∙ ap (λ (w : MemWireState). w.clients) b;
  ended =
      ap (λ (w : MemWireState). w.ended) d ∙ ap (λ (w : MemWireState). w.ended) e
      ∙ ap (λ (w : MemWireState). sent_on_all (connections_of w) (sent_on w.present)) b;
  present = ap (λ (w : MemWireState). w.present) d ∙ ap (λ (w : MemWireState). w.present) e;
}

begins_visit : (may_begin : Bool) (old dropped new : MemWireState) (v : Visit) (rest : List Visit) (clients now : ℕ)
    → IsOpen may_begin old dropped → clients ≡ now → BecamePresent dropped new v rest clients
    → BeginsVisit (connections_of old) (sent_on old.present) v rest now
    (link_state new)
begins_visit may_begin old dropped new v rest clients now is same B = record {
  connections =
      ap (λ (w : MemWireState). Some (connections_of w)) B.new_is
      ∙ (λ i. Some (record { coming = rest; clients = same i; ended = is.ended i; begun = true }));
  left = ap (λ (w : MemWireState). Some (left_on w.present)) B.new_is ∙ ap (λ (l : List ℕ). Some l) B.left;
  unsent = ap (λ (w : MemWireState). Some (sent_on w.present)) B.new_is ∙ ap (λ (l : List ℕ). Some l) B.unsent;
}

first_low : (n : ℕ) (visits rest : List Visit) (v : Visit) → to_first n visits ≡ v ∷ rest → v.client < n
first_low n visits rest v is =
    let all : All (λ (w : Visit). nat_lt w.client n ≡ true) (to_first n visits) =
    filter_passes (λ (w : Visit). nat_lt w.client n) visits in
    let here : All (λ (w : Visit). nat_lt w.client n ≡ true) (v ∷ rest) =
    subst (λ (l : List Visit). All (λ (w : Visit). nat_lt w.client n ≡ true) l) is all in
    let passes : nat_lt v.client n ≡ true = here 0 v (omega arith) in grind (arith, nat_tests)

pub never_new : (old dropped new : MemWireState) → IsOpen false old dropped → BeginsFirst dropped new New → ⊥
never_new old dropped new is (v, rest, number_is, B) =
    let first : v.client < old.clients = first_low old.clients old.coming rest v (sym is.coming ∙ B.coming) in
    absurd (omega (arith, first, number_is, is.clients))

pub new_where_asked : (may_begin : Bool) (old dropped new : MemWireState) (next : NextVisit)
    → IsOpen may_begin old dropped → BeginsFirst dropped new next → may_begin ≡ false → next ≡ New → ⊥
new_where_asked true old dropped new next is B closed new_is = let e : ⊥ = cc in e
new_where_asked false old dropped new New is B closed new_is = never_new old dropped new is B
new_where_asked false old dropped new Again is B closed new_is = let e : ⊥ = cc in e
new_where_asked false old dropped new NoneLeft is B closed new_is = let e : ⊥ = cc in e

pub begins : (may_begin : Bool) (old dropped new : MemWireState) (next : NextVisit)
    → IsOpen may_begin old dropped → BeginsFirst dropped new next
    → Begins (connections_of old) (sent_on old.present) may_begin (link_state new) next
begins true old dropped new New is (v, rest, number_is, B) = (
  v,
  rest,
  sym is.coming ∙ B.coming,
  refl,
  number_is ∙ is.clients,
  begins_visit true old dropped new v rest _ _ is (ap (λ n. n + 1) is.clients) B,
)
begins false old dropped new New is B = absurd (never_new old dropped new is B)
begins may_begin old dropped new Again is (v, rest, below, B) = (
  v,
  rest,
  sym is.coming ∙ B.coming,
  omega (arith, below, is.clients),
  begins_visit may_begin old dropped new v rest _ _ is is.clients B,
)
begins may_begin old dropped new NoneLeft is (none, same) =
    let empty : dropped.coming ≡ [] = none in (
      sym is.coming ∙ none,
      ap (λ (w : MemWireState). Some (connections_of w)) same
          ∙ (λ i. Some (record {
            coming = empty i;
            clients = is.clients i;
            ended = is.ended i;
            begun = is_some (is.present i);
          })),
      ap (λ (w : MemWireState). Some (left_on w.present)) same ∙ ap (λ p. Some (left_on p)) is.present,
      ap (λ (w : MemWireState). Some (sent_on w.present)) same ∙ ap (λ p. Some (sent_on p)) is.present,
    )
