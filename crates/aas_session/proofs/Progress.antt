-- Visits served so far, and how serving goes on.
use Rattle.std.proofs.Common.{◌≡◌, ◌≢◌, ◌⊎◌, inl, inr, ⊎_elim, ℕ, suc, ◌+◌, ◌-◌, ◌^◌, ◌<◌, ◌≤◌, Bool, true, false}
use Rattle.std.proofs.Common.{List, [], ◌∷◌, ◌++◌, length, take, refl, sym, ap, ◌∙◌, subst, arith, append_assoc}
use Rattle.std.proofs.Common.{length-append, Option, Some, Result, Ok}
use Rattle.std.specs.Prelude.{IfSome, nat_lt, All}
use Rattle.std.specs.List.{filter}
use Rattle.std.specs.Io.KnownBytes.{append_known}
use Rattle.std.proofs.lemmas.Bool.{cond-true, lt-ltb}
use Rattle.std.proofs.lemmas.Bool.Decides.{nat_tests}
use Rattle.std.proofs.lemmas.List.{append-nil, map-append}
use Rattle.std.proofs.lemmas.List.Elements.{filter_passes}
use Rattle.std.proofs.lemmas.Grind.{flat_map-append}
use Rattle.aas_outside.specs.Faults.{Rose}
use Rattle.aas_outside.specs.Moments.{InTurn}
use Rattle.aas_outside.specs.Surroundings.{Visit, Connections, sent_on_all, to_first, open_visits}
use Rattle.aas_outside.specs.Wire.{Begins, BeginsVisit, BeginsNext, connections}
use Rattle.aas_outside.specs.Link.{LinkState}
use Rattle.aas_outside.specs.declared.visit.NextVisit.{NextVisit}
use Rattle.aas_outside.specs.declared.visit.NextVisit.TheVariants.{New, Again}
use Rattle.aas_outside.proofs.Turns.{in_turn_later, in_turn_then, in_turn_settled, in_turn_none}
use Rattle.aas_rule.specs.Rule.{Repository}
use Rattle.aas_session.specs.Visits.{Visited, IsServed, IsSessions, all_commands, visits, sent_on_each, TellsSent}
use Rattle.aas_session.specs.Visits.{ServesVisit, ServesNext, Serving, ServesAll}
use Rattle.aas_session.specs.declared.wire.Next.{Next}
use Rattle.aas_session.specs.declared.wire.Next.TheVariants as next
use Rattle.aas_session.specs.declared.wire.WireEnded.{WireEnded}
use Rattle.aas_session.specs.declared.wire.WireEnded.TheVariants as ended
use Rattle.aas_session.specs.declared.connection.Ended.{Ended}
use Rattle.aas_session.specs.declared.connection.Ended.TheVariants as connection
use Rattle.aas_session.specs.Served.{GivesTurns, IsFinished, IsCut, Served}
use Rattle.aas_session.specs.Session.{HttpRule, End, Closed, NoMemory, EndsAs, Place, start, repository, Turn, TakesAll}
use Rattle.aas_session.specs.Session.{replies, commands}
use Rattle.aas_rule.specs.State.{State, IsSettledState, PassesTo, repository_of, Holds}
use Rattle.aas_session.proofs.Turns.{turns_records}

-- ---- one visit

when_told : (P : Connections → List ℕ → Type 0) (connections : Option Connections)
    (sent : Option (List ℕ)) (c : Connections) (s : List ℕ)
    → connections ≡ Some c → sent ≡ Some s
    → IfSome connections (λ b. IfSome sent (λ t. P b t)) → P c s
when_told P connections sent c s x y h =
    subst (λ (k : Option (List ℕ)). IfSome k (λ t. P c t)) y
    (subst (λ (k : Option Connections). IfSome k (λ b. IfSome sent (λ t. P b t))) x h)

told_turns : (new : Option (List ℕ)) (turns : List Turn)
    → GivesTurns (Some []) new turns → (l : List ℕ) × (new ≡ Some l)
told_turns new turns (inl x) = ([], x.1)
told_turns new turns (inr (first, last, is, (n, within, given))) = (replies first ++ take n last.reply, given)

module _ {D I : Type 0} (rule : HttpRule D) (stands_for : I → List (List ℕ) → Type 0) (old : Repository D)
    (c : Connections) (s : List ℕ) (ahead : List Visit) (clients : ℕ) (mid : LinkState)
    (connections2 : Option Connections) (sent2 : Option (List ℕ)) (from : ℕ) (now : State D I)
    (faults faults2 : ℕ) (later : faults ≤ faults2)
    (v : Visit) (rest : List Visit) (first : ahead ≡ v ∷ rest)
    (B : BeginsVisit c s v rest clients mid) (same : connections2 ≡ connections mid) where
  abbrev DidVisit : Type 0
  DidVisit =
      (w : Visited D) × (w.visit ≡ v)
      × ServesVisit rule stands_for old ahead (sent_on_all c s) clients from now connections2 sent2 faults faults2 w

  served : (turns : List Turn) (last : Place D) (bytes : List ℕ) → TakesAll rule (start old v.input) turns last
      → ((end : End) × EndsAs last end × (bytes ≡ replies turns))
      ⊎ (Rose faults faults2 × GivesTurns (Some []) (Some bytes) turns)
      → Holds stands_for old.records (commands turns) (repository last) from now → sent2 ≡ Some bytes → DidVisit
  served turns last bytes taken ends holds given = (
    record { visit = v; turns = turns; last = last; sent = bytes; faults_before = faults; faults_behind = faults2 },
    refl,
    record {
      rest = rest;
      first = first;
      served = (taken, later, ends);
      before = refl;
      behind = refl;
      holds = holds;
      is_begun = same ∙ B.connections;
      sent_is = given;
    },
  )

  finished_visit : (end : End) → IsFinished rule stands_for old v.input from now mid.sent sent2 end → DidVisit
  finished_visit end f =
      let S = f.session in
      served S.turns S.last (replies S.turns) S.taken (inl (end, S.ends, refl))
      (subst (λ (r : Repository D). Holds stands_for old.records (commands S.turns) r from now) S.leaves f.holds)
      (f.gives ∙ ap (λ (k : Option (List ℕ)). append_known k f.out) B.unsent ∙ ap (λ (l : List ℕ). Some l) S.gives)

  cut_visit : Rose faults faults2 → IsCut rule stands_for old v.input from now mid.sent sent2 → DidVisit
  cut_visit failed f =
      let gives : GivesTurns (Some []) sent2 f.turns =
      subst (λ (k : Option (List ℕ)). GivesTurns k sent2 f.turns) B.unsent f.gives in
      let told = told_turns sent2 f.turns gives in
      served f.turns f.last told.0 f.taken
      (inr (failed, subst (λ (k : Option (List ℕ)). GivesTurns (Some []) k f.turns) told.1 gives)) f.holds told.1

  -- by how its connection ended, unless the keeper failed
  pub did_visit : (F : Type 0) (end : Ended) → end ≢ connection.KeeperFault
      → (end ≡ connection.LinkFault → Rose faults faults2)
      → Served rule stands_for old v.input from now mid.sent sent2 F end → DidVisit
  did_visit F connection.Closed lives failed f = finished_visit Closed f
  did_visit F connection.NoMemory lives failed f = finished_visit NoMemory f
  did_visit F connection.LinkFault lives failed f = cut_visit (failed refl) f
  did_visit F connection.KeeperFault lives failed f = absurd (lives refl)

-- The next visit, where it is this session's whatever client it goes to.
module _ {D I : Type 0} (rule : HttpRule D) (stands_for : I → List (List ℕ) → Type 0) (old : Repository D)
    (may_begin : Bool) (c : Connections) (s : List ℕ) (mid : LinkState)
    (connections2 : Option Connections) (sent2 : Option (List ℕ)) (from : ℕ) (now : State D I) (faults faults2 : ℕ)
    (does : (v : Visit) (rest : List Visit) (clients : ℕ)
    → open_visits may_begin c ≡ v ∷ rest → BeginsVisit c s v rest clients mid
    → (w : Visited D) × (w.visit ≡ v)
    × ServesVisit rule stands_for old (open_visits may_begin c)
    (sent_on_all c s) clients from now connections2 sent2 faults faults2 w) where
  abbrev DidNext : Next → Type 0
  DidNext way =
      ServesNext rule stands_for old c may_begin (sent_on_all c s) from now connections2 sent2 faults faults2 way

  abbrev BeginsSome : NextVisit → Type 0
  BeginsSome visit = Begins c s may_begin mid visit

  pub next_served : {E : Type 0} (before : LinkState) (result : Result NextVisit E) (way : Next)
      → connections before ≡ Some c → before.sent ≡ Some s → BeginsNext may_begin before mid result
      → ((result ≡ Ok New) × (way ≡ next.Begun)) ⊎ ((result ≡ Ok Again) × (way ≡ next.Again)) → DidNext way
  next_served before result way told told_here begins (inl (is, served)) =
      let B : BeginsSome New =
      when_told (λ b t. Begins b t may_begin mid New) (connections before) before.sent c s told told_here
      (subst (λ r. BeginsNext may_begin before mid r) is begins) in
      let F = does B.0 B.1 (c.clients + 1) B.2 B.5 in
      subst DidNext (sym served) (F.0, B.3, ap (λ (v : Visit). v.client) F.1 ∙ B.4, F.2)
  next_served before result way told told_here begins (inr (is, served)) =
      let B : BeginsSome Again =
      when_told (λ b t. Begins b t may_begin mid Again) (connections before) before.sent c s told told_here
      (subst (λ r. BeginsNext may_begin before mid r) is begins) in
      let F = does B.0 B.1 c.clients B.2 B.4 in
      subst DidNext (sym served) (F.0, omega (arith, B.3, ap (λ (v : Visit). v.client) F.1), F.2)

-- ---- visits one after another

sessions_then : {D : Type 0} (rule : HttpRule D) (old : Repository D) (faults : ℕ)
    (vs : List (Visited D)) (mid : Repository D) (faults_mid : ℕ) (v : Visited D)
    → IsSessions rule old faults vs mid faults_mid → v.faults_before ≡ faults_mid → IsServed rule mid v
    → IsSessions rule old faults (vs ++ v ∷ []) (repository v.last) v.faults_behind
sessions_then rule old faults [] mid faults_mid v so_far before served =
    (before ∙ so_far.1, subst (λ r. IsServed rule r v) so_far.0 served, (refl, refl))
sessions_then rule old faults (w ∷ vs) mid faults_mid v (count, first, rest) before served =
    (count, first, sessions_then rule (repository w.last) w.faults_behind vs mid faults_mid v rest before served)

commands_then : {D : Type 0} (vs : List (Visited D)) (v : Visited D)
    → all_commands (vs ++ v ∷ []) ≡ all_commands vs ++ commands v.turns
commands_then {D} vs v =
    flat_map-append (λ (w : Visited D). commands w.turns) vs (v ∷ [])
    ∙ ap (λ (l : List (List ℕ)). all_commands vs ++ l) (append-nil (commands v.turns))

-- ---- the visits to come

filter_kept : (p : Visit → Bool) (xs : List Visit) → All (λ (x : Visit). p x ≡ true) xs → filter p xs ≡ xs
filter_kept p [] all = refl
filter_kept p (x ∷ xs) all =
    cond-true _ _ _ (all 0 x (omega arith))
    ∙ ap (λ (l : List Visit). x ∷ l) (filter_kept p xs (λ k d less. all (suc k) d (omega (arith, less))))

-- the first of the open visits goes to one of the clients that are to be served
pub first_of_open : (may_begin : Bool) (c : Connections) (limit : ℕ) (v : Visit) (rest : List Visit)
    → (may_begin ≡ false → c.clients ≡ limit) → open_visits may_begin c ≡ v ∷ rest → v.client < limit
    → to_first limit c.coming ≡ v ∷ to_first limit rest
first_of_open true c limit v rest last is below =
    ap (λ (l : List Visit). to_first limit l) is ∙ cond-true _ _ _ (lt-ltb v.client limit below)
first_of_open false c limit v rest last is below =
    let here : to_first limit c.coming ≡ v ∷ rest = ap (λ (n : ℕ). to_first n c.coming) (sym (last refl)) ∙ is in
    let all : All (λ (x : Visit). nat_lt x.client limit ≡ true) (v ∷ rest) =
    subst (λ (l : List Visit). All (λ (x : Visit). nat_lt x.client limit ≡ true) l) here
    (filter_passes (λ (x : Visit). nat_lt x.client limit) c.coming) in
    here ∙ sym (filter_kept (λ (x : Visit). nat_lt x.client limit) (v ∷ rest) all)
    ∙ cond-true _ _ _ (lt-ltb v.client limit below)

pub none_open : (may_begin : Bool) (c : Connections) (limit : ℕ)
    → (may_begin ≡ false → c.clients ≡ limit) → open_visits may_begin c ≡ [] → to_first limit c.coming ≡ []
none_open true c limit last is = ap (λ (l : List Visit). to_first limit l) is
none_open false c limit last is = ap (λ (n : ℕ). to_first n c.coming) (sym (last refl)) ∙ is

-- ---- serving so far

pub record Progress {D I : Type 0} (rule : HttpRule D) (stands_for : I → List (List ℕ) → Type 0)
    (old : Repository D) (c : Connections) (sent_before : List (List ℕ)) (count begun number from : ℕ) (now : State D I)
    (connections : Option Connections) (sent : Option (List ℕ)) (faults faults_now : ℕ) : Type 0 where
  pub served : List (Visited D)
  pub sessions : IsSessions rule old faults served (repository_of now (old.records ++ all_commands served)) faults_now
  pub surroundings : Connections
  pub here : List ℕ
  pub told : connections ≡ Some surroundings
  pub told_here : sent ≡ Some here
  pub came : to_first (c.clients + count) c.coming ≡ visits served ++ to_first (c.clients + count) surroundings.coming
  pub clients : surroundings.clients ≡ c.clients + begun
  pub sent_is : sent_on_all surroundings here ≡ sent_before ++ sent_on_each served
  pub number_is : length served ≡ number
  pub kept : now.kept (old.records ++ all_commands served)
  pub in_turn : InTurn stands_for now.left_at from now.moment old.records (all_commands served) []

pub begins : {D I : Type 0} (rule : HttpRule D) (stands_for : I → List (List ℕ) → Type 0) (records : List (List ℕ))
    (state : State D I) (connections : Option Connections) (sent : Option (List ℕ)) (faults count : ℕ)
    (c : Connections) (s : List ℕ) → connections ≡ Some c → sent ≡ Some s → IsSettledState stands_for state records
    → Progress rule stands_for (repository_of state records) c
    (sent_on_all c s) count 0 0 state.moment state connections sent faults faults
begins rule stands_for records state connections sent faults count c s told told_here settled = record {
  served = [];
  sessions = (λ i. repository_of state (append-nil records i), refl);
  surroundings = c;
  here = s;
  told = told;
  told_here = told_here;
  came = refl;
  clients = omega arith;
  sent_is = sym (append-nil (sent_on_all c s));
  number_is = refl;
  kept = subst state.kept (sym (append-nil records)) settled.told;
  in_turn = in_turn_none stands_for state.left_at state.moment records settled.alone;
}

module _ {D I : Type 0} (rule : HttpRule D) (stands_for : I → List (List ℕ) → Type 0) (old : Repository D)
    (c : Connections) (sent_before : List (List ℕ)) (count begun number from : ℕ) (now : State D I)
    (connections : Option Connections) (sent : Option (List ℕ)) (faults faults_now : ℕ)
    (P : Progress rule stands_for old c sent_before count begun
    number from now connections sent faults faults_now) where
  abbrev limit : ℕ
  limit = c.clients + count

  abbrev records : List (List ℕ)
  records = old.records ++ all_commands P.served

  -- where serving stands
  abbrev here : Repository D
  here = repository_of now (old.records ++ all_commands P.served)

  pub settled : IsSettledState stands_for now records
  settled = record {
    told = P.kept;
    alone = in_turn_settled stands_for now.left_at from now.moment old.records (all_commands P.served) P.in_turn;
  }

  abbrev serving : Serving rule old faults c.coming limit
  serving = record {
    served = P.served;
    last = here;
    faults_last = faults_now;
    sessions = P.sessions;
    rest = to_first limit P.surroundings.coming;
    came = P.came;
  }

  module _ (within : begun ≤ count) (new : State D I) (passes : PassesTo now new) (wire_new : LinkState)
      (rule_now : HttpRule D) (same : rule_now ≡ rule) where
    abbrev may_begin : Bool
    may_begin = nat_lt begun count

    may : may_begin ≡ true → begun < count
    may is = grind (arith, nat_tests, is)

    may_not : may_begin ≡ false → begun ≡ count
    may_not is = let high : count ≤ begun = grind (arith, nat_tests, is) in omega (arith, high, within)

    abbrev Did : HttpRule D → Next → Type 0
    Did r way =
        ServesNext r stands_for here P.surroundings may_begin
        (sent_on_all P.surroundings P.here) now.moment new wire_new.surroundings.connections
        wire_new.sent faults_now wire_new.faults way

    did : (way : Next) → Did rule_now way → Did rule way
    did way d = let Q : HttpRule D → Type 0 = λ r. Did r way in subst Q same d

    last : may_begin ≡ false → P.surroundings.clients ≡ limit
    last none = omega (arith, P.clients, may_not none)

    then_kept : (payloads failed : List (List ℕ))
        → InTurn stands_for new.left_at now.moment new.moment records payloads failed
        → InTurn stands_for new.left_at from new.moment old.records (all_commands P.served ++ payloads) failed
    then_kept payloads failed more =
        in_turn_then stands_for new.left_at from now.moment new.moment old.records
        (all_commands P.served) payloads failed
        (in_turn_later stands_for now.moment new.moment now.left_at new.left_at passes from now.moment
        (omega arith) old.records (all_commands P.served) [] P.in_turn)
        more

    holds : Holds stands_for records [] here now.moment new
        → Holds stands_for old.records (all_commands P.served) here from new
    holds h = record {
      documents = h.documents;
      kept = h.kept;
      in_turn =
          subst (λ (l : List (List ℕ)). InTurn stands_for new.left_at from new.moment old.records l [])
          (append-nil (all_commands P.served)) (then_kept [] [] h.in_turn);
    }

    tells : TellsSent wire_new.surroundings.connections wire_new.sent (sent_on_all P.surroundings P.here)
        → TellsSent wire_new.surroundings.connections wire_new.sent (sent_before ++ sent_on_each P.served)
    tells t = record {
      surroundings = t.surroundings;
      here = t.here;
      told = t.told;
      told_here = t.told_here;
      all_is = t.all_is ∙ P.sent_is;
    }

    -- one visit more
    more : (v : Visited D) (clients begun_now : ℕ) → v.visit.client < limit → clients ≡ c.clients + begun_now
        → ServesVisit rule stands_for here (open_visits may_begin P.surroundings)
        (sent_on_all P.surroundings P.here) clients now.moment new wire_new.surroundings.connections
        wire_new.sent faults_now wire_new.faults v
        → Progress rule stands_for old c sent_before count begun_now
        (number + 1) from new wire_new.surroundings.connections wire_new.sent faults wire_new.faults
    more v clients begun_now below clients_are e =
        let all = commands_then P.served v in
        let records_are : (repository v.last).records ≡ old.records ++ all_commands (P.served ++ v ∷ []) =
        turns_records rule _ v.turns v.last e.served.0
        ∙ append_assoc old.records (all_commands P.served) (commands v.turns)
        ∙ ap (λ (l : List (List ℕ)). old.records ++ l) (sym all) in
        let step : to_first limit P.surroundings.coming ≡ v.visit ∷ to_first limit e.rest =
        first_of_open may_begin P.surroundings limit v.visit e.rest last e.first below in
        let S : IsSessions rule old faults (P.served ++ v ∷ []) (repository v.last) v.faults_behind =
        sessions_then rule old faults P.served here faults_now v P.sessions e.before e.served in
        record {
          served = P.served ++ v ∷ [];
          sessions = (let R : Repository D → ℕ → Type 0 = λ r n. IsSessions rule old faults (P.served ++ v ∷ []) r n in
              subst (λ (n : ℕ). R (repository_of new (old.records ++ all_commands (P.served ++ v ∷ []))) n) e.behind
              (subst (λ (r : Repository D). R r v.faults_behind)
              (λ i. record { documents = sym e.holds.documents i; records = records_are i }) S));
          surroundings =
              record { coming = e.rest; clients = clients; ended = sent_on_all P.surroundings P.here; begun = true };
          here = v.sent;
          told = e.is_begun;
          told_here = e.sent_is;
          came =
              P.came ∙ ap (λ (l : List Visit). visits P.served ++ l) step
              ∙ sym (append_assoc (visits P.served) (v.visit ∷ []) (to_first limit e.rest))
              ∙ ap (λ (l : List Visit). l ++ to_first limit e.rest)
              (sym (map-append (λ (w : Visited D). w.visit) P.served (v ∷ [])));
          clients = clients_are;
          sent_is =
              ap (λ (l : List (List ℕ)). l ++ v.sent ∷ []) P.sent_is
              ∙ append_assoc sent_before (sent_on_each P.served) (v.sent ∷ [])
              ∙ ap (λ (l : List (List ℕ)). sent_before ++ l)
              (sym (map-append (λ (w : Visited D). w.sent) P.served (v ∷ [])));
          number_is = omega (arith, P.number_is, length-append P.served (v ∷ []));
          kept = subst new.kept records_are e.holds.kept;
          in_turn =
              subst (λ (l : List (List ℕ)). InTurn stands_for new.left_at from new.moment old.records l [])
              (sym all) (then_kept (commands v.turns) [] e.holds.in_turn);
        }

    -- to a new client, or to one that was visited before
    pub one_more : (way : Next) (begun_now : ℕ)
        → ((way ≡ next.Begun) × (begun_now ≡ begun + 1)) ⊎ ((way ≡ next.Again) × (begun_now ≡ begun))
        → Did rule_now way
        → Progress rule stands_for old c sent_before count begun_now
        (number + 1) from new wire_new.surroundings.connections wire_new.sent faults wire_new.faults
    one_more way begun_now (inl (is, more_begun)) d =
        let e = did next.Begun (subst (λ (w : Next). Did rule_now w) is d) in
        more e.0 (P.surroundings.clients + 1) begun_now
        (omega (arith, e.2, P.clients, may e.1)) (omega (arith, P.clients, more_begun)) e.3
    one_more way begun_now (inr (is, as_many)) d =
        let e = did next.Again (subst (λ (w : Next). Did rule_now w) is d) in
        more e.0 P.surroundings.clients begun_now
        (omega (arith, e.1, P.clients, within)) (omega (arith, P.clients, as_many)) e.2

    -- no visit more
    pub none_more : (end : WireEnded) → Did rule_now (next.Ended end)
        → ServesAll rule stands_for old c sent_before count from new
        wire_new.surroundings.connections wire_new.sent faults wire_new.faults end
    none_more ended.Done d = let e = did (next.Ended ended.Done) d in record {
      serving = serving;
      ends = (inl (none_open may_begin P.surroundings limit last e.0), holds e.1, tells e.2, e.3);
    }
    none_more ended.WireFault d =
        let e = did (next.Ended ended.WireFault) d in record { serving = serving; ends = (holds e.0, tells e.1, e.2) }
    none_more ended.KeeperFault d =
        let e = did (next.Ended ended.KeeperFault) d in
        let v = e.0 in
        let b = e.6 in
        let below : v.client < limit = ⊎_elim (λ again. omega (arith, e.4, again, P.clients, within))
        (λ new. omega (arith, e.4, new.1, P.clients, may new.0)) e.5 in
        record {
          serving = serving;
          ends = (
            v,
            e.1,
            e.2,
            first_of_open may_begin P.surroundings limit v e.1 last e.3 below,
            record {
              turns = b.turns;
              requests = b.requests;
              so_far = b.so_far;
              bytes = b.bytes;
              taken = b.taken;
              message = b.message;
              rest = b.rest;
              next = b.next;
              outcome = b.outcome;
              comes = b.comes;
              command = b.command;
              faulted = record {
                documents = b.faulted.documents;
                in_turn = then_kept (commands b.turns) b.outcome.kept b.faulted.in_turn;
              };
              gives = b.gives;
            },
            e.7
                ∙ ap (λ (l : List (List ℕ)). Some (record { coming = e.1; clients = e.2; ended = l; begun = true }))
                P.sent_is,
          );
        }

  -- as many as can be counted
  pub all_counted : number ≡ 2 ^ 64 - 1
      → ServesAll rule stands_for old c sent_before count from now connections sent faults faults_now ended.Done
  all_counted is = record {
    serving = serving;
    ends = (
      inr (P.number_is ∙ is),
      record { documents = refl; kept = P.kept; in_turn = P.in_turn },
      record {
        surroundings = P.surroundings;
        here = P.here;
        told = P.told;
        told_here = P.told_here;
        all_is = P.sent_is;
      },
      refl,
    );
  }
