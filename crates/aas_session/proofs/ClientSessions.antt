-- The sessions of clients that were visited among others.
use Rattle.std.proofs.Common.{◌≡◌, ◌⊎◌, inl, inr, ⊎_elim, ℕ, zero, suc, ◌+◌, ◌-◌, ◌<◌, ◌≤◌, Bool, true, false, List, []}
use Rattle.std.proofs.Common.{◌∷◌, ◌++◌, length, take, drop, refl, sym, ap, ◌∙◌, subst, arith, append_assoc}
use Rattle.std.proofs.Common.{length-append, take-append-drop, Some}
use Rattle.std.specs.Prelude.{◌==◌}
use Rattle.std.proofs.lemmas.Bool.{cond-true, cond-false, lt-ltb, le-ltb}
use Rattle.std.proofs.lemmas.List.{append-nil, map-append, length-map}
use Rattle.std.proofs.lemmas.List.Elements.{filter-append}
use Rattle.std.proofs.lemmas.Grind.{flat_map-append}
use Rattle.std.proofs.Math.Seq.{take-length}
use Rattle.aas_http.proofs.FirstLaws.{blank_first}
use Rattle.aas_http.specs.FirstRequest.{Nothing, IsFirstRequest}
use Rattle.aas_outside.specs.Surroundings.{Visit, to_first}
use Rattle.aas_rule.specs.Rule.{Repository}
use Rattle.aas_session.specs.Clients.{Taken, Follow, turns_of, taken_for, TakesAmong, visits_to, turns_on, bytes_of}
use Rattle.aas_session.specs.Clients.{sent_on, LeavesOpen, StayOpen, HasFailed, ClientsHaveSessions}
use Rattle.aas_session.specs.Clients.{AreSerial, SerialVisitsAreFirst}
use Rattle.aas_session.specs.Visits.{Visited, IsServed, IsSessions, visits}
use Rattle.aas_session.specs.Served.{GivesTurns}
use Rattle.aas_session.specs.Session.{HttpRule, End, Closed, Place, going, start, repository, request_limit, Turn}
use Rattle.aas_session.specs.Session.{TakesAll, EndsAs, replies}
use Rattle.aas_session.proofs.Turns.{replies_more}
use Rattle.aas_session.proofs.ClientLaws.{tagged, follow_tagged, turns_tagged, for_tagged, for_other, length_tagged}
use Rattle.aas_session.proofs.ClientLaws.{follow_both, among_open, among_last}

-- ---- replies of several visits

replies_both : (xs ys : List Turn) → replies (xs ++ ys) ≡ replies xs ++ replies ys
replies_both xs ys = flat_map-append (λ (t : Turn). t.reply) xs ys

ends_with : (turns : List Turn) → (turns ≡ []) ⊎ ((first : List Turn) × (last : Turn) × (turns ≡ first ++ last ∷ []))
ends_with [] = inl refl
ends_with (t ∷ ts) =
    ⊎_elim (λ none. inr ([], t, ap (λ (l : List Turn). t ∷ l) none))
    (λ some. inr (t ∷ some.0, some.1, ap (λ (l : List Turn). t ∷ l) some.2)) (ends_with ts)

-- all replies whole are a front too
whole_turns : (turns : List Turn) → GivesTurns (Some []) (Some (replies turns)) turns
whole_turns turns = ⊎_elim
    (λ none. inl (none, ap (λ (l : List Turn). Some (replies l)) none))
    (λ some.
    let whole : replies turns ≡ replies some.0 ++ take (length some.1.reply) some.1.reply =
    ap replies some.2 ∙ replies_more some.0 some.1
    ∙ ap (λ (l : List ℕ). replies some.0 ++ l) (sym (take-length some.1.reply)) in
    inr (some.0, some.1, some.2, (length some.1.reply, omega arith, ap (λ (l : List ℕ). Some l) whole)))
    (ends_with turns)

-- the replies of a visit before
gives_before : (turns more : List Turn) (sent : List ℕ)
    → GivesTurns (Some []) (Some sent) more → GivesTurns (Some []) (Some (replies turns ++ sent)) (turns ++ more)
gives_before turns more sent (inl (none, nothing)) =
    let empty : sent ≡ [] = cc in
    let all : turns ++ more ≡ turns = ap (λ (l : List Turn). turns ++ l) none ∙ append-nil turns in
    let bytes : replies turns ++ sent ≡ replies turns =
    ap (λ (l : List ℕ). replies turns ++ l) empty ∙ append-nil (replies turns) in
    subst (λ (l : List Turn). GivesTurns (Some []) (Some (replies turns ++ sent)) l) (sym all)
    (subst (λ (l : List ℕ). GivesTurns (Some []) (Some l) turns) (sym bytes) (whole_turns turns))
gives_before turns more sent (inr (first, last, is, (n, within, given))) =
    let here : sent ≡ replies first ++ take n last.reply = cc in
    let joined : replies turns ++ sent ≡ replies (turns ++ first) ++ take n last.reply =
    ap (λ (l : List ℕ). replies turns ++ l) here
    ∙ sym (append_assoc (replies turns) (replies first) (take n last.reply))
    ∙ ap (λ (l : List ℕ). l ++ take n last.reply) (sym (replies_both turns first)) in
    inr (
      turns ++ first,
      last,
      ap (λ (l : List Turn). turns ++ l) is ∙ sym (append_assoc turns first (last ∷ [])),
      (n, within, ap (λ (l : List ℕ). Some l) joined),
    )

module _ {D : Type 0} (rule : HttpRule D) where
  -- ---- the turns of all visits

  all_tagged : (old : Repository D) (faults : ℕ) (vs : List (Visited D)) (last : Repository D) (faults_last : ℕ)
      → IsSessions rule old faults vs last faults_last → List (Taken D)
  all_tagged old faults [] last faults_last is = []
  all_tagged old faults (v ∷ vs) last faults_last (count, served, rest) =
      tagged rule v.visit.client (start old v.visit.input) v.turns v.last served.0
      ++ all_tagged (repository v.last) v.faults_behind vs last faults_last rest

  all_follow : (old : Repository D) (faults : ℕ) (vs : List (Visited D)) (last : Repository D)
      (faults_last : ℕ) (is : IsSessions rule old faults vs last faults_last)
      → Follow rule old (all_tagged old faults vs last faults_last is) last
  unfolding all_tagged
  all_follow old faults [] last faults_last is = is.0
  all_follow old faults (v ∷ vs) last faults_last (count, served, rest) =
      follow_both rule old _ _ (repository v.last) last
      (follow_tagged rule v.visit.client (start old v.visit.input) v.turns v.last served.0)
      (all_follow (repository v.last) v.faults_behind vs last faults_last rest)

  all_turns : (old : Repository D) (faults : ℕ) (vs : List (Visited D)) (last : Repository D)
      (faults_last : ℕ) (is : IsSessions rule old faults vs last faults_last)
      → turns_of (all_tagged old faults vs last faults_last is) ≡ turns_on vs
  unfolding all_tagged
  all_turns old faults [] last faults_last is = refl
  all_turns old faults (v ∷ vs) last faults_last (count, served, rest) =
      let here = tagged rule v.visit.client (start old v.visit.input) v.turns v.last served.0 in
      let behind = all_tagged (repository v.last) v.faults_behind vs last faults_last rest in
      map-append (λ (t : Taken D). t.turn) here behind
      ∙ ap (λ (l : List Turn). l ++ turns_of behind)
      (turns_tagged rule v.visit.client (start old v.visit.input) v.turns v.last served.0)
      ∙ ap (λ (l : List Turn). v.turns ++ l) (all_turns (repository v.last) v.faults_behind vs last faults_last rest)

  -- ---- those for one client

  module _ (client : ℕ) where
    -- where none of the visits goes to it
    none_by : (v : Visited D) (vs : List (Visited D)) (here behind : List (Taken D))
        → ((v.visit.client == client) ≡ false → taken_for client here ≡ [])
        → (visits_to client vs ≡ [] → taken_for client behind ≡ [])
        → visits_to client (v ∷ vs) ≡ [] → (b : Bool)
        → (v.visit.client == client) ≡ b → taken_for client (here ++ behind) ≡ []
    none_by v vs here behind other rest none true is =
        let e : v ∷ visits_to client vs ≡ [] = sym (cond-true _ _ _ is) ∙ none in
        let no : ⊥ = cc in absurd no
    none_by v vs here behind other rest none false is =
        let fewer : visits_to client vs ≡ [] = sym (cond-false _ _ _ is) ∙ none in
        filter-append (λ (t : Taken D). t.client == client) here behind
        ∙ ap (λ (l : List (Taken D)). l ++ taken_for client behind) (other is) ∙ rest fewer

    none_for : (old : Repository D) (faults : ℕ) (vs : List (Visited D)) (last : Repository D)
        (faults_last : ℕ) (is : IsSessions rule old faults vs last faults_last)
        → visits_to client vs ≡ [] → taken_for client (all_tagged old faults vs last faults_last is) ≡ []
    unfolding all_tagged
    none_for old faults [] last faults_last is none = refl
    none_for old faults (v ∷ vs) last faults_last (count, served, rest) none =
        none_by v vs (tagged rule v.visit.client (start old v.visit.input) v.turns v.last served.0)
        (all_tagged (repository v.last) v.faults_behind vs last faults_last rest)
        (for_other rule v.visit.client client (start old v.visit.input) v.turns v.last served.0)
        (none_for (repository v.last) v.faults_behind vs last faults_last rest) none (v.visit.client == client) refl

    -- its turns are those of the visits to it
    turns_by : (v : Visited D) (vs : List (Visited D)) (here behind : List (Taken D))
        → ((v.visit.client == client) ≡ true → taken_for client here ≡ here)
        → ((v.visit.client == client) ≡ false → taken_for client here ≡ []) → turns_of here ≡ v.turns
        → turns_of (taken_for client behind) ≡ turns_on (visits_to client vs)
        → (b : Bool) → (v.visit.client == client) ≡ b
        → turns_of (taken_for client (here ++ behind)) ≡ turns_on (visits_to client (v ∷ vs))
    turns_by v vs here behind same other turns rest true is =
        let vs_are : visits_to client (v ∷ vs) ≡ v ∷ visits_to client vs = cond-true _ _ _ is in
        let ts_are : taken_for client (here ++ behind) ≡ here ++ taken_for client behind =
        filter-append (λ (t : Taken D). t.client == client) here behind
        ∙ ap (λ (l : List (Taken D)). l ++ taken_for client behind) (same is) in
        ap turns_of ts_are ∙ map-append (λ (t : Taken D). t.turn) here (taken_for client behind)
        ∙ ap (λ (l : List Turn). l ++ turns_of (taken_for client behind)) turns
        ∙ ap (λ (l : List Turn). v.turns ++ l) rest ∙ ap turns_on (sym vs_are)
    turns_by v vs here behind same other turns rest false is =
        let vs_are : visits_to client (v ∷ vs) ≡ visits_to client vs = cond-false _ _ _ is in
        let ts_are : taken_for client (here ++ behind) ≡ taken_for client behind =
        filter-append (λ (t : Taken D). t.client == client) here behind
        ∙ ap (λ (l : List (Taken D)). l ++ taken_for client behind) (other is) in
        ap turns_of ts_are ∙ rest ∙ ap turns_on (sym vs_are)

    turns_for : (old : Repository D) (faults : ℕ) (vs : List (Visited D)) (last : Repository D)
        (faults_last : ℕ) (is : IsSessions rule old faults vs last faults_last)
        → turns_of (taken_for client (all_tagged old faults vs last faults_last is)) ≡ turns_on (visits_to client vs)
    unfolding all_tagged
    turns_for old faults [] last faults_last is = refl
    turns_for old faults (v ∷ vs) last faults_last (count, served, rest) =
        turns_by v vs (tagged rule v.visit.client (start old v.visit.input) v.turns v.last served.0)
        (all_tagged (repository v.last) v.faults_behind vs last faults_last rest)
        (for_tagged rule v.visit.client client (start old v.visit.input) v.turns v.last served.0)
        (for_other rule v.visit.client client (start old v.visit.input) v.turns v.last served.0)
        (turns_tagged rule v.visit.client (start old v.visit.input) v.turns v.last served.0)
        (turns_for (repository v.last) v.faults_behind vs last faults_last rest) (v.visit.client == client) refl

    -- one session that may take so many requests, from wherever the repository stands
    pub record Goes (k : ℕ) (q : Repository D) (vs : List (Visited D)) (ts : List (Taken D)) : Type 0 where
      pub last : Place D
      pub session : TakesAmong rule (going k q (bytes_of vs)) ts last
      pub gives : ((end : End) × EndsAs last end × (sent_on vs ≡ replies (turns_of ts)))
          ⊎ (HasFailed vs × GivesTurns (Some []) (Some (sent_on vs)) (turns_of ts))

    -- its last visit
    goes_last : (old : Repository D) (v : Visited D) (served : IsServed rule old v) (k : ℕ) (q : Repository D)
        → length v.turns < k → length v.turns < request_limit
        → Goes k q (v ∷ []) (tagged rule v.visit.client (start old v.visit.input) v.turns v.last served.0)
    goes_last old v served k q less fewer =
        let L = among_last rule v.visit.client
        (start old v.visit.input) request_limit old v.visit.input refl v.turns v.last served.0 k q less fewer in
        let turns_are = turns_tagged rule v.visit.client (start old v.visit.input) v.turns v.last served.0 in
        record {
          last = L.like;
          session =
              subst (λ (l : List ℕ). TakesAmong rule (going k q l)
              (tagged rule v.visit.client (start old v.visit.input) v.turns v.last served.0) L.like)
              (sym (append-nil v.visit.input)) L.session;
          gives = ⊎_elim
              (λ whole. inl (whole.0, L.ends whole.0 whole.1, append-nil v.sent ∙ whole.2 ∙ ap replies (sym turns_are)))
              (λ part. inr (
                inl part.0,
                subst (λ (l : List ℕ). GivesTurns (Some []) (Some l)
                    (turns_of (tagged rule v.visit.client (start old v.visit.input) v.turns v.last served.0)))
                    (sym (append-nil v.sent))
                    (subst (λ (l : List Turn). GivesTurns (Some []) (Some v.sent) l) (sym turns_are) part.1),
              ))
              served.2;
        }

    -- a visit that left it open, and the later ones
    goes_open : (old : Repository D) (v : Visited D) (served : IsServed rule old v)
        (opened : LeavesOpen v) (vs : List (Visited D)) (ts : List (Taken D)) (k : ℕ) (q : Repository D)
        → length v.turns < k → length v.turns < request_limit → Goes (k - length v.turns) opened.repository vs ts
        → Goes k q (v ∷ vs) (tagged rule v.visit.client (start old v.visit.input) v.turns v.last served.0 ++ ts)
    goes_open old v served opened vs ts k q less fewer later =
        let Q : Place D → Type 0 = λ p.
        (taken : TakesAll rule (start old v.visit.input) v.turns p)
        → Goes k q (v ∷ vs) (tagged rule v.visit.client (start old v.visit.input) v.turns p taken ++ ts) in
        let at_open : Q (going opened.requests opened.repository []) = λ taken.
        (let here = tagged rule v.visit.client (start old v.visit.input) v.turns
        (going opened.requests opened.repository []) taken in
        let turns_are : turns_of (here ++ ts) ≡ v.turns ++ turns_of ts =
        map-append (λ (t : Taken D). t.turn) here ts
        ∙ ap (λ (l : List Turn). l ++ turns_of ts) (turns_tagged rule v.visit.client
        (start old v.visit.input) v.turns (going opened.requests opened.repository []) taken) in
        record {
          last = later.last;
          session =
              among_open rule v.visit.client (start old v.visit.input) request_limit old v.visit.input refl v.turns
              opened.requests opened.repository taken k q (bytes_of vs) ts later.last less fewer later.session;
          gives = ⊎_elim
              (λ whole. inl (
                whole.0,
                whole.1,
                ap (λ (l : List ℕ). l ++ sent_on vs) opened.gives ∙ ap (λ (l : List ℕ). replies v.turns ++ l) whole.2
                    ∙ sym (replies_both v.turns (turns_of ts)) ∙ ap replies (sym turns_are),
              ))
              (λ part. inr (
                inr part.0,
                subst (λ (l : List Turn). GivesTurns (Some []) (Some (v.sent ++ sent_on vs)) l) (sym turns_are)
                    (subst (λ (l : List ℕ). GivesTurns (Some []) (Some (l ++ sent_on vs)) (v.turns ++ turns_of ts))
                    (sym opened.gives) (gives_before v.turns (turns_of ts) (sent_on vs) part.1)),
              ))
              later.gives;
        }) in
        subst Q (sym opened.last) at_open served.0

    move : (k : ℕ) (q : Repository D) (vs ws : List (Visited D)) (ts us : List (Taken D))
        → vs ≡ ws → ts ≡ us → Goes k q vs ts → Goes k q ws us
    move k q vs ws ts us e f g =
        subst (λ (l : List (Taken D)). Goes k q ws l) f (subst (λ (l : List (Visited D)). Goes k q l ts) e g)

    nothing : IsFirstRequest [] Nothing
    nothing = blank_first [] (record { lines = refl; short = omega arith })

    -- a visit to it, behind which these go to it
    goes_here : (old : Repository D) (v : Visited D) (served : IsServed rule old v)
        (vs : List (Visited D)) (ts : List (Taken D)) (k : ℕ) (q : Repository D)
        → StayOpen (v ∷ vs)
        → length (tagged rule v.visit.client (start old v.visit.input) v.turns v.last served.0 ++ ts) < k
        → length (tagged rule v.visit.client (start old v.visit.input) v.turns v.last served.0 ++ ts) < request_limit
        → (vs ≡ [] → ts ≡ []) → ((j : ℕ) (s : Repository D) → StayOpen vs → length ts < j → Goes j s vs ts)
        → Goes k q (v ∷ vs) (tagged rule v.visit.client (start old v.visit.input) v.turns v.last served.0 ++ ts)
    goes_here old v served [] ts k q opened less fewer none later =
        let here = tagged rule v.visit.client (start old v.visit.input) v.turns v.last served.0 in
        let size : length here ≡ length v.turns =
        length_tagged rule v.visit.client (start old v.visit.input) v.turns v.last served.0 in
        let all : here ++ ts ≡ here = ap (λ (l : List (Taken D)). here ++ l) (none refl) ∙ append-nil here in
        move k q (v ∷ []) (v ∷ []) here (here ++ ts) refl (sym all)
        (goes_last old v served k q (omega (arith, less, ap length all, size))
        (omega (arith, fewer, ap length all, size)))
    goes_here old v served (w ∷ vs) ts k q opened less fewer none later =
        let here = tagged rule v.visit.client (start old v.visit.input) v.turns v.last served.0 in
        let size : length here ≡ length v.turns =
        length_tagged rule v.visit.client (start old v.visit.input) v.turns v.last served.0 in
        goes_open old v served opened.0 (w ∷ vs) ts k q (omega (arith, less, size, length-append here ts))
        (omega (arith, fewer, size, length-append here ts))
        (later (k - length v.turns) opened.0.repository opened.1 (omega (arith, less, size, length-append here ts)))

    goes_by : (v : Visited D) (vs : List (Visited D)) (here behind : List (Taken D)) (k : ℕ) (q : Repository D)
        → ((v.visit.client == client) ≡ true → taken_for client here ≡ here)
        → ((v.visit.client == client) ≡ false → taken_for client here ≡ [])
        → (StayOpen (v ∷ visits_to client vs) → length (here ++ taken_for client behind) < k
        → length (here ++ taken_for client behind) < request_limit
        → Goes k q (v ∷ visits_to client vs) (here ++ taken_for client behind))
        → (StayOpen (visits_to client vs) → length (taken_for client behind) < k
        → length (taken_for client behind) < request_limit → Goes k q (visits_to client vs) (taken_for client behind))
        → StayOpen (visits_to client (v ∷ vs)) → length (taken_for client (here ++ behind)) < k
        → length (taken_for client (here ++ behind)) < request_limit
        → (b : Bool) → (v.visit.client == client) ≡ b
        → Goes k q (visits_to client (v ∷ vs)) (taken_for client (here ++ behind))
    goes_by v vs here behind k q same other visited elsewhere opened less fewer true is =
        let vs_are : visits_to client (v ∷ vs) ≡ v ∷ visits_to client vs = cond-true _ _ _ is in
        let ts_are : taken_for client (here ++ behind) ≡ here ++ taken_for client behind =
        filter-append (λ (t : Taken D). t.client == client) here behind
        ∙ ap (λ (l : List (Taken D)). l ++ taken_for client behind) (same is) in
        move k q (v ∷ visits_to client vs) (visits_to client (v ∷ vs))
        (here ++ taken_for client behind) (taken_for client (here ++ behind)) (sym vs_are) (sym ts_are)
        (visited (subst StayOpen vs_are opened) (omega (arith, less, ap length ts_are))
        (omega (arith, fewer, ap length ts_are)))
    goes_by v vs here behind k q same other visited elsewhere opened less fewer false is =
        let vs_are : visits_to client (v ∷ vs) ≡ visits_to client vs = cond-false _ _ _ is in
        let ts_are : taken_for client (here ++ behind) ≡ taken_for client behind =
        filter-append (λ (t : Taken D). t.client == client) here behind
        ∙ ap (λ (l : List (Taken D)). l ++ taken_for client behind) (other is) in
        move k q (visits_to client vs) (visits_to client (v ∷ vs)) (taken_for client behind)
        (taken_for client (here ++ behind)) (sym vs_are) (sym ts_are)
        (elsewhere (subst StayOpen vs_are opened) (omega (arith, less, ap length ts_are))
        (omega (arith, fewer, ap length ts_are)))

    goes : (old : Repository D) (faults : ℕ) (vs : List (Visited D)) (last : Repository D)
        (faults_last : ℕ) (is : IsSessions rule old faults vs last faults_last) (k : ℕ) (q : Repository D)
        → StayOpen (visits_to client vs) → length (taken_for client (all_tagged old faults vs last faults_last is)) < k
        → length (taken_for client (all_tagged old faults vs last faults_last is)) < request_limit
        → Goes k q (visits_to client vs) (taken_for client (all_tagged old faults vs last faults_last is))
    unfolding all_tagged
    goes old faults [] last faults_last is k q opened less fewer =
        record { last = going k q []; session = refl; gives = inl (Closed, (nothing, refl), refl) }
    goes old faults (v ∷ vs) last faults_last (count, served, rest) k q opened less fewer =
        let here = tagged rule v.visit.client (start old v.visit.input) v.turns v.last served.0 in
        let behind = all_tagged (repository v.last) v.faults_behind vs last faults_last rest in
        goes_by v vs here behind k q
        (for_tagged rule v.visit.client client (start old v.visit.input) v.turns v.last served.0)
        (for_other rule v.visit.client client (start old v.visit.input) v.turns v.last served.0)
        (λ stays short few. goes_here old v served (visits_to client vs) (taken_for client behind) k q stays short few
        (none_for (repository v.last) v.faults_behind vs last faults_last rest)
        (λ j s opens shorter. goes (repository v.last) v.faults_behind vs last faults_last rest j s opens shorter
        (omega (arith, few, length-append here (taken_for client behind)))))
        (λ stays short few. goes (repository v.last) v.faults_behind vs last faults_last rest k q stays short few)
        opened less fewer (v.visit.client == client) refl

  pub clients_have_sessions : ClientsHaveSessions rule
  clients_have_sessions old last faults faults_last vs is = (
    all_tagged old faults vs last faults_last is,
    all_follow old faults vs last faults_last is,
    all_turns old faults vs last faults_last is,
    λ client. (
      turns_for client old faults vs last faults_last is,
      λ opened few. (
          let all = all_tagged old faults vs last faults_last is in
          let turns_are : length (turns_of (taken_for client all)) ≡ length (turns_on (visits_to client vs)) =
          ap length (turns_for client old faults vs last faults_last is) in
          let fewer : length (taken_for client all) < request_limit =
          omega (arith, few, turns_are, length-map (taken_for client all) (λ (t : Taken D). t.turn)) in
          let G = goes client old faults vs last faults_last is request_limit old opened fewer fewer in
          record { last = G.last; session = G.session; gives = G.gives }),
    ),
  )

-- ---- each client visited once

serial_high : (clients limit : ℕ) (vs : List Visit) → AreSerial clients vs → limit ≤ clients → to_first limit vs ≡ []
serial_high clients limit [] serial high = refl
serial_high clients limit (v ∷ vs) serial high =
    cond-false _ _ _ (le-ltb v.client limit (omega (arith, serial.0)))
    ∙ serial_high (clients + 1) limit vs serial.1 (omega arith)

serial_first : (clients count : ℕ) (vs : List Visit)
    → AreSerial clients vs → to_first (clients + count) vs ≡ take count vs
serial_first clients zero vs serial = serial_high clients (clients + 0) vs serial (omega arith)
serial_first clients (suc count) [] serial = refl
serial_first clients (suc count) (v ∷ vs) serial =
    let same : clients + suc count ≡ (clients + 1) + count = omega arith in
    ap (λ (n : ℕ). to_first n (v ∷ vs)) same
    ∙ cond-true _ _ _ (lt-ltb v.client ((clients + 1) + count) (omega (arith, serial.0)))
    ∙ ap (λ (l : List Visit). v ∷ l) (serial_first (clients + 1) count vs serial.1)

-- the first of a list are all of it, or so many
take_all : (n : ℕ) (vs : List Visit) → (drop n vs ≡ []) ⊎ (length (take n vs) ≡ n)
take_all zero vs = inr refl
take_all (suc n) [] = inl refl
take_all (suc n) (v ∷ vs) = ⊎_elim (λ none. inl none) (λ all. inr (ap (λ (k : ℕ). suc k) all)) (take_all n vs)

pub serial_visits_are_first : {D : Type 0} (rule : HttpRule D) → SerialVisitsAreFirst rule
serial_visits_are_first {D} rule old faults coming clients count serial s =
    let first : take count coming ≡ visits s.served ++ s.rest =
    sym (serial_first clients count coming serial) ∙ s.came in (
      s.rest ++ drop count coming,
      sym (take-append-drop count coming) ∙ ap (λ (l : List Visit). l ++ drop count coming) first
          ∙ append_assoc (visits s.served) s.rest (drop count coming),
      λ none.
          let all : take count coming ≡ visits s.served =
          first ∙ ap (λ (l : List Visit). visits s.served ++ l) none ∙ append-nil (visits s.served) in
          ⊎_elim
          (λ ended. inl (ap (λ (l : List Visit). l ++ drop count coming) none ∙ ended))
          (λ full. inr (sym (length-map s.served (λ (v : Visited D). v.visit)) ∙ sym (ap length all) ∙ full))
          (take_all count coming),
    )
