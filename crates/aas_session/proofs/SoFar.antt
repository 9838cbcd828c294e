-- A session so far, and how each event goes on from there.
use Rattle.std.proofs.Common.{◌≡◌, inl, inr, ⊎_elim, true, false, Bool, ℕ, ◌-◌, ◌<◌, List, [], ◌∷◌, ◌++◌, refl, sym, ap}
use Rattle.std.proofs.Common.{ap₂, ◌∙◌, subst, arith, append_assoc, Option, Some, None, Result, Ok, Err}
use Rattle.std.specs.Prelude.{◌==◌, ◌||◌}
use Rattle.std.specs.Io.KnownBytes.{append_known, prepend_known, IsAtEnd}
use Rattle.std.proofs.lemmas.List.{append-nil}
use Rattle.std.proofs.lemmas.Bool.{cond-true, cond-false}
use Rattle.std.proofs.lemmas.Bool.Decides.{nat_tests}
use Rattle.aas_http.specs.FirstRequest.{Message, FirstRequest, Nothing, Bad, Whole, IsFirstRequest}
use Rattle.aas_out.specs.Told.{Grows}
use Rattle.aas_outside.specs.Faults.{Rose}
use Rattle.aas_outside.specs.Link.{GivesFront, LinkState}
use Rattle.aas_http.specs.declared.replies.Reply.{Reply}
use Rattle.aas_session.specs.Refusals.{bad_request, out_of_memory, storage_fault}
use Rattle.aas_outside.specs.Moments.{InTurn}
use Rattle.aas_outside.proofs.KnownBytes.{append_known-more}
use Rattle.aas_outside.proofs.Turns.{in_turn_later, in_turn_then, in_turn_settled, in_turn_none, passes_none}
use Rattle.aas_rule.specs.Rule.{Repository, Outcome, HasCommand, after}
use Rattle.aas_session.specs.declared.connection.Ended.{Ended}
use Rattle.aas_session.specs.declared.connection.Ended.TheVariants as ended
use Rattle.aas_session.specs.Intake.{Receives}
use Rattle.aas_session.specs.Served.{IsFinished, IsCut, IsBroken, Served}
use Rattle.aas_session.specs.Session.{HttpRule, End, Closed, NoMemory, Place, going, over, start, request_limit, Turn}
use Rattle.aas_session.specs.Session.{refusal, answered, closes, behind, TurnAt, TakesAll, replies, commands}
use Rattle.aas_rule.specs.State.{State, IsSettledState, PassesTo, repository_of, Holds, IsFaulted}
use Rattle.aas_session.specs.Safe.{IsUnchanged}
use Rattle.aas_session.specs.Steps.{GivesUnless, StopsIn, ServesOne, ClosesWith}
use Rattle.aas_session.proofs.Fronts.{front_none, front_parts, front_given, front_later}
use Rattle.aas_session.proofs.Turns.{turns_then, commands_more, append_known-nil, gives_more}
use Rattle.aas_session.proofs.Turns.{cut_turns, repository_behind}

-- The turns that were taken led to a place that goes on, at which the machine stands and the bytes left are those
-- received and those still on the link. All replies were given or are held for the link. Wherever it may stop in what
-- is held, the session is properly cut.
pub record SoFar {D I : Type 0} (rule : HttpRule D) (stands_for : I → List (List ℕ) → Type 0)
    (old : Repository D) (input : List ℕ) (from : ℕ) (now : State D I)
    (sent_old given : Option (List ℕ)) (held : List ℕ) (requests : ℕ) (unread : List ℕ) (link_left : Option (List ℕ)) :
    Type 0 where
  pub turns : List Turn
  pub rest : List ℕ
  pub told : link_left ≡ Some rest
  pub taken : TakesAll rule (start old input) turns
      (going requests (repository_of now (old.records ++ commands turns)) (unread ++ rest))
  pub kept : now.kept (old.records ++ commands turns)
  pub in_turn : InTurn stands_for now.left_at from now.moment old.records (commands turns) []
  pub gives : append_known given held ≡ append_known sent_old (replies turns)
  pub cut : (stopped : Option (List ℕ))
      → GivesFront given stopped held → IsCut rule stands_for old input from now sent_old stopped

module _ {D I : Type 0} (rule : HttpRule D) (stands_for : I → List (List ℕ) → Type 0)
    (records : List (List ℕ)) (input : List ℕ) (state : State D I) (sent_old : Option (List ℕ)) where
  -- at its start
  module _ (settled : IsSettledState stands_for state records) where
    all : records ++ [] ≡ records
    all = append-nil records

    kept : state.kept (records ++ [])
    kept = subst state.kept (sym all) settled.told

    in_turn : InTurn stands_for state.left_at state.moment state.moment records [] []
    in_turn = in_turn_none stands_for state.left_at state.moment records settled.alone

    -- the link stopped before anything was put
    stopped_at_once : (given stopped : Option (List ℕ)) (held : List ℕ)
        → given ≡ sent_old → held ≡ [] → GivesFront given stopped held
        → IsCut rule stands_for (repository_of state records) input state.moment state sent_old stopped
    stopped_at_once given stopped held same none front = record {
      turns = [];
      last = start (repository_of state records) input;
      taken = refl;
      holds = record { documents = refl; kept = settled.told; in_turn = in_turn };
      gives =
          inl (refl, front_none given stopped (subst (λ (l : List ℕ). GivesFront given stopped l) none front) ∙ same);
    }

    pub begun : (given : Option (List ℕ)) (held : List ℕ) (link_left : Option (List ℕ)) (unread : List ℕ)
        → given ≡ sent_old → held ≡ [] → unread ≡ [] → link_left ≡ Some input
        → SoFar rule stands_for
        (repository_of state records) input state.moment state sent_old given held request_limit unread link_left
    begun given held link_left unread same none empty told = record {
      turns = [];
      rest = input;
      told = told;
      taken = λ i. going request_limit (repository_of state (all i)) (empty i ++ input);
      kept = kept;
      in_turn = in_turn;
      gives = ap₂ append_known same none;
      cut = λ stopped. stopped_at_once given stopped held same none;
    }

-- a session that was cut stays so, where nothing has changed since
cut_stays : {D I : Type 0} (rule : HttpRule D) (stands_for : I → List (List ℕ) → Type 0)
    (old : Repository D) (input : List ℕ) (from : ℕ) (now new : State D I) (sent_old stopped : Option (List ℕ))
    → PassesTo now new → IsUnchanged now new → IsCut rule stands_for old input from now sent_old stopped
    → IsCut rule stands_for old input from new sent_old stopped
cut_stays rule stands_for old input from now new sent_old stopped passes same c = record {
  turns = c.turns;
  last = c.last;
  taken = c.taken;
  holds = record {
    documents = same.documents ∙ c.holds.documents;
    kept = (same.kept _).1 c.holds.kept;
    in_turn =
        subst (λ (m : ℕ). InTurn stands_for new.left_at from m old.records (commands c.turns) []) (sym same.moment)
        (in_turn_later stands_for now.moment new.moment now.left_at new.left_at passes from now.moment
        (omega arith) old.records (commands c.turns) [] c.holds.in_turn);
  };
  gives = c.gives;
}

module _ {D I : Type 0} (rule : HttpRule D) (stands_for : I → List (List ℕ) → Type 0)
    (old : Repository D) (input : List ℕ) (from : ℕ) (now : State D I)
    (sent_old given : Option (List ℕ)) (held : List ℕ) (requests : ℕ) (unread : List ℕ) (link_left : Option (List ℕ))
    (S : SoFar rule stands_for old input from now sent_old given held requests unread link_left) where
  abbrev pub records : List (List ℕ)
  records = old.records ++ commands S.turns

  -- where the session stands
  abbrev pub here : Repository D
  here = repository_of now (old.records ++ commands S.turns)

  -- what was put so far
  abbrev pub put : Option (List ℕ)
  put = append_known given held

  pub settled : IsSettledState stands_for now records
  settled = record {
    told = S.kept;
    alone = in_turn_settled stands_for now.left_at from now.moment old.records (commands S.turns) S.in_turn;
  }

  holds : Holds stands_for old.records (commands S.turns) here from now
  holds = record { documents = refl; kept = S.kept; in_turn = S.in_turn }

  -- ---- what was held is given, and a piece was received

  received_by : (piece : List ℕ) (new rest : Option (List ℕ)) (l : List ℕ)
      → rest ≡ Some l → rest ≡ prepend_known piece new → (r : List ℕ) × (new ≡ Some r) × (l ≡ piece ++ r)
  received_by piece None rest l told is = absurd (let no : Some l ≡ None = sym told ∙ is in cc)
  received_by piece (Some r) rest l told is = (r, refl, (let yes : Some l ≡ Some (piece ++ r) = sym told ∙ is in cc))

  module _ (given_new : Option (List ℕ)) (held_new : List ℕ)
      (same_put : append_known given_new held_new ≡ put) (grows : Grows given given_new) where
    pub received : (unread_new : List ℕ) (link_new : Option (List ℕ)) → Receives unread unread_new link_left link_new
        → SoFar rule stands_for old input from now sent_old given_new held_new requests unread_new link_new
    received unread_new link_new new =
        let r = received_by new.piece link_new link_left S.rest S.told new.left in
        let same : unread ++ S.rest ≡ unread_new ++ r.0 = ap (λ (l : List ℕ). unread ++ l) r.2
        ∙ sym (append_assoc unread new.piece r.0) ∙ ap (λ (l : List ℕ). l ++ r.0) (sym new.unread) in
        record {
          turns = S.turns;
          rest = r.0;
          told = r.1;
          taken = subst (λ (l : List ℕ). TakesAll rule (start old input) S.turns (going requests here l)) same S.taken;
          kept = S.kept;
          in_turn = S.in_turn;
          gives = same_put ∙ S.gives;
          cut = λ stopped front. S.cut stopped (front_later given given_new stopped held_new held same_put grows front);
        }

    -- the link failed
    pub link_failed : IsCut rule stands_for old input from now sent_old given_new
    link_failed = S.cut given_new (front_given given given_new held_new held same_put grows)

  -- ---- the input was at its end

  at_end : (known : Option (List ℕ)) → known ≡ Some S.rest → IsAtEnd known → S.rest ≡ []
  at_end known told end = subst (λ (k : Option (List ℕ)). IsAtEnd k) told end

  -- what was received is all of it
  first_at_end : (first : FirstRequest)
      → IsAtEnd link_left → IsFirstRequest unread first → IsFirstRequest (unread ++ S.rest) first
  first_at_end first end is =
      subst (λ (l : List ℕ). IsFirstRequest l first)
      (sym (append-nil unread) ∙ ap (λ (l : List ℕ). unread ++ l) (sym (at_end link_left S.told end))) is

  -- nothing more comes
  pub nothing_more : held ≡ [] → IsAtEnd link_left → IsFirstRequest unread Nothing
      → IsFinished rule stands_for old input from now sent_old given Closed
  nothing_more none end nothing = record {
    new = here;
    out = replies S.turns;
    session = record {
      turns = S.turns;
      last = going requests here (unread ++ S.rest);
      taken = S.taken;
      ends = (first_at_end Nothing end nothing, refl);
      leaves = refl;
      gives = refl;
    };
    holds = holds;
    gives = sym (append_known-nil given) ∙ ap (λ (l : List ℕ). append_known given l) (sym none) ∙ S.gives;
  }

  -- ---- one turn more

  took : (first : FirstRequest) → IsFirstRequest (unread ++ S.rest) first → (turn : Turn) (next : Place D)
      → TurnAt rule requests here first turn next
      → TakesAll rule (start old input) (S.turns ++ turn ∷ []) next
  took first is turn next at =
      turns_then rule (start old input) S.turns
      (going requests here (unread ++ S.rest)) turn next S.taken (first, is, at)

  -- behind a time in which payloads were kept
  module _ (new : State D I) (passes : PassesTo now new) where
    then_kept : (payloads failed : List (List ℕ))
        → InTurn stands_for new.left_at now.moment new.moment records payloads failed
        → InTurn stands_for new.left_at from new.moment old.records (commands S.turns ++ payloads) failed
    then_kept payloads failed more =
        in_turn_then stands_for new.left_at from now.moment new.moment old.records (commands S.turns) payloads failed
        (in_turn_later stands_for now.moment new.moment now.left_at new.left_at passes from now.moment
        (omega arith) old.records (commands S.turns) [] S.in_turn)
        more

    -- the machine holds what the turns and one turn more keep
    then_holds : (turn : Turn) (next : Repository D) → Holds stands_for records turn.kept next now.moment new
        → Holds stands_for old.records (commands (S.turns ++ turn ∷ [])) next from new
    then_holds turn next more = record {
      documents = more.documents;
      kept = more.kept;
      in_turn =
          subst (λ (l : List (List ℕ)). InTurn stands_for new.left_at from new.moment old.records l [])
          (sym (commands_more S.turns turn)) (then_kept turn.kept [] more.in_turn);
    }

    -- the link stopped in what was held
    pub held_cut : (stopped : Option (List ℕ)) → IsUnchanged now new × GivesFront given stopped held
        → IsCut rule stands_for old input from new sent_old stopped
    held_cut stopped (same, front) =
        cut_stays rule stands_for old input from now new sent_old stopped passes same (S.cut stopped front)

    -- a turn of a text after which the session is over
    module _ (text : List ℕ) (end : End) (first : FirstRequest) (is : IsFirstRequest (unread ++ S.rest) first)
        (at : TurnAt rule requests here first (refusal text) (over here end))
        (same : Holds stands_for records [] here now.moment new) (sent_new : Option (List ℕ)) where
      pub refused : sent_new ≡ append_known put text
          → IsFinished rule stands_for old input from new sent_old sent_new end
      refused whole = record {
        new = here;
        out = replies (S.turns ++ refusal text ∷ []);
        session = record {
          turns = S.turns ++ refusal text ∷ [];
          last = over here end;
          taken = took first is (refusal text) (over here end) at;
          ends = refl;
          leaves = refl;
          gives = refl;
        };
        holds = then_holds (refusal text) here same;
        gives = gives_more sent_old put sent_new S.turns (refusal text) S.gives whole;
      }

      pub refused_cut : GivesFront put sent_new text → IsCut rule stands_for old input from new sent_old sent_new
      refused_cut front = record {
        turns = S.turns ++ refusal text ∷ [];
        last = over here end;
        taken = took first is (refusal text) (over here end) at;
        holds = then_holds (refusal text) here same;
        gives = cut_turns sent_old put sent_new S.turns (refusal text) S.gives front;
      }

    -- a request
    module _ (message : Message) (rest : List ℕ) (is : IsFirstRequest (unread ++ S.rest) (Whole message rest)) where
      module _ (outcome : Outcome D Reply) (comes : rule here message outcome) where
        abbrev turn : Turn
        turn = answered outcome (closes requests message)

        abbrev next : Place D
        next = behind requests message (after here outcome) rest

        module _ (done : Holds stands_for records outcome.kept (after here outcome) now.moment new) where
          taken_done : TakesAll rule (start old input) (S.turns ++ turn ∷ []) next
          taken_done = took (Whole message rest) is turn next (inl (outcome, comes, refl, refl))

          holds_done : Holds stands_for old.records (commands (S.turns ++ turn ∷ [])) (after here outcome) from new
          holds_done = then_holds turn (after here outcome) done

          -- the link stopped in what was held, or in its reply
          pub done_cut : (stopped : Option (List ℕ)) → StopsIn now new given held turn.reply stopped
              → IsCut rule stands_for old input from new sent_old stopped
          done_cut stopped stops = ⊎_elim (λ in_held. held_cut stopped in_held) (λ in_reply. record {
            turns = S.turns ++ turn ∷ [];
            last = next;
            taken = taken_done;
            holds =
                subst (λ (r : Repository D). Holds stands_for old.records (commands (S.turns ++ turn ∷ [])) r from new)
                (sym (repository_behind requests message (after here outcome) rest)) holds_done;
            gives = cut_turns sent_old put stopped S.turns turn S.gives in_reply;
          }) stops

          -- its reply was given, and the connection closes
          pub done_closed : (sent_new : Option (List ℕ)) → sent_new ≡ append_known put turn.reply
              → closes requests message ≡ true → IsFinished rule stands_for old input from new sent_old sent_new Closed
          done_closed sent_new whole shut =
              let last_is : next ≡ over (after here outcome) Closed = cond-true _ _ _ shut in
              record {
                new = after here outcome;
                out = replies (S.turns ++ turn ∷ []);
                session = record {
                  turns = S.turns ++ turn ∷ [];
                  last = over (after here outcome) Closed;
                  taken = (let P : Place D → Type 0 = λ p. TakesAll rule (start old input) (S.turns ++ turn ∷ []) p in
                      subst P last_is taken_done);
                  ends = refl;
                  leaves = refl;
                  gives = refl;
                };
                holds = holds_done;
                gives = gives_more sent_old put sent_new S.turns turn S.gives whole;
              }

          module _ (given_new : Option (List ℕ)) (held_new : List ℕ)
              (whole : append_known given_new held_new ≡ append_known put turn.reply)
              (stops : (stopped : Option (List ℕ))
              → GivesFront given_new stopped held_new → StopsIn now new given held turn.reply stopped) where
            -- its reply was put, and the connection closes behind what is held
            pub done_last : closes requests message ≡ true → (sent_new : Option (List ℕ)) (F : Type 0) (way : Ended)
                → ClosesWith [] given_new held_new sent_new way
                → Served rule stands_for old input from new sent_old sent_new F way
            done_last shut sent_new F ended.Closed given_all =
                done_closed sent_new
                (given_all ∙ ap (λ (l : List ℕ). append_known given_new l) (append-nil held_new) ∙ whole) shut
            done_last shut sent_new F ended.LinkFault front =
                done_cut sent_new
                (stops sent_new (subst (λ (l : List ℕ). GivesFront given_new sent_new l) (append-nil held_new) front))
            done_last shut sent_new F ended.KeeperFault never = absurd never
            done_last shut sent_new F ended.NoMemory never = absurd never

            -- its reply was put, and the connection goes on
            pub done_on : closes requests message ≡ false → (unread_new : List ℕ) (link_new : Option (List ℕ))
                → rest ≡ unread_new ++ S.rest → link_new ≡ link_left
                → SoFar rule stands_for old input from new sent_old given_new held_new
                (requests - 1) unread_new link_new
            done_on open_still unread_new link_new rest_is same_left =
                let all : old.records ++ commands (S.turns ++ turn ∷ []) ≡ records ++ outcome.kept =
                ap (λ (l : List (List ℕ)). old.records ++ l) (commands_more S.turns turn)
                ∙ sym (append_assoc old.records (commands S.turns) outcome.kept) in
                let last_is : next
                ≡ going (requests - 1) (repository_of new (old.records ++ commands (S.turns ++ turn ∷ [])))
                (unread_new ++ S.rest) =
                cond-false _ _ _ open_still
                ∙ (λ i. going (requests - 1)
                (record { documents = (sym done.documents) i; records = (sym all) i }) (rest_is i)) in
                record {
                  turns = S.turns ++ turn ∷ [];
                  rest = S.rest;
                  told = same_left ∙ S.told;
                  taken = (let P : Place D → Type 0 = λ p. TakesAll rule (start old input) (S.turns ++ turn ∷ []) p in
                      subst P last_is taken_done);
                  kept = subst new.kept (sym all) done.kept;
                  in_turn = holds_done.in_turn;
                  gives = gives_more sent_old put (append_known given_new held_new) S.turns turn S.gives whole;
                  cut = λ stopped front. done_cut stopped (stops stopped front);
                }

        -- the keeper failed
        pub broken : HasCommand outcome → IsFaulted stands_for records [] outcome.kept outcome.documents now.moment new
            → (F : Type 0) (sent_new : Option (List ℕ)) → GivesUnless F put sent_new storage_fault
            → IsBroken rule stands_for old.records [] old input from new sent_old sent_new F
        broken command fault F sent_new gives = record {
          turns = S.turns;
          requests = requests;
          so_far = here;
          bytes = unread ++ S.rest;
          taken = S.taken;
          message = message;
          rest = rest;
          next = is;
          outcome = outcome;
          comes = comes;
          command = command;
          faulted = record {
            documents = fault.documents;
            in_turn =
                subst (λ (l : List (List ℕ)). InTurn stands_for new.left_at from new.moment old.records l outcome.kept)
                (append-nil (commands S.turns)) (then_kept [] outcome.kept fault.in_turn);
          };
          gives = subst (λ (k : Option (List ℕ)). GivesUnless F k sent_new storage_fault) S.gives gives;
        }

      -- ---- by what serving it answered

      module _ (given_new : Option (List ℕ)) (held_new : List ℕ) (F : Type 0) (rule_now : HttpRule D)
          (same : rule_now ≡ rule) (close : Bool) (close_is : close ≡ closes requests message) where
        abbrev Did : HttpRule D → Bool → Result Unit Ended → Type 0
        Did r c way = ServesOne r stands_for here message c now new given held given_new held_new F way

        did : (way : Result Unit Ended) → Did rule_now close way → Did rule (closes requests message) way
        did way d =
            subst (λ c. Did rule c way) close_is (let P : HttpRule D → Type 0 = λ r. Did r close way in subst P same d)

        no_memory : Holds stands_for records [] here now.moment new → StopsIn now new given held out_of_memory given_new
            → IsCut rule stands_for old input from new sent_old given_new
        no_memory none stops = ⊎_elim
            (λ in_held. held_cut given_new in_held)
            (λ in_text.
            refused_cut out_of_memory NoMemory (Whole message rest) is (inr (refl, refl)) none given_new in_text)
            stops

        -- the request ended the connection
        pub serves : (way : Ended)
            → Did rule_now close (Err way) → Served rule stands_for old input from new sent_old given_new F way
        serves ended.Closed d = absurd d
        serves ended.LinkFault d = ⊎_elim
            (λ before. held_cut given_new before)
            (λ behind. ⊎_elim (λ whole. done_cut whole.0 whole.1 whole.2 given_new whole.3)
            (λ none. no_memory none.0 none.1) behind)
            (did (Err ended.LinkFault) d)
        serves ended.KeeperFault d = let e = did (Err ended.KeeperFault) d in broken e.0 e.1 e.2 e.3 F given_new e.4
        serves ended.NoMemory d =
            let e = did (Err ended.NoMemory) d in
            refused out_of_memory NoMemory (Whole message rest) is (inr (refl, refl)) e.0 given_new e.1

        pub serves_last : Did rule_now close (Ok tt) → close ≡ true
            → (sent_new : Option (List ℕ)) (G : Type 0) (way : Ended) → ClosesWith [] given_new held_new sent_new way
            → Served rule stands_for old input from new sent_old sent_new G way
        serves_last d shut sent_new G way last =
            let e = did (Ok tt) d in
            done_last e.0 e.1 e.2 given_new held_new e.3 e.4 (sym close_is ∙ shut) sent_new G way last

        pub serves_on : Did rule_now close (Ok tt) → close ≡ false → (unread_new : List ℕ) (link_new : Option (List ℕ))
            → rest ≡ unread_new ++ S.rest → link_new ≡ link_left
            → SoFar rule stands_for old input from new sent_old given_new held_new (requests - 1) unread_new link_new
        serves_on d open_still unread_new link_new rest_is same_left =
            let e = did (Ok tt) d in
            done_on e.0 e.1 e.2 given_new held_new e.3 e.4
            (sym close_is ∙ open_still) unread_new link_new rest_is same_left

  -- the bytes were refused
  pub refuses : (text last : List ℕ) (first : FirstRequest)
      → IsFirstRequest (unread ++ S.rest) first → TurnAt rule requests here first (refusal text) (over here Closed)
      → (sent_new : Option (List ℕ)) (F : Type 0) (way : Ended) → last ≡ text → ClosesWith last given held sent_new way
      → Served rule stands_for old input from now sent_old sent_new F way
  refuses text last first is at sent_new F way same r =
      by way (subst (λ (l : List ℕ). ClosesWith l given held sent_new way) same r)
    where
      stays : PassesTo now now
      stays = passes_none now.moment now.left_at

      kept_so : Holds stands_for records [] here now.moment now
      kept_so = record {
        documents = refl;
        kept = S.kept;
        in_turn = in_turn_none stands_for now.left_at now.moment records settled.alone;
      }

      by : (way : Ended) → ClosesWith text given held sent_new way
          → Served rule stands_for old input from now sent_old sent_new F way
      by ended.Closed r =
          refused now stays text Closed first is at kept_so sent_new (r ∙ sym (append_known-more given held text))
      by ended.LinkFault r =
          ⊎_elim (λ in_held. S.cut sent_new in_held)
          (λ in_text. refused_cut now stays text Closed first is at kept_so sent_new in_text)
          (front_parts given held sent_new text r)
      by ended.KeeperFault r = absurd r
      by ended.NoMemory r = absurd r

  -- the input ended within a request
  pub refuses_rest : IsAtEnd link_left → IsFirstRequest unread Bad → (last : List ℕ) → last ≡ bad_request
      → (sent_new : Option (List ℕ)) (F : Type 0) (way : Ended) → ClosesWith last given held sent_new way
      → Served rule stands_for old input from now sent_old sent_new F way
  refuses_rest end is last same sent_new F way r =
      refuses bad_request last Bad (first_at_end Bad end is) (refl, refl) sent_new F way same r

-- ---- what else the loop needs

-- the link is that which was lent
pub served_at : {L D I : Type 0} (state : L → LinkState) (before : ℕ)
    (rule : HttpRule D) (stands_for : I → List (List ℕ) → Type 0) (old : Repository D) (input : List ℕ) (from : ℕ)
    (now : State D I) (sent_old : Option (List ℕ)) (way : Ended) (link lent : L) → link ≡ lent
    → Served rule stands_for old input from now sent_old (state lent).sent (Rose before (state lent).faults) way
    → Served rule stands_for old input from now sent_old (state link).sent (Rose before (state link).faults) way
served_at {L} state before rule stands_for old input from now sent_old way link lent same s =
    subst (λ (l : L).
    Served rule stands_for old input from now sent_old (state l).sent (Rose before (state l).faults) way)
    (sym same) s

pub served_weaker : {D I : Type 0} (rule : HttpRule D) (stands_for : I → List (List ℕ) → Type 0)
    (old : Repository D) (input : List ℕ) (from : ℕ) (now : State D I)
    (sent_old sent_new : Option (List ℕ)) (F G : Type 0) → (F → G) → (way : Ended)
    → Served rule stands_for old input from now sent_old sent_new F way
    → Served rule stands_for old input from now sent_old sent_new G way
served_weaker rule stands_for old input from now sent_old sent_new F G weaker ended.Closed s = s
served_weaker rule stands_for old input from now sent_old sent_new F G weaker ended.NoMemory s = s
served_weaker rule stands_for old input from now sent_old sent_new F G weaker ended.LinkFault s = s
served_weaker rule stands_for old input from now sent_old sent_new F G weaker ended.KeeperFault s = record {
  turns = s.turns;
  requests = s.requests;
  so_far = s.so_far;
  bytes = s.bytes;
  taken = s.taken;
  message = s.message;
  rest = s.rest;
  next = s.next;
  outcome = s.outcome;
  comes = s.comes;
  command = s.command;
  faulted = s.faulted;
  gives = ⊎_elim (λ whole. inl whole) (λ part. inr (weaker part.0, part.1)) s.gives;
}

pub more_than_one : (asked : Bool) (n : ℕ) → 0 < n → (asked || (n == 1)) ≡ false → 0 < n - 1
more_than_one true n some none = absurd (let no : true ≡ false = none in cc)
more_than_one false n some none = grind (arith, nat_tests)
