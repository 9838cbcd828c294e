-- The turns of visits as one list, and those of one client among them.
use Rattle.std.proofs.Common.{◌≡◌, inl, inr, ℕ, suc, ◌-◌, ◌<◌, Bool, true, false, List, [], ◌∷◌, ◌++◌, length, refl}
use Rattle.std.proofs.Common.{sym, ap, ◌∙◌, subst, arith, append_assoc}
use Rattle.std.specs.Prelude.{◌==◌, ◌||◌, if◌then◌else◌}
use Rattle.std.proofs.lemmas.Bool.{cond-true, cond-false}
use Rattle.std.proofs.lemmas.Bool.Decides.{nat_tests}
use Rattle.aas_http.proofs.Ending.{ends_by_itself}
use Rattle.aas_http.specs.FirstRequest.{Message, FirstRequest, Nothing, Bad, TooLarge, NotImplemented}
use Rattle.aas_http.specs.FirstRequest.{Whole, IsFirstRequest}
use Rattle.aas_http.specs.declared.replies.Reply.{Reply}
use Rattle.aas_rule.specs.Rule.{Repository, Outcome, after}
use Rattle.aas_session.specs.Clients.{Taken, IsTaken, Follow, turns_of, taken_for, with_repository, TakesAmong}
use Rattle.aas_session.specs.Session.{HttpRule, End, Closed, NoMemory, Place, going, over, repository, Turn, answered}
use Rattle.aas_session.specs.Session.{closes, behind, TurnAt, Takes, TakesAll, EndsAs}

-- ---- the turns of one visit, with the repositories that they found and left

pub tagged : {D : Type 0} (rule : HttpRule D) (client : ℕ) (place : Place D) (turns : List Turn) (last : Place D)
    → TakesAll rule place turns last → List (Taken D)
tagged rule client place [] last taken = []
tagged rule client place (t ∷ ts) last (next, takes, rest) =
    record { client = client; turn = t; found = repository place; left = repository next }
    ∷ tagged rule client next ts last rest

is_taken : {D : Type 0} (rule : HttpRule D) (client : ℕ) (place : Place D) (t : Turn) (next : Place D)
    → Takes rule place t next
    → IsTaken rule (record { client = client; turn = t; found = repository place; left = repository next })
is_taken rule client (going n r bytes) t next takes = (n, bytes, next, takes, refl)
is_taken rule client (over r end) t next takes = absurd takes

pub follow_tagged : {D : Type 0} (rule : HttpRule D) (client : ℕ) (place : Place D)
    (turns : List Turn) (last : Place D) (taken : TakesAll rule place turns last)
    → Follow rule (repository place) (tagged rule client place turns last taken) (repository last)
unfolding tagged
follow_tagged rule client place [] last taken = ap repository taken
follow_tagged rule client place (t ∷ ts) last (next, takes, rest) =
    (refl, is_taken rule client place t next takes, follow_tagged rule client next ts last rest)

pub turns_tagged : {D : Type 0} (rule : HttpRule D) (client : ℕ) (place : Place D)
    (turns : List Turn) (last : Place D) (taken : TakesAll rule place turns last)
    → turns_of (tagged rule client place turns last taken) ≡ turns
unfolding tagged
turns_tagged rule client place [] last taken = refl
turns_tagged rule client place (t ∷ ts) last (next, takes, rest) =
    ap (λ (l : List Turn). t ∷ l) (turns_tagged rule client next ts last rest)

pub for_tagged : {D : Type 0} (rule : HttpRule D) (client k : ℕ) (place : Place D)
    (turns : List Turn) (last : Place D) (taken : TakesAll rule place turns last)
    → (client == k) ≡ true
    → taken_for k (tagged rule client place turns last taken) ≡ tagged rule client place turns last taken
unfolding tagged
for_tagged rule client k place [] last taken same = refl
for_tagged {D} rule client k place (t ∷ ts) last (next, takes, rest) same =
    cond-true _ _ _ same
    ∙ ap (λ (l : List (Taken D)).
    record { client = client; turn = t; found = repository place; left = repository next } ∷ l)
    (for_tagged rule client k next ts last rest same)

pub for_other : {D : Type 0} (rule : HttpRule D) (client k : ℕ) (place : Place D)
    (turns : List Turn) (last : Place D) (taken : TakesAll rule place turns last)
    → (client == k) ≡ false → taken_for k (tagged rule client place turns last taken) ≡ []
unfolding tagged
for_other rule client k place [] last taken other = refl
for_other rule client k place (t ∷ ts) last (next, takes, rest) other =
    cond-false _ _ _ other ∙ for_other rule client k next ts last rest other

pub length_tagged : {D : Type 0} (rule : HttpRule D) (client : ℕ) (place : Place D)
    (turns : List Turn) (last : Place D) (taken : TakesAll rule place turns last)
    → length (tagged rule client place turns last taken) ≡ length turns
unfolding tagged
length_tagged rule client place [] last taken = refl
length_tagged rule client place (t ∷ ts) last (next, takes, rest) =
    ap (λ (n : ℕ). suc n) (length_tagged rule client next ts last rest)

pub follow_both : {D : Type 0} (rule : HttpRule D) (old : Repository D)
    (xs ys : List (Taken D)) (mid last : Repository D)
    → Follow rule old xs mid → Follow rule mid ys last → Follow rule old (xs ++ ys) last
follow_both rule old [] ys mid last first next_part = subst (λ r. Follow rule r ys last) first next_part
follow_both rule old (x ∷ xs) ys mid last (found, taken, rest) next_part =
    (found, taken, follow_both rule x.left xs ys mid last rest next_part)

-- ---- a session goes on among others

-- which repository it left doesn't count, since the next turn finds one
any_repository : {D : Type 0} (rule : HttpRule D) (requests : ℕ)
    (r s : Repository D) (bytes : List ℕ) (ts : List (Taken D)) (last : Place D)
    → TakesAmong rule (going requests r bytes) ts last → TakesAmong rule (going requests s bytes) ts last
any_repository rule requests r s bytes [] last taken = taken
any_repository rule requests r s bytes (t ∷ ts) last taken = taken

-- the first request of bytes is that of the bytes with more behind them
first_more : (bytes : List ℕ) (message : Message) (rest more : List ℕ)
    → IsFirstRequest bytes (Whole message rest) → IsFirstRequest (bytes ++ more) (Whole message (rest ++ more))
first_more bytes message rest more first =
    let E = ends_by_itself bytes message rest first in
    let joined : E.0 ++ (rest ++ more) ≡ bytes ++ more =
    sym (append_assoc E.0 rest more) ∙ ap (λ (l : List ℕ). l ++ more) (sym E.1) in
    subst (λ (l : List ℕ). IsFirstRequest l (Whole message (rest ++ more))) joined (E.2 (rest ++ more))

-- how a turn closes doesn't depend on how many requests may come, unless it is the last
closes_same : (n k : ℕ) (message : Message) → 1 < n → 1 < k → closes n message ≡ closes k message
closes_same n k message more most =
    let a : (n == 1) ≡ false = grind (arith, nat_tests) in
    let b : (k == 1) ≡ false = grind (arith, nat_tests) in
    ap (λ (c : Bool). message.close || c) (a ∙ sym b)

module _ {D : Type 0} (rule : HttpRule D) (client : ℕ) where
  -- ---- a visit that left its client open

  abbrev Opens : ℕ → Repository D → List ℕ → Turn → Place D → Type 0
  Opens n r bytes t next =
      (message : Message) × (rest : List ℕ) × (outcome : Outcome D Reply)
      × IsFirstRequest bytes (Whole message rest) × rule r message outcome
      × (t ≡ answered outcome (closes n message)) × (closes n message ≡ false)
      × (next ≡ going (n - 1) (after r outcome) rest)

  not_over : (r : Repository D) (end : End) (next : Place D)
      (ts : List Turn) (m : ℕ) (s : Repository D) (bytes : List ℕ)
      → next ≡ over r end → TakesAll rule next ts (going m s bytes) → ⊥
  not_over r end next [] m s bytes is taken = let e : going m s bytes ≡ over r end = taken ∙ is in cc
  not_over r end next (t ∷ ts) m s bytes is (mid, takes, rest) =
      let P : Place D → Type 0 = λ p. Takes rule p t mid in
      let no : Takes rule (over r end) t mid = subst P is takes in no

  opens_by : (n : ℕ) (r : Repository D) (bytes : List ℕ) (t : Turn)
      (next : Place D) (message : Message) (rest : List ℕ) (outcome : Outcome D Reply)
      → IsFirstRequest bytes (Whole message rest) → rule r message outcome
      → t ≡ answered outcome (closes n message) → (c : Bool) → closes n message ≡ c
      → next ≡ (if c then over (after r outcome) Closed else going (n - 1) (after r outcome) rest)
      → ((r : Repository D) (end : End) → next ≡ over r end → ⊥) → Opens n r bytes t next
  opens_by n r bytes t next message rest outcome first comes is true closed next_is never =
      absurd (never (after r outcome) Closed next_is)
  opens_by n r bytes t next message rest outcome first comes is false closed next_is never =
      (message, rest, outcome, first, comes, is, closed, next_is)

  opens : (n : ℕ) (r : Repository D) (bytes : List ℕ) (t : Turn) (next : Place D) (first : FirstRequest)
      → IsFirstRequest bytes first → TurnAt rule n r first t next
      → ((r : Repository D) (end : End) → next ≡ over r end → ⊥) → Opens n r bytes t next
  opens n r bytes t next Nothing is at never = absurd at
  opens n r bytes t next Bad is at never = absurd (never r Closed at.1)
  opens n r bytes t next TooLarge is at never = absurd (never r Closed at.1)
  opens n r bytes t next NotImplemented is at never = absurd (never r Closed at.1)
  opens n r bytes t next (Whole message rest) is (inl (outcome, comes, turn, next_is)) never =
      opens_by n r bytes t next message rest outcome is comes turn (closes n message) refl next_is never
  opens n r bytes t next (Whole message rest) is (inr at) never = absurd (never r NoMemory at.1)

  -- its turns, and then those of the later visits
  pub among_open : (place : Place D) (n : ℕ) (r : Repository D) (bytes : List ℕ) → place ≡ going n r bytes
      → (turns : List Turn) (m : ℕ) (s : Repository D) (taken : TakesAll rule place turns (going m s []))
      → (k : ℕ) (q : Repository D) (more : List ℕ) (ts : List (Taken D)) (last : Place D)
      → length turns < k → length turns < n → TakesAmong rule (going (k - length turns) s more) ts last
      → TakesAmong rule (going k q (bytes ++ more)) (tagged rule client place turns (going m s []) taken ++ ts) last
  unfolding tagged
  among_open place n r bytes at [] m s taken k q more ts last less fewer tail =
      let e : going m s [] ≡ going n r bytes = taken ∙ at in
      let none : bytes ≡ [] = cc in
      let none_taken : k - 0 ≡ k = omega arith in
      let here : TakesAmong rule (going k s more) ts last =
      subst (λ (j : ℕ). TakesAmong rule (going j s more) ts last) none_taken tail in
      subst (λ (l : List ℕ). TakesAmong rule (going k q (l ++ more)) ts last)
      (sym none) (any_repository rule k s q more ts last here)
  among_open place n r bytes at (t ∷ turns) m s (next, takes, rest) k q more ts last less fewer tail =
      let P : Place D → Type 0 = λ p. Takes rule p t next in
      let T : Takes rule (going n r bytes) t next = subst P at takes in
      let O : Opens n r bytes t next =
      opens n r bytes t next T.0 T.1 T.2 (λ r2 end is. not_over r2 end next turns m s [] is rest) in
      let message = O.0 in let behind_it = O.1 in let outcome = O.2 in
      let n_more : 1 < n = omega (arith, fewer) in
      let k_more : 1 < k = omega (arith, less) in
      let same : closes n message ≡ closes k message = closes_same n k message n_more k_more in
      let goes_on : going (k - 1) (after r outcome) (behind_it ++ more)
      ≡ behind k message (after r outcome) (behind_it ++ more) = sym (cond-false _ _ _ (sym same ∙ O.6)) in
      let step : Takes rule (going k r (bytes ++ more)) t (going (k - 1) (after r outcome) (behind_it ++ more)) = (
        Whole message (behind_it ++ more),
        first_more bytes message behind_it more O.3,
        inl (outcome, O.4, O.5 ∙ ap (λ (c : Bool). answered outcome c) same, goes_on),
      ) in
      let found : r ≡ repository place = sym (ap repository at) in
      let left : repository next ≡ after r outcome = ap repository O.7 in
      let count : k - length (t ∷ turns) ≡ k - 1 - length turns = omega arith in
      let next_part : TakesAmong rule (going (k - 1 - length turns) s more) ts last =
      subst (λ (j : ℕ). TakesAmong rule (going j s more) ts last) count tail in (
        going (k - 1) (after r outcome) (behind_it ++ more),
        subst (λ (w : Repository D).
            Takes rule (going k w (bytes ++ more)) t (going (k - 1) (after r outcome) (behind_it ++ more)))
            found step,
        left,
        among_open next (n - 1) (after r outcome) behind_it O.7 turns m s rest (k - 1)
            (after r outcome) more ts last (omega (arith, less)) (omega (arith, fewer)) next_part,
      )

  -- ---- the last visit

  -- the same end of a session
  abbrev EndsLike : Place D → Place D → Type 0
  EndsLike last like = (end : End) → EndsAs last end → EndsAs like end

  among_over : (place : Place D) (r : Repository D) (end : End)
      → place ≡ over r end → (turns : List Turn) (last : Place D) (taken : TakesAll rule place turns last)
      → TakesAmong rule place (tagged rule client place turns last taken) last
  unfolding tagged
  among_over place r end is [] last taken =
      let here : last ≡ over r end = taken ∙ is in
      let P : Place D → Type 0 = λ p. last ≡ with_repository (repository last) p in
      subst P (sym is)
      (let e : over r end ≡ over (repository last) end =
      ap (λ (w : Repository D). over w end) (sym (ap repository here)) in
      here ∙ e)
  among_over place r end is (t ∷ turns) last (next, takes, rest) =
      let P : Place D → Type 0 = λ p. Takes rule p t next in
      let no : Takes rule (over r end) t next = subst P is takes in absurd no

  pub record LastVisit (k : ℕ) (q : Repository D) (bytes : List ℕ) (last : Place D) (ts : List (Taken D)) : Type 0 where
    pub like : Place D
    pub session : TakesAmong rule (going k q bytes) ts like
    pub ends : EndsLike last like

  -- a turn behind which the session is over
  last_over : (place : Place D) (n : ℕ) (r : Repository D) (bytes : List ℕ) → place ≡ going n r bytes
      → (t : Turn) (next : Place D) (turns : List Turn) (last : Place D) (rest : TakesAll rule next turns last)
      → (k : ℕ) (q w : Repository D) (end : End) → next ≡ over w end → Takes rule (going k r bytes) t next
      → LastVisit k q bytes last
      (record { client = client; turn = t; found = repository place; left = repository next }
      ∷ tagged rule client next turns last rest)
  last_over place n r bytes at t next turns last rest k q w end is takes = record {
    like = last;
    session = (
      next,
      subst (λ (z : Repository D). Takes rule (going k z bytes) t next) (sym (ap repository at)) takes,
      refl,
      among_over next w end is turns last rest,
    );
    ends = λ e h. h;
  }

  module _ (n k : ℕ) (n_more : 1 < n) (k_more : 1 < k) (place : Place D) (r q : Repository D)
      (bytes : List ℕ) (at : place ≡ going n r bytes) (t : Turn) (next : Place D)
      (turns : List Turn) (last : Place D) (rest : TakesAll rule next turns last)
      (onward : (s : Repository D) (behind_it : List ℕ) → next ≡ going (n - 1) s behind_it
      → LastVisit (k - 1) s behind_it last (tagged rule client next turns last rest)) where
    abbrev Goal : Type 0
    Goal =
        LastVisit k q bytes last
        (record { client = client; turn = t; found = repository place; left = repository next }
        ∷ tagged rule client next turns last rest)

    last_by : (message : Message) (behind_it : List ℕ) (outcome : Outcome D Reply)
        → IsFirstRequest bytes (Whole message behind_it) → rule r message outcome
        → t ≡ answered outcome (closes n message)
        → (c : Bool) → closes n message ≡ c
        → next ≡ (if c then over (after r outcome) Closed else going (n - 1) (after r outcome) behind_it) → Goal
    last_by message behind_it outcome first comes is true closed next_is =
        let same : closes n message ≡ closes k message = closes_same n k message n_more k_more in
        let closed_here : over (after r outcome) Closed ≡ behind k message (after r outcome) behind_it =
        sym (cond-true _ _ _ (sym same ∙ closed)) in
        last_over place n r bytes at t next turns last rest k q (after r outcome) Closed next_is (
          Whole message behind_it,
          first,
          inl (outcome, comes, is ∙ ap (λ (c : Bool). answered outcome c) same, next_is ∙ closed_here),
        )
    last_by message behind_it outcome first comes is false closed next_is =
        let same : closes n message ≡ closes k message = closes_same n k message n_more k_more in
        let goes_on : going (k - 1) (after r outcome) behind_it ≡ behind k message (after r outcome) behind_it =
        sym (cond-false _ _ _ (sym same ∙ closed)) in
        let step : Takes rule (going k r bytes) t (going (k - 1) (after r outcome) behind_it) = (
          Whole message behind_it,
          first,
          inl (outcome, comes, is ∙ ap (λ (c : Bool). answered outcome c) same, goes_on),
        ) in
        let O = onward (after r outcome) behind_it next_is in
        record {
          like = O.like;
          session = (
            going (k - 1) (after r outcome) behind_it,
            subst (λ (z : Repository D). Takes rule (going k z bytes) t (going (k - 1) (after r outcome) behind_it))
                (sym (ap repository at)) step,
            ap repository next_is,
            O.session,
          );
          ends = O.ends;
        }

    last_turn : (first : FirstRequest) → IsFirstRequest bytes first → TurnAt rule n r first t next → Goal
    last_turn Nothing is turn = absurd turn
    last_turn Bad is turn = last_over place n r bytes at t next turns last rest k q r Closed turn.1 (Bad, is, turn)
    last_turn TooLarge is turn =
        last_over place n r bytes at t next turns last rest k q r Closed turn.1 (TooLarge, is, turn)
    last_turn NotImplemented is turn =
        last_over place n r bytes at t next turns last rest k q r Closed turn.1 (NotImplemented, is, turn)
    last_turn (Whole message behind_it) is (inl (outcome, comes, turn, next_is)) =
        last_by message behind_it outcome is comes turn (closes n message) refl next_is
    last_turn (Whole message behind_it) is (inr turn) =
        last_over place n r bytes at t next turns last rest k q r NoMemory turn.1
        (Whole message behind_it, is, inr turn)

  pub among_last : (place : Place D) (n : ℕ) (r : Repository D) (bytes : List ℕ)
      → place ≡ going n r bytes → (turns : List Turn) (last : Place D) (taken : TakesAll rule place turns last)
      → (k : ℕ) (q : Repository D) → length turns < k → length turns < n
      → LastVisit k q bytes last (tagged rule client place turns last taken)
  unfolding tagged
  among_last place n r bytes at [] last taken k q less fewer = record {
    like = going k q bytes;
    session = refl;
    ends = λ end h. (let P : Place D → Type 0 = λ p. EndsAs p end in
        let e : EndsAs (going n r bytes) end = subst P (taken ∙ at) h in e);
  }
  among_last place n r bytes at (t ∷ turns) last (next, takes, rest) k q less fewer =
      let P : Place D → Type 0 = λ p. Takes rule p t next in
      let T : Takes rule (going n r bytes) t next = subst P at takes in
      last_turn n k (omega (arith, fewer)) (omega (arith, less)) place r q bytes at t next turns last rest
      (λ s behind_it is.
      among_last next (n - 1) s behind_it is turns last rest (k - 1) s (omega (arith, less)) (omega (arith, fewer)))
      T.0 T.1 T.2
