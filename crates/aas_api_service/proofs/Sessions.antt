-- What the turns of a session leave true.
use Rattle.std.proofs.Common.{◌≡◌, ◌⊎◌, inl, inr, ℕ, ◌-◌, Bool, true, false, List, [], ◌∷◌, length, Some, None, Ok, Err}
use Rattle.std.proofs.Common.{sym, subst}
use Rattle.std.specs.Prelude.{if◌then◌else◌}
use Rattle.aas_command.specs.Commands.{IsWellFormed, payload_of}
use Rattle.aas_command.specs.Encoding.{HasFields}
use Rattle.aas_command.specs.declared.command.Command.{Command}
use Rattle.aas_http.specs.FirstRequest.{Message, FirstRequest, Nothing, Bad, TooLarge, NotImplemented, Whole}
use Rattle.aas_http.specs.declared.replies.Reply.{Reply}
use Rattle.aas_rule.specs.Rule.{Repository, Room, Outcome, after}
use Rattle.aas_session.specs.Session.{Closed, Place, going, over, start, repository, Turn, closes, TurnAt}
use Rattle.aas_session.specs.Session.{Takes, TakesAll}
use Rattle.aas_store.specs.Documents.{Documents}
use Rattle.aas_step.specs.Causes.{Cause}
use Rattle.aas_step.specs.Laws.{StaysValid}
use Rattle.aas_step.specs.Step.{accepted, refused, Steps}
use Rattle.aas_step.specs.Valid.{AreValid}
use Rattle.aas_answer.specs.Answers.{answer_of}
use Rattle.aas_api_service.specs.Replies.{refusal_reply}
use Rattle.aas_api.specs.Submodels.{submodel_of}
use Rattle.aas_api.specs.declared.ask.Ask.{Ask}
use Rattle.aas_api.specs.declared.ask.Ask.TheVariants.{Act, Answer, Describe}
use Rattle.aas_api_service.specs.Laws.{SessionsStayValid}
use Rattle.aas_api_service.specs.Turns.{AskComesTo, CallComesTo, ComesUnless, Turns, answer_reply, outcome_of}
use Rattle.aas_api_service.specs.Turns.{unchanged, unreached}
use Rattle.aas_api_service.specs.WellFormed.{IsWellFormedAsk}
use Rattle.aas_api_service.proofs.WellFormed.{asks_well}

-- what a request keeps true of a repository, a session keeps true
module _ (room : Room) (Keeps : Repository Documents → Type 0)
    (by_outcome : (r : Repository Documents) (m : Message) (outcome : Outcome Documents Reply)
    → Turns room r m outcome → Keeps r
    → Keeps (after r outcome)) where
  abbrev Stays : Place Documents → Type 0
  Stays place = Keeps (repository place)

  behind_stays : (b : Bool) (r : Repository Documents) (requests : ℕ) (rest : List ℕ) → Keeps r
      → Stays (if b then over r Closed else going (requests - 1) r rest)
  behind_stays true r requests rest holds = holds
  behind_stays false r requests rest holds = holds

  turn_stays : (requests : ℕ) (r : Repository Documents) (first : FirstRequest) (turn : Turn) (next : Place Documents)
      → TurnAt (Turns room) requests r first turn next → Keeps r → Stays next
  turn_stays requests r Nothing turn next at holds = absurd at
  turn_stays requests r Bad turn next (is, next_is) holds = subst Stays (sym next_is) holds
  turn_stays requests r TooLarge turn next (is, next_is) holds = subst Stays (sym next_is) holds
  turn_stays requests r NotImplemented turn next (is, next_is) holds = subst Stays (sym next_is) holds
  turn_stays requests r (Whole message rest) turn next (inl (outcome, comes, is, next_is)) holds =
      let behind = behind_stays (closes requests message)
      (after r outcome) requests rest (by_outcome r message outcome comes holds) in
      subst Stays (sym next_is) behind
  turn_stays requests r (Whole message rest) turn next (inr (is, next_is)) holds = subst Stays (sym next_is) holds

  step_stays : (place : Place Documents) (turn : Turn) (next : Place Documents)
      → Takes (Turns room) place turn next → Stays place
      → Stays next
  step_stays (over r end) turn next taken holds = absurd taken
  step_stays (going requests r bytes) turn next (first, is, at) holds = turn_stays requests r first turn next at holds

  turns_stay : (place : Place Documents) (turns : List Turn) (last : Place Documents)
      → TakesAll (Turns room) place turns last → Stays place
      → Stays last
  turns_stay place [] last taken holds = subst Stays (sym taken) holds
  turns_stay place (turn ∷ turns) last (next, first, rest) holds =
      turns_stay next turns last rest (step_stays place turn next first holds)

  pub session_keeps : (old : Repository Documents) (bytes : List ℕ) (turns : List Turn) (last : Place Documents)
      → TakesAll (Turns room) (start old bytes) turns last → Keeps old → Keeps (repository last)
  session_keeps old bytes turns last taken holds = turns_stay (start old bytes) turns last taken holds

-- ---- outcomes

module _ (room : Room) where
  -- nothing changes, or a command that is well formed is accepted
  abbrev pub Turned : Repository Documents → Outcome Documents Reply → Type 0
  Turned r outcome =
      ((reply : Reply) × (outcome ≡ unchanged r reply))
      ⊎ ((c : Command) × (new : Documents) × IsWellFormed c × Steps room r c (accepted new) × HasFields c
      × (outcome ≡ outcome_of r c (accepted new)))

  by_ask : (r : Repository Documents) (ask : Ask) (outcome : Outcome Documents Reply)
      → IsWellFormedAsk ask → AskComesTo room r ask outcome
      → Turned r outcome
  unfolding AskComesTo
  by_ask r (Act c) outcome well (accepted new, steps, fields, is) = inr (c, new, well, steps, fields, is)
  by_ask r (Act c) outcome well (refused why, steps, read, is) = inl (refusal_reply why, is)
  by_ask r (Answer q) outcome well is = inl (answer_reply q (answer_of r.documents q), is)
  by_ask r (Describe m) outcome well (Ok c, by, (takes, (accepted new, steps, fields, is))) =
      inr (c, new, takes, steps, fields, is)
  by_ask r (Describe m) outcome well (Ok c, by, (takes, (refused why, steps, read, is))) = inl (refusal_reply why, is)
  by_ask r (Describe m) outcome well (Err why, by, is) = inl (refusal_reply why, is)

  by_cause : (cause : Cause) (r : Repository Documents) (ask : Ask) (outcome : Outcome Documents Reply)
      → IsWellFormedAsk ask
      → ComesUnless cause room r ask outcome → Turned r outcome
  by_cause (Some why) r ask outcome well is = inl (refusal_reply why, is)
  by_cause None r ask outcome well comes = by_ask r ask outcome well comes

  pub turned : (r : Repository Documents) (m : Message) (outcome : Outcome Documents Reply)
      → Turns room r m outcome → Turned r outcome
  unfolding Turns CallComesTo
  turned r m outcome (Ok call, asked, comes) =
      let cause = unreached r.documents call.through (submodel_of call.ask) in
      by_cause cause r call.ask outcome (asks_well m call.through call.ask asked) comes
  turned r m outcome (Err why, asked, is) = inl (refusal_reply why, is)

-- ---- constraints

abbrev HasValid : Outcome Documents Reply → Type 0
HasValid outcome = AreValid outcome.documents

module _ (stays_valid : StaysValid) (room : Room) where
  by_turn : (r : Repository Documents) (outcome : Outcome Documents Reply)
      → Turned room r outcome → AreValid r.documents → HasValid outcome
  unfolding Steps
  by_turn r outcome (inl (reply, is)) valid = subst HasValid (sym is) valid
  by_turn r outcome (inr (c, new, well, steps, fields, is)) valid =
      subst HasValid (sym is) (stays_valid (room r.records (length (payload_of c))) r.documents new c well valid steps)

  outcome_valid : (r : Repository Documents) (m : Message) (outcome : Outcome Documents Reply) → Turns room r m outcome
      → AreValid r.documents → AreValid outcome.documents
  outcome_valid r m outcome turns valid = by_turn r outcome (turned room r m outcome turns) valid

pub sessions_stay_valid : StaysValid → SessionsStayValid
sessions_stay_valid stays_valid room old bytes turns last taken valid =
    session_keeps room (λ r. AreValid r.documents) (outcome_valid stays_valid room) old bytes turns last taken valid
