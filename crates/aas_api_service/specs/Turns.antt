-- What a request comes to in a repository (IDTA-01002-3-0, HTTP/REST API): it is refused, or a question is answered, or
-- a command is done. Which status and which body a reply has is this profile's own rule.
use Rattle.std.specs.Prelude.{◌≡◌, ◌^◌, ℕ, nat_lt, List, [], ◌∷◌, length, false, Option, Some, None, Result, Ok, Err}
use Rattle.std.specs.Prelude.{⊤, if◌then◌else◌}
use Rattle.std.specs.Option.{option_map_or}
use Rattle.aas_command.specs.Commands.{IsWellFormed, created_text, payload_of}
use Rattle.aas_command.specs.Encoding.{HasFields}
use Rattle.aas_command.specs.declared.command.Command.{Command}
use Rattle.aas_command.specs.declared.refusal.Refusal.{Refusal}
use Rattle.aas_http.specs.FirstRequest.{Message}
use Rattle.aas_http.specs.declared.replies.Reply.{Reply}
use Rattle.aas_rule.specs.Rule.{Repository, Room, Rule, Outcome}
use Rattle.aas_store.specs.Documents.{Documents}
use Rattle.aas_step.specs.Causes.{Cause, first_of, reference_causes}
use Rattle.aas_step.specs.Step.{Result as StepResult, accepted, refused, Steps}
use Rattle.aas_answer.specs.Answers.{answer_of}
use Rattle.aas_answer.specs.Plans.{is_planned}
use Rattle.aas_question.specs.declared.question.Question.{Question}
use Rattle.aas_api.specs.Asked.{Called, IsAsked}
use Rattle.aas_api_service.specs.Described.{Described, IsDescribed}
use Rattle.aas_api_service.specs.Replies.{refusal_reply, reply_too_long}
use Rattle.aas_api.specs.Submodels.{submodel_of}
use Rattle.aas_api.specs.declared.ask.Ask.{Ask}
use Rattle.aas_api.specs.declared.ask.Ask.TheVariants.{Act, Answer, Describe}
use Rattle.aas_api.specs.declared.ask.Call.{Call}

-- ---- replies

abbrev pub reply_with : ℕ → List ℕ → Reply
reply_with status body = record { status = status; body = body; later = 0; allow = []; close = false }

-- 200 with the body, unless it has 2^64 bytes or more
abbrev pub counted_reply : List ℕ → Reply
counted_reply body = if nat_lt (length body) (2 ^ 64) then reply_with 200 body else reply_too_long

-- 200 with what is asked for, or the reply of the refusal; a body that is planned is counted first
abbrev pub answer_reply : Question → Result (List ℕ) Refusal → Reply
answer_reply q (Ok body) = if is_planned q then counted_reply body else reply_with 200 body
answer_reply q (Err refusal) = refusal_reply refusal

-- the reply to a command that is accepted: 201 with what it creates, or else 204
abbrev pub success_reply : Command → Reply
success_reply c = option_map_or (reply_with 201) (created_text c) (reply_with 204 [])

-- ---- outcomes

-- a reply, and nothing changes
abbrev pub unchanged : Repository Documents → Reply → Outcome Documents Reply
unchanged r reply = record { reply = reply; documents = r.documents; kept = [] }

-- what a command comes to
abbrev pub outcome_of : Repository Documents → Command → StepResult → Outcome Documents Reply
outcome_of r c (refused refusal) = unchanged r (refusal_reply refusal)
outcome_of r c (accepted new) = record { reply = success_reply c; documents = new; kept = payload_of c ∷ [] }

-- a command that is accepted can be read from the payload that is kept
abbrev pub CanBeRead : Command → StepResult → Type 0
CanBeRead c (refused refusal) = ⊤
CanBeRead c (accepted new) = HasFields c

-- a command comes to
abbrev pub ActComesTo : Room → Repository Documents → Command → Outcome Documents Reply → Type 0
ActComesTo room r c outcome =
    (result : StepResult) × Steps room r c result × CanBeRead c result × (outcome ≡ outcome_of r c result)

-- the command by which metadata is put, which is well formed, comes to; or the reply of the refusal
abbrev pub DescribedComesTo : Room → Repository Documents → Described → Outcome Documents Reply → Type 0
DescribedComesTo room r (Err refusal) outcome = outcome ≡ unchanged r (refusal_reply refusal)
DescribedComesTo room r (Ok c) outcome = IsWellFormed c × ActComesTo room r c outcome

-- what is asked comes to
unfoldable pub AskComesTo : Room → Repository Documents → Ask → Outcome Documents Reply → Type 0
AskComesTo room r (Answer q) outcome = outcome ≡ unchanged r (answer_reply q (answer_of r.documents q))
AskComesTo room r (Act c) outcome = ActComesTo room r c outcome
AskComesTo room r (Describe m) outcome =
    (command : Described) × IsDescribed r.documents m command × DescribedComesTo room r command outcome

-- why a submodel isn't reached through a shell, if it is asked about through one
abbrev pub unreached : Documents → Option (List ℕ) → Option (List ℕ) → Cause
unreached d (Some shell) (Some submodel) = first_of (reference_causes d shell submodel)
unreached d shell submodel = None

-- so, where that is no cause
abbrev pub ComesUnless : Cause → Room → Repository Documents → Ask → Outcome Documents Reply → Type 0
ComesUnless (Some refusal) room r ask outcome = outcome ≡ unchanged r (refusal_reply refusal)
ComesUnless None room r ask outcome = AskComesTo room r ask outcome

-- what is asked, through a shell or not, comes to
unfoldable pub CallComesTo : Room → Repository Documents → Call → Outcome Documents Reply → Type 0
CallComesTo room r call = ComesUnless (unreached r.documents call.through (submodel_of call.ask)) room r call.ask

abbrev pub CalledComesTo : Room → Repository Documents → Called → Outcome Documents Reply → Type 0
CalledComesTo room r (Ok call) outcome = CallComesTo room r call outcome
CalledComesTo room r (Err refusal) outcome = outcome ≡ unchanged r (refusal_reply refusal)

-- a request, where the keeper has this rule for room
unfoldable pub Turns : Room → Rule Documents Message Reply
Turns room r message outcome = (called : Called) × IsAsked message called × CalledComesTo room r called outcome
