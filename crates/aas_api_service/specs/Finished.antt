-- What is answered to a refusal, and by what became of a command. This profile's own rule.
use Rattle.std.specs.Prelude.{◌≡◌, ◌≢◌, ◌⊎◌, Result, Ok, Err}
use Rattle.aas_command.specs.declared.refusal.Refusal.{Refusal}
use Rattle.aas_command.specs.declared.refusal.Refusal.TheVariants as refusal
use Rattle.aas_http.specs.declared.replies.Reply.{Reply}
use Rattle.aas_repo.specs.declared.repo.Done.{Done}
use Rattle.aas_answer.specs.Plans.{plan_text}
use Rattle.aas_answer.specs.declared.plans.Plan.{Plan}
use Rattle.aas_session.specs.WholeReply.{whole_replies}
use Rattle.aas_session.specs.declared.machine.Answer.{Answer}
use Rattle.aas_session.specs.declared.machine.Stop.{Stop}
use Rattle.aas_session.specs.declared.machine.Stop.TheVariants as stop
use Rattle.aas_store.specs.Documents.{Documents}
use Rattle.aas_api_service.specs.Replies.{refusal_reply}

-- what is answered, with what is poured behind it from these documents
abbrev pub whole_of : Documents → Result (Answer Plan) Stop → Result Reply Stop
whole_of d answer = whole_replies (plan_text d) answer

-- it is this reply, or memory was refused
abbrev pub IsReply : Reply → Result Reply Stop → Type 0
IsReply reply answer = (answer ≡ Err stop.NoMemory) ⊎ (answer ≡ Ok reply)

-- the reply of a refusal, or want of memory
abbrev pub IsRefused : Refusal → Result Reply Stop → Type 0
IsRefused why answer = (answer ≡ Err stop.NoMemory) ⊎ ((why ≢ refusal.NoMemory) × (answer ≡ Ok (refusal_reply why)))

-- The reply that was made for success, the fault of the keeper, or a refusal.
abbrev pub Finishes : Result Done Refusal → Reply → Result Reply Stop → Type 0
Finishes (Ok done) reply answer = answer ≡ Ok reply
Finishes (Err why) reply answer =
    ((why ≡ refusal.StorageFault) × (answer ≡ Err stop.StorageFault))
    ⊎ ((why ≢ refusal.StorageFault) × IsRefused why answer)
