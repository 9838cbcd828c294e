-- What is given of an answer: its reply, and what is poured behind the reply's body. This profile's own rule.
use Rattle.std.specs.Prelude.{◌≡◌, ◌++◌, ℕ, List, [], length, Option, Some, None, IsSome, Result, Ok, Err}
use Rattle.aas_http.specs.declared.replies.Reply.{Reply}
use Rattle.aas_session.specs.declared.machine.Answer.{Answer}

-- what is poured by a plan, if there is one
abbrev pub poured_of : {P : Type 0} → (P → List ℕ) → Option P → List ℕ
poured_of poured None = []
poured_of poured (Some plan) = poured plan

-- the reply with what is poured behind its body
abbrev pub whole_reply : {P : Type 0} → (P → List ℕ) → Answer P → Reply
whole_reply poured answer = record answer.reply { body = answer.reply.body ++ poured_of poured answer.plan; later = 0 }

-- the same of an answer that may fail
abbrev pub whole_replies : {P E : Type 0} → (P → List ℕ) → Result (Answer P) E → Result Reply E
whole_replies poured (Ok answer) = Ok (whole_reply poured answer)
whole_replies poured (Err e) = Err e

-- The reply says how many bytes are poured behind its body, and only a success has a plan.
pub record IsMeasured {P : Type 0} (poured : P → List ℕ) (answer : Answer P) : Type 0 where
  pub counted : answer.reply.later ≡ length (poured_of poured answer.plan)
  pub status : IsSome answer.plan → answer.reply.status ≡ 200
