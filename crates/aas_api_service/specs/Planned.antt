-- When something is poured behind a reply's body. This profile's own rule.
use Rattle.std.specs.Prelude.{◌≡◌, ◌↔◌, Bool, true, false, [], IsSome}
use Rattle.aas_answer.specs.Plans.{is_planned}
use Rattle.aas_answer.specs.declared.plans.Plan.{Plan}
use Rattle.aas_api.specs.declared.ask.Ask.{Ask}
use Rattle.aas_api.specs.declared.ask.Ask.TheVariants as ask
use Rattle.aas_session.specs.declared.machine.Answer.{Answer}

-- whether it is a question whose answers are planned
abbrev pub is_planned_ask : Ask → Bool
is_planned_ask (ask.Act command) = false
is_planned_ask (ask.Answer question) = is_planned question
is_planned_ask (ask.Describe metadata) = false

-- There is a plan exactly where what was asked is planned and was answered 200, and the reply's own body is empty then.
pub record HasPlan (planned : Bool) (answer : Answer Plan) : Type 0 where
  pub exactly : IsSome answer.plan ↔ ((planned ≡ true) × (answer.reply.status ≡ 200))
  pub bare : IsSome answer.plan → answer.reply.body ≡ []
