-- What a machine answers to a request, or to what a request asks for.
use Rattle.std.specs.Prelude.{◌≡◌, ℕ, List, [], Result, Ok, Err}
use Rattle.aas_http.specs.declared.replies.Reply.{Reply}
use Rattle.aas_rule.specs.Rule.{Repository, Outcome, Rule, HasCommand, after}
use Rattle.aas_session.specs.declared.machine.Stop.{Stop}
use Rattle.aas_session.specs.declared.machine.Stop.TheVariants.{NoMemory, StorageFault}
use Rattle.aas_rule.specs.State.{State, Holds, IsFaulted}

-- An answer has an outcome of the request, and its command, where one was accepted, is kept. For want of memory nothing
-- changes. Where the keeper failed, a command was accepted,
-- the documents are those of its outcome, and it is kept or not.
abbrev pub Answers : {D Message I : Type 0} → Rule D Message Reply → (I → List (List ℕ) → Type 0)
    → Repository D → Message → ℕ → State D I → Result Reply Stop → Type 0
Answers {D} rule stands_for r message from now (Ok reply) =
    (outcome : Outcome D Reply) × rule r message outcome × (reply ≡ outcome.reply)
    × Holds stands_for r.records outcome.kept (after r outcome) from now
Answers rule stands_for r message from now (Err NoMemory) = Holds stands_for r.records [] r from now
Answers {D} rule stands_for r message from now (Err StorageFault) =
    (outcome : Outcome D Reply) × rule r message outcome × HasCommand outcome
    × IsFaulted stands_for r.records [] outcome.kept outcome.documents from now
