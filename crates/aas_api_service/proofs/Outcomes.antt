-- Answers have an outcome of what is asked.
use Rattle.std.proofs.Common.{◌≡◌, inl, inr, ℕ, List, [], Some, None, Result, Ok, Err, refl, sym, subst}
use Rattle.std.proofs.lemmas.List.{append-nil}
use Rattle.aas_command.specs.Commands.{IsWellFormed, payload_of}
use Rattle.aas_command.specs.declared.command.Command.{Command}
use Rattle.aas_question.specs.declared.question.Question.{Question}
use Rattle.aas_command.specs.declared.refusal.Refusal.{Refusal}
use Rattle.aas_http.specs.FirstRequest.{Message}
use Rattle.aas_http.specs.declared.replies.Reply.{Reply}
use Rattle.aas_outside.proofs.Turns.{in_turn_none}
use Rattle.aas_rule.specs.Rule.{Repository, Room, after}
use Rattle.aas_rule.specs.State.{State, Holds, IsSettledState, repository_of}
use Rattle.aas_store.specs.Documents.{Documents}
use Rattle.aas_step.specs.Step.{accepted, refused}
use Rattle.aas_repo.specs.Acts.{Acts}
use Rattle.aas_answer.specs.Answers.{answer_of}
use Rattle.aas_repo.specs.declared.repo.Done.{Done}
use Rattle.aas_session.specs.Answers.{Answers}
use Rattle.aas_session.specs.declared.machine.Stop.{Stop}
use Rattle.aas_session.specs.declared.machine.Stop.TheVariants as stop
use Rattle.aas_api.specs.Asked.{IsAsked, OrNoMemory}
use Rattle.aas_api_service.specs.Replies.{refusal_reply}
use Rattle.aas_api.specs.Submodels.{submodel_of}
use Rattle.aas_api.specs.declared.ask.Ask.TheVariants.{Act, Answer, Describe}
use Rattle.aas_api.specs.declared.ask.Metadata.{Metadata}
use Rattle.aas_api.specs.declared.ask.Call.{Call}
use Rattle.aas_api_service.proofs.WellDescribed.{OrNoCommand}
use Rattle.aas_api_service.specs.Finished.{Finishes, IsRefused, IsReply}
use Rattle.aas_api_service.specs.Turns.{AskComesTo, CallComesTo, Turns, answer_reply, outcome_of, success_reply}
use Rattle.aas_api_service.specs.Turns.{unchanged, unreached}

-- what was read is what is asked for
pub asked_of : (m : Message) (call : Call) → OrNoMemory (IsAsked m) (Ok call) → IsAsked m (Ok call)
asked_of m call (inl none) = absurd (cc)
asked_of m call (inr asked) = asked

module _ {I : Type 0} (room : Room) (stands_for : I → List (List ℕ) → Type 0) where
  -- nothing has been done
  pub holds_still : (state : State Documents I) (records : List (List ℕ)) → IsSettledState stands_for state records
      → Holds stands_for records [] (repository_of state records) state.moment state
  holds_still state records settled = record {
    documents = refl;
    kept = settled.told;
    in_turn = in_turn_none stands_for state.left_at state.moment records settled.alone;
  }

  -- nor by an outcome that changes nothing
  holds_unchanged : (r : Repository Documents) (reply : Reply) (from : ℕ) (now : State Documents I)
      → Holds stands_for r.records [] r from now → Holds stands_for r.records [] (after r (unchanged r reply)) from now
  holds_unchanged r reply from now still = record {
    documents = still.documents;
    kept = subst now.kept (sym (append-nil r.records)) still.kept;
    in_turn = still.in_turn;
  }

  -- ---- questions

  pub answers_question : (state : State Documents I) (records : List (List ℕ))
      → IsSettledState stands_for state records → (q : Question)
      (answer : Result Reply Stop) → IsReply (answer_reply q (answer_of state.documents q)) answer
      → Answers (AskComesTo room) stands_for (repository_of state records) (Answer q) state.moment state answer
  unfolding AskComesTo
  answers_question state records settled q answer (inl none) =
      let P : Result Reply Stop → Type 0 =
      λ a. Answers (AskComesTo room) stands_for (repository_of state records) (Answer q) state.moment state a in
      subst P (sym none) (holds_still state records settled)
  answers_question state records settled q answer (inr is) =
      let P : Result Reply Stop → Type 0 =
      λ a. Answers (AskComesTo room) stands_for (repository_of state records) (Answer q) state.moment state a in
      let r = repository_of state records in
      let reply = answer_reply q (answer_of state.documents q) in
      subst P (sym is)
      (unchanged r reply, refl, refl, holds_unchanged r reply state.moment state (holds_still state records settled))

  -- ---- commands

  pub answers_command : (r : Repository Documents) (from : ℕ)
      (now : State Documents I) (c : Command) (done : Result Done Refusal)
      → Acts room stands_for r c from now done → (answer : Result Reply Stop) → Finishes done (success_reply c) answer
      → Answers (AskComesTo room) stands_for r (Act c) from now answer
  unfolding AskComesTo
  answers_command r from now c (Ok done) acts answer is =
      let P : Result Reply Stop → Type 0 = λ a. Answers (AskComesTo room) stands_for r (Act c) from now a in
      let new = acts.1.new in
      subst P (sym is)
      (outcome_of r c (accepted new), (accepted new, acts.1.steps, acts.1.fields, refl), refl, acts.1.holds)
  answers_command r from now c (Err why) acts answer (inl (fault, is)) =
      let P : Result Reply Stop → Type 0 = λ a. Answers (AskComesTo room) stands_for r (Act c) from now a in
      let torn = acts.0 fault in
      subst P (sym is) (
        outcome_of r c (accepted torn.new),
        (accepted torn.new, torn.steps, torn.fields, refl),
        (payload_of c, refl),
        torn.faulted,
      )
  answers_command r from now c (Err why) acts answer (inr (no_fault, inl is)) =
      let P : Result Reply Stop → Type 0 = λ a. Answers (AskComesTo room) stands_for r (Act c) from now a in
      subst P (sym is) (acts.1 no_fault)
  answers_command r from now c (Err why) acts answer (inr (no_fault, inr (some, is))) =
      let P : Result Reply Stop → Type 0 = λ a. Answers (AskComesTo room) stands_for r (Act c) from now a in
      let still = holds_unchanged r (refusal_reply why) from now (acts.1 no_fault) in
      subst P (sym is) (outcome_of r c (refused why), (refused why, acts.2 no_fault some, tt, refl), refl, still)

  -- ---- metadata

  -- what the command comes to by which it is put
  pub answers_described : (r : Repository Documents) (from : ℕ)
      (now : State Documents I) (m : Metadata) (c : Command) (answer : Result Reply Stop)
      → OrNoCommand r.documents m (Ok c) → IsWellFormed c
      → Answers (AskComesTo room) stands_for r (Act c) from now answer
      → Answers (AskComesTo room) stands_for r (Describe m) from now answer
  unfolding AskComesTo
  answers_described r from now m c answer (inl none) well answers = absurd (cc)
  answers_described r from now m c (Ok reply) (inr by) well (outcome, comes, is, holds) =
      (outcome, (Ok c, by, (well, comes)), is, holds)
  answers_described r from now m c (Err stop.NoMemory) (inr by) well holds = holds
  answers_described r from now m c (Err stop.StorageFault) (inr by) well (outcome, comes, command, faulted) =
      (outcome, (Ok c, by, (well, comes)), command, faulted)

  pub answers_undescribed : (state : State Documents I) (records : List (List ℕ))
      → IsSettledState stands_for state records → (m : Metadata)
      (why : Refusal) (answer : Result Reply Stop) → OrNoCommand state.documents m (Err why) → IsRefused why answer
      → Answers (AskComesTo room) stands_for (repository_of state records) (Describe m) state.moment state answer
  unfolding AskComesTo
  answers_undescribed state records settled m why answer by (inl none) =
      let P : Result Reply Stop → Type 0 =
      λ a. Answers (AskComesTo room) stands_for (repository_of state records) (Describe m) state.moment state a in
      subst P (sym none) (holds_still state records settled)
  answers_undescribed state records settled m why answer (inl none) (inr (some, is)) = absurd (some (cc))
  answers_undescribed state records settled m why answer (inr by) (inr (some, is)) =
      let P : Result Reply Stop → Type 0 =
      λ a. Answers (AskComesTo room) stands_for (repository_of state records) (Describe m) state.moment state a in
      let r = repository_of state records in
      let still = holds_unchanged r (refusal_reply why) state.moment state (holds_still state records settled) in
      subst P (sym is) (unchanged r (refusal_reply why), (Err why, by, refl), refl, still)

  -- ---- calls

  -- no shell is in the way
  pub answers_reached : (r : Repository Documents) (from : ℕ)
      (now : State Documents I) (call : Call) (answer : Result Reply Stop)
      → unreached r.documents call.through (submodel_of call.ask) ≡ None
      → Answers (AskComesTo room) stands_for r call.ask from now answer
      → Answers (CallComesTo room) stands_for r call from now answer
  unfolding CallComesTo
  answers_reached r from now call (Ok reply) reached (outcome, comes, is, holds) =
      (outcome, rw reached comes, is, holds)
  answers_reached r from now call (Err stop.NoMemory) reached holds = holds
  answers_reached r from now call (Err stop.StorageFault) reached (outcome, comes, command, faulted) =
      (outcome, rw reached comes, command, faulted)

  pub answers_unreached : (state : State Documents I) (records : List (List ℕ))
      → IsSettledState stands_for state records → (call : Call)
      (why : Refusal) (answer : Result Reply Stop)
      → unreached state.documents call.through (submodel_of call.ask) ≡ Some why
      → IsRefused why answer
      → Answers (CallComesTo room) stands_for (repository_of state records) call state.moment state answer
  unfolding CallComesTo
  answers_unreached state records settled call why answer is (inl none) =
      let P : Result Reply Stop → Type 0 =
      λ a. Answers (CallComesTo room) stands_for (repository_of state records) call state.moment state a in
      subst P (sym none) (holds_still state records settled)
  answers_unreached state records settled call why answer cause (inr (some, is)) =
      let P : Result Reply Stop → Type 0 =
      λ a. Answers (CallComesTo room) stands_for (repository_of state records) call state.moment state a in
      let r = repository_of state records in
      let still = holds_unchanged r (refusal_reply why) state.moment state (holds_still state records settled) in
      subst P (sym is) (unchanged r (refusal_reply why), rw cause refl, refl, still)

  -- ---- requests

  pub answers_asked : (r : Repository Documents) (from : ℕ) (now : State Documents I) (m : Message) (call : Call)
      (answer : Result Reply Stop) → IsAsked m (Ok call) → Answers (CallComesTo room) stands_for r call from now answer
      → Answers (Turns room) stands_for r m from now answer
  unfolding Turns
  answers_asked r from now m call (Ok reply) asked (outcome, comes, is, holds) =
      (outcome, (Ok call, asked, comes), is, holds)
  answers_asked r from now m call (Err stop.NoMemory) asked holds = holds
  answers_asked r from now m call (Err stop.StorageFault) asked (outcome, comes, command, faulted) =
      (outcome, (Ok call, asked, comes), command, faulted)

  pub answers_refused : (state : State Documents I) (records : List (List ℕ))
      → IsSettledState stands_for state records → (m : Message)
      (why : Refusal) (answer : Result Reply Stop) → OrNoMemory (IsAsked m) (Err why) → IsRefused why answer
      → Answers (Turns room) stands_for (repository_of state records) m state.moment state answer
  unfolding Turns
  answers_refused state records settled m why answer asked (inl none) =
      let P : Result Reply Stop → Type 0 = λ a.
      Answers (Turns room) stands_for (repository_of state records) m state.moment state a in
      subst P (sym none) (holds_still state records settled)
  answers_refused state records settled m why answer (inl none) (inr (some, is)) = absurd (some (cc))
  answers_refused state records settled m why answer (inr asked) (inr (some, is)) =
      let P : Result Reply Stop → Type 0 = λ a.
      Answers (Turns room) stands_for (repository_of state records) m state.moment state a in
      let r = repository_of state records in
      let still = holds_unchanged r (refusal_reply why) state.moment state (holds_still state records settled) in
      subst P (sym is) (unchanged r (refusal_reply why), (Err why, asked, refl), refl, still)
