-- From what is decided on a command to what becomes of it, by the room to keep it.
use Rattle.std.proofs.Common.{◌≡◌, ◌≤◌, ◌<◌, ◌^◌, ℕ, Bool, true, false, List, length, refl, sym, ap, ◌∙◌, subst}
use Rattle.std.proofs.lemmas.Bool.{le-ltb, lt-ltb}
use Rattle.std.specs.Prelude.{◌&&◌, nat_lt}
use Rattle.aas_command.specs.Commands.{IsWellFormed, payload_of}
use Rattle.aas_command.specs.Encoding.{HasFields}
use Rattle.aas_command.specs.declared.command.Command.{Command}
use Rattle.aas_command.specs.declared.refusal.Refusal.{Refusal}
use Rattle.aas_store.specs.Documents.{Documents}
use Rattle.aas_step.proofs.Validity.{stays_valid}
use Rattle.aas_step.specs.Step.{ComesTo, accepted, refused}
use Rattle.aas_step.specs.Valid.{AreValid}
use Rattle.aas_repo_documents.specs.Decisions.{IsDecision}
use Rattle.aas_repo.specs.Decisions.{IsTaken, has_room_for}
use Rattle.aas_repo_documents.specs.declared.decision.Decision.{Decision}
use Rattle.aas_repo_documents.specs.declared.decision.Decision.TheVariants as decision
use Rattle.aas_repo.specs.Tasks.{IsTask, command_of}
use Rattle.aas_repo.specs.declared.taking.Taken.TheVariants as taken
use Rattle.aas_repo.specs.declared.taking.Task.{Task}
use Rattle.aas_repo.specs.declared.taking.Task.TheVariants as task

well_formed : (t : Task) → IsTask t → IsWellFormed (command_of t)
unfolding IsWellFormed
well_formed (task.Command c) is = is
well_formed (task.Import e) is = is.0

-- valid documents stay so
pub decided_valid : (has_room : Bool) (old new : Documents) (t : Task) (made : Decision) → IsTask t → AreValid old
    → IsDecision has_room old (command_of t) new made → AreValid new
decided_valid has_room old new t decision.Made is_task valid is =
    stays_valid has_room old new (command_of t) (well_formed t is_task) valid is.1
decided_valid has_room old new t (decision.Refused refusal) is_task valid is = subst AreValid (sym is.0) valid
decided_valid has_room old new t decision.NoMemory is_task valid is = subst AreValid (sym is) valid

-- ---- room

-- a test that a true b implies
implied : (t b : Bool) → (b ≡ true → t ≡ true) → (t && b) ≡ b
implied true b is = refl
implied false true is = absurd (let wrong = is refl in cc)
implied false false is = refl

-- there is room for a command where there is for the length of its payload
pub room_is : (has_room : ℕ → Bool) (c : Command) (b : Bool) → b ≡ has_room (length (payload_of c))
    → (b ≡ true → length (payload_of c) < 2 ^ 32) → has_room_for has_room c ≡ b
room_is has_room c b asked limit =
    ap (λ (b : Bool). nat_lt (length (payload_of c)) (2 ^ 32) && b) (sym asked)
    ∙ implied (nat_lt (length (payload_of c)) (2 ^ 32)) b (λ is. lt-ltb (length (payload_of c)) (2 ^ 32) (limit is))

-- and none for a payload that has no frame
no_room : (has_room : ℕ → Bool) (c : Command) → 2 ^ 32 ≤ length (payload_of c) → has_room_for has_room c ≡ false
no_room has_room c long =
    ap (λ (b : Bool). b && has_room (length (payload_of c))) (le-ltb (length (payload_of c)) (2 ^ 32) long)

-- ---- what is taken

module _ (has_room : ℕ → Bool) (old new : Documents) (c : Command) where
  told : (frame : List ℕ) (size : ℕ) (b : Bool)
      → frame ≡ payload_of c → size ≡ length frame → b ≡ has_room size → (b ≡ true → size < 2 ^ 32)
      → has_room_for has_room c ≡ b
  told frame size b is size_is asked limit =
      let same : size ≡ length (payload_of c) = size_is ∙ ap length is in
      room_is has_room c b (asked ∙ ap has_room same) (λ free. subst (λ (n : ℕ). n < 2 ^ 32) same (limit free))

  pub made_is_taken : (frame : List ℕ) (size : ℕ) (b : Bool)
      → frame ≡ payload_of c → size ≡ length frame → b ≡ has_room size → (b ≡ true → size < 2 ^ 32)
      → HasFields c → IsDecision b old c new decision.Made → IsTaken has_room old c new (taken.Made frame)
  made_is_taken frame size b is size_is asked limit fields made = (
    is,
    ap has_room (sym size_is) ∙ sym asked ∙ made.0,
    subst (λ (b : Bool). ComesTo b old c (accepted new)) (sym (told frame size b is size_is asked limit)) made.1,
    fields,
  )

  pub refused_is_taken : (frame : List ℕ) (size : ℕ) (b : Bool) (refusal : Refusal)
      → frame ≡ payload_of c → size ≡ length frame → b ≡ has_room size
      → (b ≡ true → size < 2 ^ 32) → IsDecision b old c new (decision.Refused refusal)
      → IsTaken has_room old c new (taken.Refused refusal)
  refused_is_taken frame size b refusal is size_is asked limit made = (
    made.0,
    made.1,
    subst (λ (b : Bool). ComesTo b old c (refused refusal)) (sym (told frame size b is size_is asked limit)) made.2,
  )

  pub too_long_is_refused : (refusal : Refusal)
      → 2 ^ 32 ≤ length (payload_of c) → IsDecision false old c new (decision.Refused refusal)
      → IsTaken has_room old c new (taken.Refused refusal)
  too_long_is_refused refusal long made =
      (made.0, made.1, subst (λ (b : Bool). ComesTo b old c (refused refusal)) (sym (no_room has_room c long)) made.2)
