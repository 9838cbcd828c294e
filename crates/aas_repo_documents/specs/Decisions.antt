-- What is decided on a command, and done in the store, before it is kept. This profile's own rule.
use Rattle.std.specs.Prelude.{◌≡◌, ◌≢◌, ℕ, Bool, true, List, [], ◌∷◌, None}
use Rattle.aas_constraint_rules.specs.Faults.{Document}
use Rattle.aas_command.specs.declared.command.Command.{Command}
use Rattle.aas_command.specs.declared.refusal.Refusal.{Refusal}
use Rattle.aas_command.specs.declared.refusal.Refusal.TheVariants.{NoMemory, StorageFault}
use Rattle.aas_model.specs.declared.documents.Submodel.{Submodel}
use Rattle.aas_store.specs.Documents.{Documents}
use Rattle.aas_step.specs.Causes.{Cause, causes, first_of, in_submodel}
use Rattle.aas_step.specs.Made.{IsMade, changed_submodel, left}
use Rattle.aas_step.specs.Step.{ComesTo, accepted, refused}
use Rattle.aas_repo_documents.specs.declared.decision.Decision.{Decision}
use Rattle.aas_repo_documents.specs.declared.decision.Decision.TheVariants as decision

-- with the documents before and after
abbrev pub IsDecision : Bool → Documents → Command → Documents → Decision → Type 0
IsDecision has_room old c new decision.Made = (has_room ≡ true) × ComesTo has_room old c (accepted new)
IsDecision has_room old c new (decision.Refused refusal) =
    (new ≡ old) × (refusal ≢ StorageFault) × ComesTo has_room old c (refused refusal)
IsDecision has_room old c new decision.NoMemory = new ≡ old

-- what a refusal comes to, where want of memory is one
abbrev pub decision_of : Refusal → Decision
decision_of NoMemory = decision.NoMemory
decision_of refusal = decision.Refused refusal

-- One cause in what is there may refuse the command, and it makes one document.
pub record Puts (d : Documents) (c : Command) (early : Cause) (x : Document) : Type 0 where
  pub causes_are : causes d c ≡ early ∷ []
  pub made : IsMade d c (x ∷ [])
  pub left_are : left d c ≡ d

-- No cause in what is there refuses the command, and it makes one document.
pub record Makes (d : Documents) (c : Command) (x : Document) : Type 0 where
  pub no_cause : first_of (causes d c) ≡ None
  pub made : IsMade d c (x ∷ [])
  pub left_are : left d c ≡ d

-- It changes the submodel of an identifier, where one is there.
pub record Edits (c : Command) (id : List ℕ) (causes_in : Submodel → List Cause)
    (changed : Submodel → Submodel) (d : Documents) : Type 0 where
  pub causes_are : causes d c ≡ in_submodel d id causes_in
  pub made : (new : List Document) → new ≡ changed_submodel d id changed → IsMade d c new
  pub left_are : left d c ≡ d
