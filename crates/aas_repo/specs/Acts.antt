-- What is done with a command. This profile's own rule.
use Rattle.std.specs.Prelude.{◌≡◌, ◌≢◌, ℕ, Bool, List, [], ◌∷◌, ◌++◌, length, Result, Ok, Err}
use Rattle.aas_command.specs.Commands.{payload_of}
use Rattle.aas_command.specs.Encoding.{HasFields}
use Rattle.aas_command.specs.declared.command.Command.{Command}
use Rattle.aas_command.specs.declared.command.Command.TheVariants.{CreateShell, CreateSubmodel, CreateConcept}
use Rattle.aas_command.specs.declared.command.Command.TheVariants.{AddReference, InsertElement, Import}
use Rattle.aas_command.specs.declared.refusal.Refusal.{Refusal}
use Rattle.aas_command.specs.declared.refusal.Refusal.TheVariants.{NoMemory, StorageFault}
use Rattle.aas_rule.specs.Rule.{Repository, Room}
use Rattle.aas_rule.specs.State.{State, Holds, IsFaulted}
use Rattle.aas_store.specs.Documents.{Documents}
use Rattle.aas_step.specs.Step.{ComesTo, Steps, accepted, refused}
use Rattle.aas_repo.specs.declared.repo.Done.{Done}
use Rattle.aas_repo.specs.declared.repo.Done.TheVariants.{Created, Changed, Imported}

-- what an accepted command did
abbrev pub done_of : Command → Done
done_of (CreateShell d) = Created
done_of (CreateSubmodel d) = Created
done_of (CreateConcept d) = Created
done_of (AddReference id r) = Created
done_of (InsertElement id p e) = Created
done_of (Import e) =
    Imported (record { shells = length e.shells; submodels = length e.submodels; concepts = length e.concepts })
done_of c = Changed

-- The command is accepted and kept, and can be read from its payload.
pub record IsAccepted {I : Type 0} (room : Room) (stands_for : I → List (List ℕ) → Type 0)
    (r : Repository Documents) (c : Command) (from : ℕ) (now : State Documents I) : Type 0 where
  pub new : Documents
  pub steps : Steps room r c (accepted new)
  pub fields : HasFields c
  pub holds : Holds stands_for r.records (payload_of c ∷ [])
      (record { documents = new; records = r.records ++ payload_of c ∷ [] }) from now

-- The command is accepted, but the keeper failed: the documents are those that it makes, and a stop leaves it or not.
pub record IsTorn {I : Type 0} (room : Room) (stands_for : I → List (List ℕ) → Type 0)
    (r : Repository Documents) (c : Command) (from : ℕ) (now : State Documents I) : Type 0 where
  pub new : Documents
  pub steps : Steps room r c (accepted new)
  pub fields : HasFields c
  pub faulted : IsFaulted stands_for r.records [] (payload_of c ∷ []) new from now

-- by what is answered: for a refusal, and for want of memory, everything is as before
abbrev pub Acts : {I : Type 0} → Room → (I → List (List ℕ) → Type 0)
    → Repository Documents → Command → ℕ → State Documents I → Result Done Refusal → Type 0
Acts room stands_for r c from now (Ok done) = (done ≡ done_of c) × IsAccepted room stands_for r c from now
Acts room stands_for r c from now (Err refusal) =
    (refusal ≡ StorageFault → IsTorn room stands_for r c from now)
    × (refusal ≢ StorageFault → Holds stands_for r.records [] r from now)
    × (refusal ≢ StorageFault → refusal ≢ NoMemory → Steps room r c (refused refusal))

-- by what is answered, whatever the keeper tells: what the command comes to, where there is room to keep it or not
abbrev pub ComesOut : Bool → Documents → Command → Documents → Result Done Refusal → Type 0
ComesOut has_room old c new (Ok done) = (done ≡ done_of c) × ComesTo has_room old c (accepted new)
ComesOut has_room old c new (Err refusal) =
    (refusal ≡ StorageFault → ComesTo has_room old c (accepted new))
    × (refusal ≢ StorageFault → refusal ≢ NoMemory → ComesTo has_room old c (refused refusal))
