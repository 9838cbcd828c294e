-- What payloads replay to: what their commands make, one after another,
-- of no documents at all. This profile's own rule.
use Rattle.std.specs.Prelude.{◌≡◌, ℕ, true, List, [], ◌∷◌, Some, slice_get, take}
use Rattle.aas_command.specs.declared.command.Command.{Command}
use Rattle.aas_record.specs.Records.{IsRecord}
use Rattle.aas_rule.specs.Rule.{Room}
use Rattle.aas_step.specs.Step.{Steps, accepted}
use Rattle.aas_store.specs.Documents.{Documents, empty}

abbrev pub always_room : Room
always_room records n = true

-- The payload is that of a command, which makes the new documents of the old ones.
-- That there is no room is no cause here.
abbrev pub Adds : (old : Documents) (payload : List ℕ) (new : Documents) → Type 0
Adds old payload new =
    (c : Command) × IsRecord payload c × Steps always_room (record { documents = old; records = [] }) c (accepted new)

-- one after another, from these documents on
abbrev pub ReplaysFrom : (old : Documents) (payloads : List (List ℕ)) (new : Documents) → Type 0
ReplaysFrom old [] new = new ≡ old
ReplaysFrom old (payload ∷ payloads) new = (next : Documents) × Adds old payload next × ReplaysFrom next payloads new

abbrev pub Replays : List (List ℕ) → Documents → Type 0
Replays payloads d = ReplaysFrom empty payloads d

-- it is that of no command, or of one that is refused
abbrev pub AddsNothing : Documents → List ℕ → Type 0
AddsNothing d payload = (new : Documents) → ¬ (Adds d payload new)

-- the first n payloads replay to these documents, and the next one adds nothing
pub record StopsAt (payloads : List (List ℕ)) (n : ℕ) (d : Documents) : Type 0 where
  pub before : Replays (take n payloads) d
  pub payload : List ℕ
  pub next : slice_get payloads n ≡ Some payload
  pub nothing : AddsNothing d payload
