-- Laws of replay.
use Rattle.std.specs.Prelude.{◌≡◌, ℕ, List, [], ◌∷◌, ◌++◌}
use Rattle.aas_command.specs.Commands.{IsWellFormed, payload_of}
use Rattle.aas_command.specs.Encoding.{HasFields}
use Rattle.aas_command.specs.declared.command.Command.{Command}
use Rattle.aas_rule.specs.Rule.{Repository, Room}
use Rattle.aas_step.specs.Step.{Steps, accepted}
use Rattle.aas_step.specs.Valid.{AreValid}
use Rattle.aas_store.specs.Documents.{Documents}
use Rattle.aas_repo_replay.specs.Replay.{Replays, StopsAt}

-- The payloads of accepted commands replay to what these made. A command has fields where it has a frame.
abbrev pub AcceptedReplay : Type 0
AcceptedReplay =
    (room : Room) (r : Repository Documents) (c : Command) (new : Documents) → Replays r.records r.documents
    → IsWellFormed c → HasFields c → Steps room r c (accepted new) → Replays (r.records ++ payload_of c ∷ []) new

-- Payloads replay to one state at most.
abbrev pub OneReplay : Type 0
OneReplay = (payloads : List (List ℕ)) (d e : Documents) → Replays payloads d → Replays payloads e → d ≡ e

-- What replays keeps every constraint.
abbrev pub ReplaysValid : Type 0
ReplaysValid = (payloads : List (List ℕ)) (d : Documents) → Replays payloads d → AreValid d

-- They replay, or stop at one place.
pub record OneStop : Type 0 where
  pub replay_or_stop : (payloads : List (List ℕ)) (n : ℕ) (d e : Documents)
      → Replays payloads d → ¬ (StopsAt payloads n e)
  pub one_place : (payloads : List (List ℕ)) (m n : ℕ) (d e : Documents)
      → StopsAt payloads m d → StopsAt payloads n e → m ≡ n
