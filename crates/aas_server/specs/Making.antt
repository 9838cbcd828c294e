-- What a checkpoint prepares, what comes of it, and what is said then.
use Rattle.std.specs.Prelude.{◌≡◌, ℕ, ◌<◌, List, [], ◌∷◌, ◌++◌, codes, decimal, Result, Ok, Err}
use Rattle.aas_outside_disk.specs.Disk.{DiskState}
use Rattle.aas_command.specs.Encoding.{IsFaultOf}
use Rattle.aas_command.specs.declared.encoding.EncodeFault.{EncodeFault}
use Rattle.aas_command.specs.declared.encoding.EncodeFault.TheVariants as encode_fault
use Rattle.aas_journal.specs.Kept.{most_bytes}
use Rattle.aas_journal.specs.declared.fault.CheckpointFault.{CheckpointFault}
use Rattle.aas_journal.specs.declared.fault.CheckpointFault.TheVariants as checkpoint_fault
use Rattle.aas_outside.specs.Faults.{Rose}
use Rattle.aas_repo_replay.specs.Replay.{Replays}
use Rattle.aas_store.specs.Documents.{Documents}
use Rattle.aas_server.specs.declared.checkpointing.Prepared.{Prepared}
use Rattle.aas_server.specs.declared.checkpointing.Unmade.{Unmade}
use Rattle.aas_server.specs.declared.checkpointing.Unmade.TheVariants.{Full, Failed, NoMemory}
use Rattle.aas_server.specs.Answer.{Answer, disk_failed, journal_full, line}
use Rattle.aas_server.specs.Checkpointing.{checkpoint_size, whole_payload}

-- that a file has so many bytes now
abbrev pub size_line : ℕ → List ℕ
size_line size = line (codes "checkpoint " ++ decimal size)

-- The record is the import of all documents, and alone replays to them.
-- The line says how many bytes the file will have.
pub record IsPreparedOf (d : Documents) (prepared : Prepared) : Type 0 where
  pub record_is : prepared.record ≡ whole_payload d
  pub line_is : prepared.line.items ≡ size_line (checkpoint_size d)
  pub replays : Replays (whole_payload d ∷ []) d

abbrev pub IsPrepared : Documents → Result Prepared EncodeFault → Type 0
IsPrepared d (Ok prepared) = IsPreparedOf d prepared
IsPrepared d (Err fault) = IsFaultOf (whole_payload d) fault

abbrev pub unmade_by : EncodeFault → Unmade
unmade_by encode_fault.TooLong = Full
unmade_by encode_fault.NoMemory = NoMemory

abbrev pub unmade_in : CheckpointFault → Unmade
unmade_in checkpoint_fault.Full = Full
unmade_in checkpoint_fault.Failed = Failed

-- what is true of a journal before and after, whose disk is seen so, where this is why no checkpoint was made
abbrev pub IsUnmadeBy : {J : Type 0} → (J → DiskState) → Documents → J → J → Unmade → Type 0
IsUnmadeBy view d old new Full = (most_bytes < checkpoint_size d) × (new ≡ old)
IsUnmadeBy view d old new Failed = Rose (view old).faults (view new).faults
IsUnmadeBy view d old new NoMemory = new ≡ old

-- it is the answer then; to want of memory there is none
abbrev pub IsSaidThen : Unmade → Answer → Type 0
IsSaidThen Full answer = answer ≡ journal_full
IsSaidThen Failed answer = answer ≡ disk_failed
IsSaidThen NoMemory answer = ⊥
