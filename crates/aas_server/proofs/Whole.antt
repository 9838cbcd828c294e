-- The import of all documents alone replays to them.
use Rattle.std.proofs.Common.{[], ◌∷◌, refl}
use Rattle.aas_command.specs.Encoding.{HasFields}
use Rattle.aas_command.specs.declared.command.Command.TheVariants.{Import}
use Rattle.aas_environment.proofs.WellFormed.{well_formed}
use Rattle.aas_environment.specs.Environments.{environment_of}
use Rattle.aas_environment.specs.Laws.{ExportsComeBack}
use Rattle.aas_repo_replay.specs.Replay.{Replays}
use Rattle.aas_step.specs.Step.{Steps}
use Rattle.aas_step.specs.Valid.{AreValid}
use Rattle.aas_store.specs.Documents.{Documents}
use Rattle.aas_server.specs.Checkpointing.{whole_payload}

pub whole_replays : ExportsComeBack → (d : Documents)
    → AreValid d → HasFields (Import (environment_of d)) → Replays (whole_payload d ∷ []) d
unfolding Steps
whole_replays come_back d valid fields = (
  d,
  (
    Import (environment_of d),
    record { well_formed = well_formed d valid; fields = fields; same = refl },
    come_back d valid,
  ),
  refl,
)
