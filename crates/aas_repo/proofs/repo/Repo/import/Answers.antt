use Rattle.std.proofs.Common.{◌≡◌, Bool, None, Ok, Err}
use Rattle.std.specs.Prelude.{◌≢◌, IfErr, Result}
use Rattle.aas_command.specs.declared.command.Command.TheVariants.{Import}
use Rattle.aas_command.specs.declared.refusal.Refusal.{Refusal}
use Rattle.aas_command.specs.declared.refusal.Refusal.TheVariants.{NoMemory, StorageFault, StorageFull}
use Rattle.aas_model.specs.declared.documents.Environment.{Environment}
use Rattle.aas_store.specs.Documents.{Documents}
use Rattle.aas_repo.specs.Acts.{ComesOut}
use Rattle.aas_repo.specs.Faulty.{own_cause}
use Rattle.aas_repo.specs.declared.repo.Done.{Done}
use Rattle.aas_repo.proofs.Imported.{only_full, own_is}
use Rattle.aas_repo.proofs.repo.Repo.import.Goals as goal

refused_full : (has_room : Bool) (old new : Documents) (e : Environment) (result : Result Done Refusal)
    → own_cause e ≡ None → ComesOut has_room old (Import e) new result
    → IfErr result (λ refusal. refusal ≢ StorageFault → refusal ≢ NoMemory → refusal ≡ StorageFull)
refused_full has_room old new e (Ok done) none out = tt
refused_full has_room old new e (Err refusal) none out =
    λ other left. only_full has_room old e refusal none (out.1 other left)

pub carry_out-requires-clause-task : goal.carry_out-requires-clause-task
carry_out-requires-clause-task g c =
    (c.requires.whole, own_is c.args.environment _ _ c.requires.no_repeat c.requires.no_fault)

pub returns-clause-refusal : goal.returns-clause-refusal
returns-clause-refusal g c =
    refused_full _ _ _ c.args.environment c.carry_out.result
    (own_is c.args.environment _ _ c.requires.no_repeat c.requires.no_fault) c.carry_out.ensures.outcome
