use Rattle.std.proofs.Common.{subst}
use Rattle.aas_repo.specs.Tasks.{IsTask}
use Rattle.aas_repo.specs.declared.taking.Task.TheVariants as task
use Rattle.aas_repo.proofs.Taken.{decided_valid}
use Rattle.aas_repo.proofs.taking.change_by.Goals as goal

pub returns-in-Import-clause-valid : goal.returns-in-Import-clause-valid
returns-in-Import-clause-valid g c =
    decided_valid c.args.has_room _ _ (task.Import c.in-Import.environment) c.put_environment.result
    (subst IsTask c.in-Import.is c.requires.task) c.requires.valid c.put_environment.ensures
