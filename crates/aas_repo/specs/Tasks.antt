-- For private clauses: what a repository is asked to do.
use Rattle.std.specs.Prelude.{◌≡◌, None}
use Rattle.aas_command.specs.Commands.{IsWellFormed}
use Rattle.aas_command.specs.declared.command.Command.{Command}
use Rattle.aas_command.specs.declared.command.Command.TheVariants as command
use Rattle.aas_json_mapping.specs.Trees.{environments}
use Rattle.aas_json_table.specs.TooDeep.{limits}
use Rattle.aas_repo.specs.Faulty.{own_cause}
use Rattle.aas_repo.specs.declared.taking.Task.{Task}
use Rattle.aas_repo.specs.declared.taking.Task.TheVariants as task

-- the command that it stands for
abbrev pub command_of : Task → Command
command_of (task.Command c) = c
command_of (task.Import e) = command.Import e

-- The command is well formed, or the environment is whole and no cause of its own refuses it.
abbrev pub IsTask : Task → Type 0
IsTask (task.Command c) = IsWellFormed c
IsTask (task.Import e) = environments.IsWhole limits e × (own_cause e ≡ None)
