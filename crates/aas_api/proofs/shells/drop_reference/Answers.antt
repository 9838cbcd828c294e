use Rattle.std.proofs.Common.{rules}
use Rattle.aas_command.specs.declared.command.Command.TheVariants.{DropReference}
use Rattle.aas_api.specs.Asked.{ById, IsCommand}
use Rattle.aas_api.proofs.ReadSegments.{by_id}
use Rattle.aas_api.proofs.shells.drop_reference.Goals as goal

pub returns-in_err-submodel : goal.returns-in_err-submodel
returns-in_err-submodel c =
    by_id c.args.shell.now
    (λ shell. ById c.args.submodel.now (λ submodel. IsCommand (DropReference shell submodel))) c.in_ok-shell.shell
    c.in_ok-shell.ensures.ok c.from_residual-in_err-submodel.result (search rules)
