use Rattle.std.proofs.Common.{subst}
use Rattle.aas_command.specs.Commands.{payload_of}
use Rattle.aas_command.specs.Encoding.{IsFaultOf}
use Rattle.aas_repo.specs.Tasks.{command_of}
use Rattle.aas_repo.proofs.Taken.{too_long_is_refused}
use Rattle.aas_repo.proofs.taking.take_without_frame.Goals as goal

pub returns-in-Refused-clause-taken : goal.returns-in-Refused-clause-taken
returns-in-Refused-clause-taken g c = λ has_room.
    too_long_is_refused has_room _ _ (command_of c.args.task) c.in-Refused.refusal
    (subst (IsFaultOf (payload_of (command_of c.args.task))) c.in-TooLong.is c.requires.fault)
    c.in-Refused.ensures.decision
