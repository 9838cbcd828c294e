use Rattle.aas_repo_replay.proofs.Replayed.{accepted_record_adds, refused_adds_nothing}
use Rattle.aas_repo_replay.proofs.replaying.add_command.Goals as goal

pub returns-in-Made-clause-added : goal.returns-in-Made-clause-added
returns-in-Made-clause-added g c = λ payload is.
    accepted_record_adds _ payload c.args.command _ is c.in-Made.ensures.decision.1

pub returns-in-Refused-clause-added : goal.returns-in-Refused-clause-added
returns-in-Refused-clause-added g c = λ payload is.
    refused_adds_nothing c.records_are_of_one_command.ensures c.commands_come_to_one_result.ensures
    _ payload c.args.command c.in-Refused.refusal c.requires.valid is
    c.in-Refused.ensures.decision.2
