use Rattle.aas_repo_replay.proofs.replaying.add.Goals as goal

pub returns-in-Ok-clause-added : goal.returns-in-Ok-clause-added
returns-in-Ok-clause-added g c = c.add_command.ensures.added c.args.payload.now c.in-Ok.ensures
