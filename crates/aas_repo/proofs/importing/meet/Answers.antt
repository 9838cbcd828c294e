use Rattle.aas_repo.proofs.Imported.{again_seen, one_more_seen}
use Rattle.aas_repo.proofs.importing.meet.Goals as goal

pub returns-in-Ok-clause-again : goal.returns-in-Ok-clause-again
returns-in-Ok-clause-again c = again_seen c.args.seen.now c.args.id c.in-Ok.is_new c.utf8.id c.in-Ok.ensures.added

pub returns-in-Ok-clause-has : goal.returns-in-Ok-clause-has
returns-in-Ok-clause-has c = one_more_seen c.args.seen.now c.insert.new.self c.args.id c.utf8.id c.in-Ok.ensures.keys
