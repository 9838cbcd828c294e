use Rattle.aas_constraint_parts.proofs.Sets.{again, one_more}
use Rattle.aas_constraint_parts.proofs.names.meet.Goals as goal

pub returns-in-Ok-clause-again : goal.returns-in-Ok-clause-again
returns-in-Ok-clause-again c = again c.args.set.now c.args.text c.in-Ok.is_new c.utf8.text c.in-Ok.ensures.added

pub returns-in-Ok-clause-has : goal.returns-in-Ok-clause-has
returns-in-Ok-clause-has c = one_more c.args.set.now c.insert.new.self c.args.text c.utf8.text c.in-Ok.ensures.keys
