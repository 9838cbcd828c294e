use Rattle.aas_discovery.proofs.Marks.{keys_are}
use Rattle.aas_discovery.proofs.ids.Ids.as_many.Goals as goal

pub returns-clause-ids : goal.returns-clause-ids
returns-clause-ids c = keys_are c.self.inside.ids c.self.invariant c.args.self.now c.self.view_is
