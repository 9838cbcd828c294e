use Rattle.aas_discovery.proofs.Added.{some_if_any}
use Rattle.std.specs.FinMap as fin
use Rattle.aas_discovery.proofs.ids.Ids.if_any.Goals as goal

pub returns-else-is_empty : goal.returns-else-is_empty
returns-else-is_empty c = some_if_any c.as_many-ids.result.now (fin.keys c.args.self.now) c.is_empty.result
    c.as_many-ids.ensures.ids c.is_empty.ensures.1 c.if-is_empty.false
