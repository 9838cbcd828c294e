use Rattle.std.proofs.Common.{sym}
use Rattle.aas_discovery.proofs.Added.{less_under, none_left}
use Rattle.aas_discovery.proofs.index.take_under.Goals as goal

pub returns-in-Some-clause-taken : goal.returns-in-Some-clause-taken
returns-in-Some-clause-taken c = less_under c.args.values.now c.args.value.now c.args.id.now c.in-Some.ids.now
    c.remove.new.self (sym c.in-Some.ensures.value) c.remove.ensures

pub returns-in-Some-clause-none_left : goal.returns-in-Some-clause-none_left
returns-in-Some-clause-none_left c = λ is. none_left c.as_many.result.now c.remove.new.self c.args.values.now
    c.args.value.now c.as_many.ensures.ids (c.is_empty.ensures.0 is)
