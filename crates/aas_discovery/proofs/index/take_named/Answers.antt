use Rattle.std.proofs.Common.{sym, ◌∙◌}
use Rattle.std.proofs.lemmas.Bool.{eqb-true}
use Rattle.aas_discovery.proofs.Added.{less_named, no_value_left}
use Rattle.aas_discovery.proofs.index.take_named.Goals as goal

pub returns-in-Some-clause-taken : goal.returns-in-Some-clause-taken
returns-in-Some-clause-taken c =
    less_named c.args.index.now c.args.name.now c.args.value.now c.args.id.now c.in-Some.values.now
    c.remove_under.new.values (sym c.in-Some.ensures.value) c.remove_under.ensures

pub returns-in-Some-clause-none_left : goal.returns-in-Some-clause-none_left
returns-in-Some-clause-none_left c = λ is.
    no_value_left c.args.index.now c.args.name.now c.remove_under.new.values
    (sym c.len.ensures ∙ eqb-true c.len.result 0 is)
