use Rattle.std.proofs.Common.{FitsSigned, rules}
use Rattle.std.specs.Int.{w128}
use Rattle.aas_lexical.proofs.IntegersExact.{from_within}
use Rattle.aas_lexical.proofs.number.is_at_least.Goals as goal

pub returns-in-Some : goal.returns-in-Some
returns-in-Some c =
    let fits : FitsSigned w128 c.in-Some.value = search rules in
    let some = c.in-Some.ensures.some in
    from_within c.args.text.now c.args.least c.in-Some.value c.ranges.least fits some.0 some.1
