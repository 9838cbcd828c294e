use Rattle.std.proofs.Common.{◌≡◌, ◌&&◌, rules}
use Rattle.std.specs.Prelude.{int_le}
use Rattle.aas_lexical.proofs.IntegersExact.{between_within}
use Rattle.aas_lexical.proofs.number.is_between.Goals as goal

pub returns-in-Some : goal.returns-in-Some
returns-in-Some c =
    let some = c.in-Some.ensures.some in
    let test : c.contains.result ≡ (int_le c.args.least c.in-Some.value && int_le c.in-Some.value c.args.greatest) = search rules in
    between_within c.args.text.now c.args.least c.args.greatest c.in-Some.value c.contains.result some.0 some.1 test
