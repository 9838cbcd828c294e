use Rattle.std.proofs.Common.{◌-◌, ◌∙◌, arith}
use Rattle.std.proofs.lemmas.Bool.{both_ways}
use Rattle.aas_json_whole.proofs.Nesting.{reference_level}
use Rattle.aas_json_whole.proofs.references.+reference.Goals as goal

pub is_whole_within-returns : goal.is_whole_within-returns
is_whole_within-returns t c =
    c.is_referred_whole.ensures
    ∙ reference_level c.args.reference.now c.args.left (c.args.left - 1) (omega arith)
    (λ none. both_ways c.is_empty.result c.if-is_empty.false (c.is_empty.ensures.1 none))
