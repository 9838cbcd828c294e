use Rattle.std.proofs.Common.{ap, ◌∙◌, is_some}
use Rattle.aas_value_patch.proofs.Words.{word_judged}
use Rattle.aas_value_patch.proofs.slots.entity_type_from.Goals as goal

pub returns-in-Some-clause-fit : goal.returns-in-Some-clause-fit
returns-in-Some-clause-fit c =
    word_judged c.args.name.now c.from_name.result c.from_name.ensures ∙ ap is_some c.in-Some.is

pub returns-in-None-clause-fit : goal.returns-in-None-clause-fit
returns-in-None-clause-fit c =
    word_judged c.args.name.now c.from_name.result c.from_name.ensures ∙ ap is_some c.in-None.is
