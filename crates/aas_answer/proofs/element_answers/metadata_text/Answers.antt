use Rattle.std.proofs.Common.{◌≡◌, IfOk, subst}
use Rattle.aas_json_mapping.specs.Trees.{elements}
use Rattle.aas_json_spelling.specs.Spells.{canonical_text}
use Rattle.aas_answer.proofs.element_answers.metadata_text.Goals as goal

pub returns : goal.returns
returns c =
    subst (λ e. IfOk c.element_text-text.result (λ text. text.items ≡ canonical_text elements e))
    c.in_ok-form.ensures c.element_text-text.ensures.text
