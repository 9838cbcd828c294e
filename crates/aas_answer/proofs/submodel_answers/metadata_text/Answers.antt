use Rattle.std.proofs.Common.{◌≡◌, IfOk, subst}
use Rattle.aas_json_mapping.specs.Trees.{submodels}
use Rattle.aas_json_spelling.specs.Spells.{canonical_text}
use Rattle.aas_answer.proofs.submodel_answers.metadata_text.Goals as goal

pub returns : goal.returns
returns c =
    subst (λ s. IfOk c.submodel_text.result (λ text. text.items ≡ canonical_text submodels s))
    c.in_ok-form.ensures c.submodel_text.ensures.text
