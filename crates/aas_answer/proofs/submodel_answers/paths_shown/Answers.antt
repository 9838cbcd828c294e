use Rattle.std.proofs.Common.{◌≡◌, subst}
use Rattle.std.specs.Prelude.{IfOk}
use Rattle.aas_form.specs.PathsFrom.{submodel_paths}
use Rattle.aas_answer.specs.Answers.{paths_text}
use Rattle.aas_answer.proofs.submodel_answers.paths_shown.Goals as goal

pub returns : goal.returns
returns c =
    subst (λ s. IfOk c.paths_of_form.result (λ text. text ≡ paths_text (submodel_paths s)))
    c.cut-form.ensures c.paths_of_form.ensures
