use Rattle.std.proofs.Common.{◌≡◌, subst}
use Rattle.std.specs.Prelude.{IfOk}
use Rattle.aas_form.specs.PathsFrom.{element_paths}
use Rattle.aas_answer.specs.Answers.{paths_text}
use Rattle.aas_answer.proofs.element_answers.paths_shown.Goals as goal

pub returns : goal.returns
returns c =
    subst (λ e. IfOk c.paths_of_form-text.result (λ text. text ≡ paths_text (element_paths c.args.path.now.steps e)))
    c.cut_element-form.ensures c.paths_of_form-text.ensures
