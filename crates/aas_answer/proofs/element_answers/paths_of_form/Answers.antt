use Rattle.std.proofs.Common.{◌≡◌, subst}
use Rattle.std.specs.Prelude.{IfOk}
use Rattle.aas_answer.specs.Answers.{paths_text}
use Rattle.aas_answer.proofs.element_answers.paths_of_form.Goals as goal

pub returns : goal.returns
returns c =
    subst (λ ps. IfOk c.paths_text-2.result (λ text. text ≡ paths_text ps))
    c.in_ok-paths_of_element.ensures c.paths_text-2.ensures
