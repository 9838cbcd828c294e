use Rattle.std.proofs.lemmas.Result.{IfOk-weaker, IfErr-weaker}
use Rattle.aas_server.specs.Answer.{done, refused}
use Rattle.aas_server.proofs.ValueAnswers.{fault_answered, element_answered, if_err}
use Rattle.aas_server.proofs.value.answer_value.Goals as goal

pub returns-in_err-element-clause-refused : goal.returns-in_err-element-clause-refused
returns-in_err-element-clause-refused c =
    if_err c.from_residual.result _ _ (λ refusal.
    fault_answered c.args.input.now c.in_err-element.field-0.0 refusal c.requires c.in_err-element.ensures)
    c.from_residual.ensures.1

pub returns-clause-done : goal.returns-clause-done
returns-clause-done c =
    IfOk-weaker c.answer_element.result _ _ (λ text. element_answered c.args.input.now c.in_ok-element.element
    (done text.items) c.requires c.in_ok-element.ensures)
    c.answer_element.ensures.done

pub returns-clause-refused : goal.returns-clause-refused
returns-clause-refused c =
    IfErr-weaker c.answer_element.result _ _ (λ refusal is some.
    element_answered c.args.input.now c.in_ok-element.element
    (refused refusal) c.requires c.in_ok-element.ensures (is some))
    c.answer_element.ensures.refused
