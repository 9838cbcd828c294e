use Rattle.std.proofs.Common.{◌≡◌, ◌++◌, OnOk, ◌∙◌, subst}
use Rattle.serde_json.specs.Written.{compact_text}
use Rattle.aas_answer.proofs.submodel_answers.append_value_of_form.Goals as goal

pub returns : goal.returns
returns c =
    subst (λ v. OnOk c.append_to.result (c.append_to.new.out.items ≡ c.args.text.now.items ++ compact_text v))
    (c.new.ensures ∙ c.in_ok-value.ensures.form)
    c.append_to.ensures.appended
