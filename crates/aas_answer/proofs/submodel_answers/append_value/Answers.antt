use Rattle.std.proofs.Common.{◌≡◌, ◌++◌, OnOk, subst}
use Rattle.serde_json.specs.Written.{compact_text}
use Rattle.aas_value.specs.ValueForm.{submodel_value}
use Rattle.aas_answer.proofs.submodel_answers.append_value.Goals as goal

pub returns : goal.returns
returns c =
    subst (λ s. OnOk c.append_value_of_form-appended.result (c.append_value_of_form-appended.new.text.items
    ≡ c.args.text.now.items ++ compact_text (submodel_value c.args.extent s)))
    c.cut-form.ensures c.append_value_of_form-appended.ensures
