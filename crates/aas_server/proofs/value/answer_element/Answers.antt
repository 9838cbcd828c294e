use Rattle.std.proofs.Common.{◌≡◌, ◌∙◌, sym, ap, rules, true, false, Some, None, option_map}
use Rattle.aas_json_members.specs.Exact.{data_of}
use Rattle.aas_model_names.specs.declared.modifiers.Extent.TheVariants.{WithBlobValue}
use Rattle.aas_constraint_rules.specs.Faults.{element_faults}
use Rattle.aas_reference.specs.Rules.{first}
use Rattle.aas_value.specs.ValueForm.{value_form}
use Rattle.aas_server.proofs.ValueAnswers.{formless, faulty, valid}
use Rattle.aas_server.proofs.value.answer_element.Goals as goal

pub returns-then-not-has_value_form-clause-refused : goal.returns-then-not-has_value_form-clause-refused
returns-then-not-has_value_form-clause-refused c =
    let e = c.args.element.now in
    let none : c.has_value_form.result ≡ false = search rules in
    λ _. formless e (c.has_value_form.ensures WithBlobValue e (sym c.kind.ensures) ∙ none)

pub returns-in-Some-clause-refused : goal.returns-in-Some-clause-refused
returns-in-Some-clause-refused c =
    let e = c.args.element.now in
    let some : c.has_value_form.result ≡ true = search rules in
    let found : first (element_faults e) ≡ Some c.in-Some.fault = sym c.in_ok-fault.ensures ∙ c.in-Some.is in
    λ _. faulty e c.in-Some.fault c.from.result
    (c.has_value_form.ensures WithBlobValue e (sym c.kind.ensures) ∙ some) found c.from.ensures

pub returns-clause-done : goal.returns-clause-done
returns-clause-done c =
    let e = c.args.element.now in
    let none : first (element_faults e) ≡ None = sym c.in_ok-fault.ensures ∙ c.in_default.is in
    let has : value_form WithBlobValue e ≡ Some (data_of c.in-Some-2.form) =
    sym c.in_ok-form.ensures ∙ ap (option_map data_of) c.in-Some-2.is in
    valid e (data_of c.in-Some-2.form) c.in_ok-line_of.field-0.items has none c.in_ok-line_of.ensures
