use Rattle.std.proofs.Common.{◌≡◌, false, [], inl, inr, ⊎_elim, sym, ap, ◌∙◌, arith}
use Rattle.aas_form.specs.CoreForm.{core_form}
use Rattle.aas_model.specs.declared.element.Element.{Element, out-Element}
use Rattle.aas_model.specs.declared.payload.Payload.{Payload}
use Rattle.aas_model_names.specs.declared.modifiers.Extent.{Extent}
use Rattle.aas_model_names.specs.declared.modifiers.Level.{Level}
use Rattle.aas_rows.specs.Rows.{Line}
use Rattle.aas_value.specs.Kinds.{form_of}
use Rattle.aas_value.specs.Parts.{value}
use Rattle.aas_value.specs.ValueForm.{value_form, shows_children}
use Rattle.aas_answer.specs.Answers.{Answer, value_answer}
use Rattle.aas_answer.proofs.Values.{row_value}
use Rattle.aas_answer.proofs.element_answers.element_value_answer.Goals as goal

tell : Extent → Level → Element → Answer
tell x level e = value_answer (value_form x (core_form level e))

pub returns-then-not-shows_children : goal.returns-then-not-shows_children
unfolding tell
returns-then-not-shows_children g c =
    let x = c.args.extent in
    let there = c.in_ok-row.ensures.found in
    let own = ap (λ (l : Line). l.payload) there.2 in
    let hides : shows_children (out-Element there.0).payload ≡ false = grind (arith, own, c.shows_children.ensures) in
    let form =
    c.in_ok-value_of_parts.ensures ∙ ap (λ (y : Payload). value (form_of x y [])) own
    ∙ sym (row_value x c.args.level there.0 hides) in
    ⊎_elim inl (λ told. inr (told ∙ ap value_answer form ∙ sym (there.1 (tell x c.args.level)))) c.value_told.ensures

pub returns : goal.returns
unfolding tell
returns g c =
    let there = c.in_ok-element.ensures.found in
    ⊎_elim inl (λ told. inr (told ∙ sym (there (tell c.args.extent c.args.level)))) c.value_shown.ensures
