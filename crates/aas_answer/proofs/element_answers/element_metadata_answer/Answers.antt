use Rattle.std.proofs.Common.{inr, Ok, sym, ap, ◌∙◌}
use Rattle.aas_json_mapping.specs.Trees.{elements}
use Rattle.aas_json_spelling.specs.Spells.{canonical_text}
use Rattle.aas_model.specs.declared.element.Element.{Element}
use Rattle.aas_answer.specs.Answers.{Answer, element_metadata_text}
use Rattle.aas_answer.proofs.Stored.{same_metadata}
use Rattle.aas_answer.proofs.element_answers.element_metadata_answer.Goals as goal

tell : Element → Answer
tell e = Ok (element_metadata_text e)

pub returns : goal.returns
unfolding tell
returns g c =
    let there = c.in_ok-row.ensures.found in
    let same = same_metadata c.in_ok-row.row.level c.in_ok-alone.alone there.0 (c.in_ok-alone.ensures.line ∙ there.2) in
    inr (ap Ok (c.from.ensures ∙ c.in_ok-text.ensures) ∙ ap (λ f. Ok (canonical_text elements f)) same ∙ sym (there.1 tell))
