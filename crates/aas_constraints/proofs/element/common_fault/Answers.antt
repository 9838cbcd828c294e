use Rattle.std.proofs.Common.{List, [], ◌∷◌, map, sym, ap, ap₂, ◌∙◌}
use Rattle.std.specs.List.{list_all}
use Rattle.std.proofs.lemmas.List.{append-nil}
use Rattle.aas_model.specs.declared.parts.Extension.{Extension}
use Rattle.aas_model.specs.declared.parts.Qualifier.{Qualifier}
use Rattle.aas_reference.specs.Faults.{least}
use Rattle.aas_reference.specs.Rules.{if_any}
use Rattle.aas_constraint_rules.specs.Attributes.{common_references}
use Rattle.aas_constraint_rules.specs.Decided.{has_form}
use Rattle.aas_constraint_rules.specs.Sites.{of_common}
use Rattle.aas_constraint_rules.specs.Texts.{all_differ}
use Rattle.aas_constraint_parts.specs.References.{references_fault}
use Rattle.aas_constraint_parts.specs.Tests.{first_failed}
use Rattle.aas_constraints.proofs.Split.{local_split}
use Rattle.aas_constraints.proofs.element.common_fault.Goals as goal

pub returns : goal.returns
returns c =
    let qualifiers = c.as_slice-qualifiers.ensures in
    let of_20 = c.qualifiers_have_form.ensures ∙ ap (λ (qs : List Qualifier). list_all (λ q. if_any (has_form q.value_type) q.value) qs) qualifiers in
    let of_21 = c.in_ok-qualifiers_differ.ensures ∙ ap (λ (qs : List Qualifier). all_differ (map (λ q. q.qualifier_type) qs)) qualifiers in
    let of_77 = c.in_ok-extensions_differ.ensures ∙ ap (λ (xs : List Extension). all_differ (map (λ a. a.name) xs)) c.as_slice.ensures in
    c.least.ensures
    ∙ ap₂ least
    (c.first_failed-itself.ensures
    ∙ (
    λ i.
    first_failed
    ((0, c.common_has_form.ensures i)
    ∷ (2, c.id_short_is_name.ensures i)
    ∷ (20, of_20 i)
    ∷ (21, of_21 i)
    ∷ (77, of_77 i)
    ∷ (118, c.common_has_main.ensures i)
    ∷ (130, c.common_is_of_strings.ensures i)
    ∷ [])
    ))
    (c.references_fault.ensures ∙ ap references_fault (sym (append-nil (common_references c.args.common.now))))
    ∙ sym (local_split (of_common c.args.common.now))
