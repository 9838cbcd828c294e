use Rattle.std.proofs.Common.{◌||◌, not, List, [], ◌∷◌, ap, ap₂, ◌∙◌}
use Rattle.aas_model.specs.declared.parts.Qualifier.{Qualifier}
use Rattle.aas_model_names.specs.declared.kind.Kind.{Kind}
use Rattle.aas_reference.specs.Rules.{if_any}
use Rattle.aas_constraint_rules.specs.Rules.{agree, has_template_qualifier, list_type, of_parent, stands_in_operation, type_admits}
use Rattle.aas_constraint_rules.specs.Sites.{stands_in_list}
use Rattle.aas_constraint_parts.specs.Tests.{first_failed}
use Rattle.aas_constraints.specs.Walk.{above_of}
use Rattle.aas_constraints.proofs.element.place_fault.Goals as goal

pub returns : goal.returns
returns c = λ b knows.
    let above = above_of c.args.above in
    let semantics = c.as_ref-semantics.ensures.value in
    let of_22 = c.name_is_new.ensures ∙ ap (λ again. stands_in_operation above || not again) knows.names in
    let of_107 = c.agree.ensures ∙ ap₂ agree c.list_semantics.ensures semantics in
    let of_108 = c.has_list_kind.ensures ∙ ap (λ (k : Kind). if_any (λ t. type_admits t k) (of_parent list_type above)) c.kind.ensures in
    let of_114 = c.has_first_semantics.ensures ∙ ap₂ (λ one other. not (stands_in_list above) || agree one other) knows.semantics semantics in
    let of_129 = c.is_template_or_none.ensures ∙ ap (λ (qs : List Qualifier). c.args.in_template || not (has_template_qualifier qs)) c.as_slice.ensures in
    let of_134 = c.variable_is_new.ensures ∙ ap (λ again. not (stands_in_operation above) || not again) knows.names in
    c.first_failed.ensures
    ∙ (
    λ i.
    first_failed
    ((22, of_22 i)
    ∷ (107, of_107 i)
    ∷ (108, of_108 i)
    ∷ (109, c.has_list_value_type.ensures i)
    ∷ (114, of_114 i)
    ∷ (117, c.is_named.ensures i)
    ∷ (120, c.is_unnamed_in_list.ensures i)
    ∷ (129, of_129 i)
    ∷ (134, of_134 i)
    ∷ [])
    )
