use Rattle.std.proofs.Common.{List, [], ◌∷◌, sym, ap, ap₂, ◌∙◌}
use Rattle.std.specs.List.{list_all}
use Rattle.aas_model.specs.declared.parts.SpecificAssetId.{SpecificAssetId}
use Rattle.aas_model.specs.declared.reference.Reference.{out-Reference}
use Rattle.aas_reference.specs.Faults.{least}
use Rattle.aas_reference.specs.Rules.{if_any, is_external}
use Rattle.aas_constraint_rules.specs.Rules.{has_main_semantics}
use Rattle.aas_constraint_rules.specs.Sites.{of_payload}
use Rattle.aas_constraint_parts.specs.Tests.{first_failed}
use Rattle.aas_constraints.proofs.Split.{local_split}
use Rattle.aas_constraints.proofs.element.payload_fault.Goals as goal

pub returns : goal.returns
returns c =
    let ids = c.specific_asset_ids-ids.ensures in
    let of_118 = c.specific_asset_ids_have_main.ensures ∙ ap (λ (ids : List SpecificAssetId). list_all (λ a. has_main_semantics a.semantics) ids) ids in
    let of_133 = c.subjects_are_external.ensures
    ∙ ap (λ (ids : List SpecificAssetId). list_all (λ a. if_any (λ r. is_external (out-Reference r).ref_type) a.external_subject_id) ids) ids in
    c.least.ensures
    ∙ ap₂ least
    (c.first_failed-itself.ensures
    ∙ (
    λ i.
    first_failed
    ((0, c.payload_is_formed.ensures i)
    ∷ (14, c.is_managed.ensures i)
    ∷ (118, of_118 i)
    ∷ (130, c.payload_is_of_strings.ensures i)
    ∷ (133, of_133 i)
    ∷ [])
    ))
    c.references_fault.ensures
    ∙ sym (local_split (of_payload c.args.payload.now))
