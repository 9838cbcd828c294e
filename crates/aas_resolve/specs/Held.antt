-- The references in the attributes of a document or an element that are looked at: those of an object in the byte order
-- of the names of its members, those of a list in its order, as they stand in canonical text (JSON mapping of
-- IDTA-01001-3-0). The reference within a reference, its referredSemanticId, and kept data aren't looked at; this and
-- the order are this profile's own rules.
use Rattle.std.specs.Prelude.{ℕ, List, [], ◌∷◌, ◌++◌, codes, flat_map}
use Rattle.std.specs.Ordering.{nat_cmp, match_ordering}
use Rattle.std.specs.Cmp.Lexicographic.{slice_cmp}
use Rattle.aas_model.specs.declared.asset.AssetInformation.{AssetInformation}
use Rattle.aas_model.specs.declared.common.Common.{Common}
use Rattle.aas_model.specs.declared.common.Head.{Head}
use Rattle.aas_model.specs.declared.documents.Concept.{Concept}
use Rattle.aas_model.specs.declared.documents.Shell.{Shell}
use Rattle.aas_model.specs.declared.documents.Submodel.{Submodel}
use Rattle.aas_model.specs.declared.parts.Administration.{Administration}
use Rattle.aas_model.specs.declared.parts.Extension.{Extension}
use Rattle.aas_model.specs.declared.parts.Qualifier.{Qualifier}
use Rattle.aas_model.specs.declared.parts.SpecificAssetId.{SpecificAssetId}
use Rattle.aas_model.specs.declared.payload.Payload.{Payload}
use Rattle.aas_model.specs.declared.payload.Payload.TheVariants as p
use Rattle.aas_model.specs.declared.reference.Reference.{Reference}
use Rattle.aas_model.specs.declared.reference.Semantics.{Semantics}
use Rattle.aas_constraint_rules.specs.Sites.{Own}
use Rattle.aas_constraint_rules.specs.Texts.{as_list}

-- the name of a member, and the references that it holds
abbrev pub Member : Type 0
Member = List ℕ × List Reference

abbrev pub put_in_order : Member → List Member → List Member
put_in_order x [] = x ∷ []
put_in_order x (y ∷ ys) = match_ordering (slice_cmp nat_cmp x.0 y.0) (x ∷ y ∷ ys) (x ∷ y ∷ ys) (y ∷ put_in_order x ys)

-- members in the byte order of their names
abbrev pub in_order : List Member → List Member
in_order [] = []
in_order (x ∷ xs) = put_in_order x (in_order xs)

abbrev pub held_by : List Member → List Reference
held_by members = flat_map (λ x. x.1) (in_order members)

-- ---- parts

abbrev pub semantics_members : Semantics → List Member
semantics_members s =
    (codes "semanticId", as_list s.semantic_id) ∷ (codes "supplementalSemanticIds", s.supplemental_semantic_ids) ∷ []

abbrev pub held_by_extension : Extension → List Reference
held_by_extension e = held_by ((codes "refersTo", e.refers_to) ∷ semantics_members e.semantics)

abbrev pub held_by_qualifier : Qualifier → List Reference
held_by_qualifier q = held_by ((codes "valueId", as_list q.value_id) ∷ semantics_members q.semantics)

abbrev pub held_by_asset_id : SpecificAssetId → List Reference
held_by_asset_id a =
    held_by ((codes "externalSubjectId", as_list a.external_subject_id) ∷ semantics_members a.semantics)

abbrev pub held_by_administration : Administration → List Reference
held_by_administration a = held_by ((codes "creator", as_list a.creator) ∷ [])

abbrev pub held_by_asset : AssetInformation → List Reference
held_by_asset a = held_by ((codes "specificAssetIds", flat_map held_by_asset_id a.specific_asset_ids) ∷ [])

-- ---- elements

-- the members of a kind alone
abbrev pub own_members : Payload → List Member
own_members (p.Property t v i) = (codes "valueId", as_list i) ∷ []
own_members (p.MultiLanguageProperty v i) = (codes "valueId", as_list i) ∷ []
own_members (p.ReferenceElement v) = (codes "value", as_list v) ∷ []
own_members (p.RelationshipElement first second) =
    (codes "first", as_list first) ∷ (codes "second", as_list second) ∷ []
own_members (p.AnnotatedRelationshipElement first second) =
    (codes "first", as_list first) ∷ (codes "second", as_list second) ∷ []
own_members (p.Entity t g ids) = (codes "specificAssetIds", flat_map held_by_asset_id ids) ∷ []
own_members (p.BasicEventElement observed d s topic broker last min max) =
    (codes "observed", as_list observed) ∷ (codes "messageBroker", as_list broker) ∷ []
own_members (p.SubmodelElementList o s t v) = (codes "semanticIdListElement", as_list s) ∷ []
own_members _ = []

abbrev pub common_members : Common → List Member
common_members c =
    (codes "extensions", flat_map held_by_extension c.extensions)
    ∷ (codes "qualifiers", flat_map held_by_qualifier c.qualifiers)
    ∷ semantics_members c.semantics

-- the references of an element, without those of its children
abbrev pub held_by_element : Own → List Reference
held_by_element o = held_by (common_members o.common ++ own_members o.payload)

-- ---- documents

abbrev pub head_members : Head → List Member
head_members h =
    (codes "administration", flat_map held_by_administration (as_list h.administration))
    ∷ (codes "extensions", flat_map held_by_extension h.extensions)
    ∷ []

abbrev pub held_by_shell : Shell → List Reference
held_by_shell s =
    held_by (head_members s.head ++ (codes "assetInformation", held_by_asset s.asset)
    ∷ (codes "derivedFrom", as_list s.derived_from) ∷ (codes "submodels", s.submodels) ∷ [])

-- the references of a submodel, without those of its elements
abbrev pub held_by_submodel : Submodel → List Reference
held_by_submodel d = held_by (head_members d.head
    ++ (codes "qualifiers", flat_map held_by_qualifier d.qualifiers) ∷ semantics_members d.semantics)

abbrev pub held_by_concept : Concept → List Reference
held_by_concept c = held_by (head_members c.head ++ (codes "isCaseOf", c.is_case_of) ∷ [])
