-- The references by which documents name concept descriptions: those that say what a document, an element or a part of one means
-- (IDTA-01001-3-0, class HasSemantics; semanticIdListElement of a SubmodelElementList). The reference within a reference, its
-- referredSemanticId, and kept data aren't among them. This choice is this profile's own rule.
use Rattle.std.specs.Prelude.{List, [], ◌++◌, flat_map}
use Rattle.std.specs.FinMap as map
use Rattle.std.specs.Option.{option_map_or, option_to_list}
use Rattle.aas_model.specs.declared.common.Common.{Common}
use Rattle.aas_model.specs.declared.documents.Shell.{Shell}
use Rattle.aas_model.specs.declared.documents.Submodel.{Submodel}
use Rattle.aas_model.specs.declared.parts.Extension.{Extension}
use Rattle.aas_model.specs.declared.parts.Qualifier.{Qualifier}
use Rattle.aas_model.specs.declared.parts.SpecificAssetId.{SpecificAssetId}
use Rattle.aas_model.specs.declared.payload.Payload.{Payload}
use Rattle.aas_model.specs.declared.payload.Payload.TheVariants as p
use Rattle.aas_model.specs.declared.reference.Reference.{Reference}
use Rattle.aas_model.specs.declared.reference.Semantics.{Semantics}
use Rattle.aas_rows.specs.Rows.{Line, rows_of_all}
use Rattle.aas_store.specs.Documents.{Documents, Identifier}

-- ---- parts

-- semanticId and supplementalSemanticIds
abbrev pub semantics_roots : Semantics → List Reference
semantics_roots s = option_to_list s.semantic_id ++ s.supplemental_semantic_ids

abbrev pub extension_roots : Extension → List Reference
extension_roots e = semantics_roots e.semantics

abbrev pub qualifier_roots : Qualifier → List Reference
qualifier_roots q = semantics_roots q.semantics

abbrev pub asset_id_roots : SpecificAssetId → List Reference
asset_id_roots a = semantics_roots a.semantics

-- ---- elements

-- what one kind of element has for itself
abbrev pub own_roots : Payload → List Reference
own_roots (p.Entity t g ids) = flat_map asset_id_roots ids
own_roots (p.SubmodelElementList o s t v) = option_to_list s
own_roots _ = []

-- an element without those below it
abbrev pub element_roots : Common → Payload → List Reference
element_roots c payload =
    semantics_roots c.semantics ++ flat_map qualifier_roots c.qualifiers ++ flat_map extension_roots c.extensions
    ++ own_roots payload

abbrev pub line_roots : Line → List Reference
line_roots l = element_roots l.common l.payload

-- ---- documents

abbrev pub shell_roots : Shell → List Reference
shell_roots s = flat_map extension_roots s.head.extensions ++ flat_map asset_id_roots s.asset.specific_asset_ids

-- a submodel without its elements
abbrev pub head_roots : Submodel → List Reference
head_roots d = semantics_roots d.semantics ++ flat_map qualifier_roots d.qualifiers
    ++ flat_map extension_roots d.head.extensions

-- a submodel with its elements at every level
abbrev pub submodel_roots : Submodel → List Reference
submodel_roots d = head_roots d ++ flat_map line_roots (rows_of_all d.kids 1)

-- ---- the documents of some identifiers; those that aren't there have none

abbrev pub shell_roots_at : Documents → Identifier → List Reference
shell_roots_at m id = option_map_or shell_roots (map.get m.shells id) []

abbrev pub submodel_roots_at : Documents → Identifier → List Reference
submodel_roots_at m id = option_map_or submodel_roots (map.get m.submodels id) []
