-- Whole trees: every member that the table requires is there, children stand only where their parent's kind has a place for them, each in a role of that kind,
-- and no level passes the limits. The limits are this profile's own rule; the rest restates the metamodel of IDTA-01001-3-0.
use Rattle.std.specs.Prelude.{ℕ, suc, ◌&&◌, nat_le, is_some, Bool, true, false, List, [], ◌∷◌, map, Option, Some, None}
use Rattle.std.specs.List.{list_all}
use Rattle.aas_model_names.specs.KindNames.{is_data_element}
use Rattle.aas_json_table.specs.TooDeep.{Levels}
use Rattle.aas_json_spelling.specs.Lists.{most}
use Rattle.aas_json_spelling.specs.Kept.{each_true, is_ordered, kept_depth}
use Rattle.aas_reference.specs.Whole.{is_whole, whole_if_there, whole_and_there}
use Rattle.aas_model.specs.declared.reference.Semantics.{Semantics}
use Rattle.aas_model.specs.declared.plain.Plain.{Plain}
use Rattle.aas_model.specs.declared.parts.Extension.{Extension}
use Rattle.aas_model.specs.declared.parts.Qualifier.{Qualifier}
use Rattle.aas_model.specs.declared.parts.SpecificAssetId.{SpecificAssetId}
use Rattle.aas_model.specs.declared.parts.Administration.{Administration}
use Rattle.aas_model.specs.declared.asset.AssetInformation.{AssetInformation}
use Rattle.aas_model.specs.declared.common.Common.{Common}
use Rattle.aas_model.specs.declared.element.Element.{Element, fold-Element, out-Element}
use Rattle.aas_model.specs.declared.element.Element.TheOpen.{Element-F}
use Rattle.aas_model.specs.declared.element.Role.{Role}
use Rattle.aas_model.specs.declared.element.Role.TheVariants as role
use Rattle.aas_model.specs.declared.payload.Payload.{Payload}
use Rattle.aas_model.specs.declared.payload.Payload.TheVariants as p
use Rattle.aas_model.specs.Payload.{kind_of}
use Rattle.aas_model.specs.declared.common.Head.{Head}
use Rattle.aas_model.specs.declared.documents.Submodel.{Submodel}
use Rattle.aas_model.specs.declared.documents.Shell.{Shell}
use Rattle.aas_model.specs.declared.documents.Concept.{Concept}
use Rattle.aas_model.specs.declared.documents.Environment.{Environment}

-- ---- parts

-- kept data whose maps have distinct names in byte order, and which isn't too deep
abbrev pub whole_kept : Levels → List Plain → Bool
whole_kept left ps = each_true (map is_ordered ps) && nat_le (kept_depth ps) left.kept

abbrev pub whole_semantics : Levels → Semantics → Bool
whole_semantics left s = whole_if_there left s.semantic_id && list_all (is_whole left) s.supplemental_semantic_ids

abbrev pub whole_extension : Levels → Extension → Bool
whole_extension left e = list_all (is_whole left) e.refers_to && whole_semantics left e.semantics

abbrev pub whole_qualifier : Levels → Qualifier → Bool
whole_qualifier left q = whole_if_there left q.value_id && whole_semantics left q.semantics

abbrev pub whole_specific_asset_id : Levels → SpecificAssetId → Bool
whole_specific_asset_id left a = whole_if_there left a.external_subject_id && whole_semantics left a.semantics

abbrev pub whole_administration : Levels → Administration → Bool
whole_administration left a = whole_if_there left a.creator && whole_kept left a.embedded_data_specifications

abbrev pub whole_asset_information : Levels → AssetInformation → Bool
whole_asset_information left a = list_all (whole_specific_asset_id left) a.specific_asset_ids

-- ---- elements

abbrev pub whole_common : Levels → Common → Bool
whole_common left c =
    list_all (whole_extension left) c.extensions
    && whole_kept left c.embedded_data_specifications
    && whole_semantics left c.semantics
    && list_all (whole_qualifier left) c.qualifiers

-- required members are there, and references are whole
abbrev pub whole_payload : Levels → Payload → Bool
whole_payload left (p.Property t v i) = whole_if_there left i
whole_payload left (p.MultiLanguageProperty v i) = whole_if_there left i
whole_payload left (p.Range t min max) = true
whole_payload left (p.File t v) = is_some t
whole_payload left (p.Blob t v) = is_some t
whole_payload left (p.ReferenceElement v) = whole_if_there left v
whole_payload left (p.RelationshipElement first second) = whole_and_there left first && whole_and_there left second
whole_payload left (p.AnnotatedRelationshipElement first second) = whole_and_there left first && whole_and_there left second
whole_payload left (p.Entity t g ids) = is_some t && list_all (whole_specific_asset_id left) ids
whole_payload left (p.BasicEventElement observed d s topic broker last min max) = whole_and_there left observed && whole_if_there left broker
whole_payload left p.Capability = true
whole_payload left p.Operation = true
whole_payload left p.SubmodelElementCollection = true
whole_payload left (p.SubmodelElementList o s t v) = whole_if_there left s

-- the parts of each element are whole
abbrev pub has_whole_parts : Levels → Element → Bool
has_whole_parts left = fold-Element Bool (λ e. whole_common left e.common && whole_payload left e.payload && list_all (λ b. b) e.kids)

-- what a parent sees of a child: its role, whether it is a data element, and whether all below it is placed
pub record Placed : Type 0 where
  pub role : Role
  pub is_data : Bool
  pub placed : Bool

abbrev pub is_member : Role → Bool
is_member role.Member = true
is_member r = false

abbrev pub is_annotation : Role → Bool
is_annotation role.Annotation = true
is_annotation r = false

abbrev pub is_statement : Role → Bool
is_statement role.Statement = true
is_statement r = false

abbrev pub is_variable : Role → Bool
is_variable role.Input = true
is_variable role.Output = true
is_variable role.Inoutput = true
is_variable r = false

-- whether a child may stand under a parent
abbrev pub admits : Payload → Placed → Bool
admits (p.AnnotatedRelationshipElement first second) c = is_annotation c.role && c.is_data
admits (p.Entity t g ids) c = is_statement c.role
admits p.Operation c = is_variable c.role
admits p.SubmodelElementCollection c = is_member c.role
admits (p.SubmodelElementList o s t v) c = is_member c.role
admits p c = false

-- the variables of an Operation stand in this order: input, output, inoutput
abbrev pub rank : Role → ℕ
rank role.Output = 1
rank role.Inoutput = 2
rank r = 0

abbrev pub in_order : List ℕ → Bool
in_order [] = true
in_order (n ∷ ns) = list_all (nat_le n) ns && in_order ns

abbrev pub placed_over : Element-F Placed → Placed
placed_over e = record {
  role = e.role;
  is_data = is_data_element (kind_of e.payload);
  placed = list_all (admits e.payload) e.kids && in_order (map (λ c. rank c.role) e.kids) && list_all (λ c. c.placed) e.kids;
}

-- children stand only where their parent's kind has a place for them
abbrev pub is_placed : Element → Bool
is_placed e = (fold-Element Placed placed_over e).placed

-- how many levels of elements an element has, its own among them
abbrev pub element_levels : Element → ℕ
element_levels = fold-Element ℕ (λ e. suc (most e.kids))

-- an element that stands in a document, in its role
abbrev pub is_whole_child : Levels → Element → Bool
is_whole_child left e = has_whole_parts left e && is_placed e && nat_le (element_levels e) left.elements

-- an element that stands by itself
abbrev pub is_whole_element : Levels → Element → Bool
is_whole_element left e = is_member (out-Element e).role && is_whole_child left e

-- ---- documents

abbrev pub whole_administration_if_there : Levels → Option Administration → Bool
whole_administration_if_there left None = true
whole_administration_if_there left (Some a) = whole_administration left a

abbrev pub whole_head : Levels → Head → Bool
whole_head left h = whole_administration_if_there left h.administration && list_all (whole_extension left) h.extensions && whole_kept left h.embedded_data_specifications

abbrev pub is_whole_shell : Levels → Shell → Bool
is_whole_shell left s = whole_head left s.head && whole_if_there left s.derived_from && whole_asset_information left s.asset && list_all (is_whole left) s.submodels

abbrev pub is_whole_submodel : Levels → Submodel → Bool
is_whole_submodel left s =
    whole_head left s.head && whole_semantics left s.semantics && list_all (whole_qualifier left) s.qualifiers && list_all (is_whole_element left) s.kids

abbrev pub is_whole_concept : Levels → Concept → Bool
is_whole_concept left c = whole_head left c.head && list_all (is_whole left) c.is_case_of

abbrev pub is_whole_environment : Levels → Environment → Bool
is_whole_environment left e = list_all (is_whole_shell left) e.shells && list_all (is_whole_submodel left) e.submodels && list_all (is_whole_concept left) e.concepts
