-- The trees of each sort, by which it is shown that what a value says is spelled: elements, submodels and environments with their shape.
use Rattle.std.proofs.Common.{◌≡◌, ℕ, List, true, Option, Some, is_some}
use Rattle.serde_json.specs.Data.{Data, string}
use Rattle.aas_model_names.specs.Names.{names_of}
use Rattle.aas_json_table.specs.Table.{Sort, reference, lang_text, extension, qualifier, specific_asset_id, administration, asset_information, resource, operation_variable, environment, shell, submodel, concept, element, data_element, submodel_metadata, element_metadata, MemberType, text, word}
use Rattle.aas_json_table.specs.Spelled.{text_of}
use Rattle.aas_model.specs.declared.element.Element.{Element}
use Rattle.aas_json_spelling.proofs.Exists.{IsSpelled, Kinds, Gives, there, named_there, named_if}
use Rattle.aas_reference.specs.Spelling.{spell_reference}
use Rattle.aas_json_mapping.specs.Documents.{spell_shell, spell_submodel, spell_concept, spell_environment}
use Rattle.aas_json_mapping.specs.Elements.{spell_element}
use Rattle.aas_json_mapping.specs.Metadata.{IsMetadata, IsSubmodelMetadata}
use Rattle.aas_json_mapping.specs.Parts.{spell_lang_text, spell_extension, spell_qualifier, spell_specific_asset_id, spell_administration, spell_resource, spell_asset_information}
use Rattle.aas_json_mapping.specs.Shape.{IsShaped, IsShapedSubmodel, IsShapedEnvironment}
use Rattle.aas_json_mapping.specs.Whole.{is_placed}
use Rattle.aas_json_mapping.proofs.Elements.{seen}
use Rattle.aas_json_mapping.proofs.Kids.{spell_as_variable}

-- trees with their shape
abbrev pub With : {A : Type 0} → (A → Type 0) → Type 0
With {A = A} Shape = (t : A) × Shape t

-- a data element, whatever its role, whose children are placed
pub record PlacedData : Type 0 where
  pub element : Element
  pub placed : is_placed element ≡ true
  pub is_data : (seen element).is_data ≡ true

-- trees, and how they are spelled
record Spelling : Type 1 where
  Tree : Type 0
  spell : Tree → Data

abbrev by : {A : Type 0} → (A → Data) → Spelling
by {A = A} spell = record { Tree = A; spell = spell }

abbrev with_shape : {A : Type 0} → (Shape : A → Type 0) → (A → Data) → Spelling
with_shape Shape spell = by (λ (t : With Shape). spell t.0)

-- those of sorts that are read nowhere by themselves don't matter here
abbrev spelling : Sort → Spelling
spelling reference = by spell_reference
spelling lang_text = by spell_lang_text
spelling extension = by spell_extension
spelling qualifier = by spell_qualifier
spelling specific_asset_id = by spell_specific_asset_id
spelling administration = by spell_administration
spelling resource = by spell_resource
spelling asset_information = by spell_asset_information
spelling operation_variable = with_shape IsShaped spell_as_variable
spelling element = with_shape IsShaped spell_element
spelling data_element = by (λ (t : PlacedData). spell_element t.element)
spelling element_metadata = with_shape IsMetadata spell_element
spelling shell = by spell_shell
spelling submodel = with_shape IsShapedSubmodel spell_submodel
spelling submodel_metadata = with_shape IsSubmodelMetadata spell_submodel
spelling concept = by spell_concept
spelling environment = with_shape IsShapedEnvironment spell_environment
spelling s = by (λ (d : Data). d)

abbrev pub trees : Kinds
trees = record { Tree = λ s. (spelling s).Tree; spell = λ s. (spelling s).spell }

-- ---- what is found under a name

module _ (g : List ℕ → MemberType → Option Data) (each : Gives trees g) where
  pub text_there : (n : List ℕ) → is_some (g n text) ≡ true → (t : List ℕ) × (g n text ≡ Some (text_of t))
  text_there n e = there text_of (g n text) (each n text) e

  pub word_if : {V : Type 0} (name : V → List ℕ) (all : List V) (n : List ℕ)
      → IsSpelled (λ v. string (name v)) (g n (word (names_of name all)))
  word_if name all n = named_if name all (g n (word (names_of name all))) (each n (word (names_of name all)))

  pub word_there : {V : Type 0} (name : V → List ℕ) (all : List V) (n : List ℕ)
      → is_some (g n (word (names_of name all))) ≡ true
      → (v : V) × (g n (word (names_of name all)) ≡ Some (string (name v)))
  word_there name all n e =
      named_there name all (g n (word (names_of name all))) (each n (word (names_of name all))) e
