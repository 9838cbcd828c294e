-- The trees of each sort of document, element and part: how they are spelled, and which are whole.
use Rattle.std.specs.Prelude.{◌≡◌, Bool, true}
use Rattle.serde_json.specs.Data.{Data}
use Rattle.aas_json_table.specs.Table.{Sort, specific_asset_id, asset_information, environment, shell, submodel, concept, element}
use Rattle.aas_json_table.specs.TooDeep.{Levels}
use Rattle.aas_json_spelling.specs.Spells.{Trees}
use Rattle.aas_json_mapping.specs.Parts.{spell_specific_asset_id, spell_asset_information}
use Rattle.aas_json_mapping.specs.Elements.{spell_element}
use Rattle.aas_json_mapping.specs.Documents.{spell_shell, spell_submodel, spell_concept, spell_environment}
use Rattle.aas_json_mapping.specs.Whole.{whole_specific_asset_id, whole_asset_information, is_whole_element, is_whole_shell, is_whole_submodel, is_whole_concept, is_whole_environment}
use Rattle.aas_model.specs.declared.parts.SpecificAssetId.{SpecificAssetId}
use Rattle.aas_model.specs.declared.asset.AssetInformation.{AssetInformation}
use Rattle.aas_model.specs.declared.element.Element.{Element}
use Rattle.aas_model.specs.declared.documents.Submodel.{Submodel}
use Rattle.aas_model.specs.declared.documents.Shell.{Shell}
use Rattle.aas_model.specs.declared.documents.Concept.{Concept}
use Rattle.aas_model.specs.declared.documents.Environment.{Environment}

-- those of a sort that a test finds whole
abbrev pub trees_by : {A : Type 0} → Sort → (A → Data) → (Levels → A → Bool) → Trees A
trees_by sort spell is_whole = record { sort = sort; spell = spell; IsWhole = λ left t. is_whole left t ≡ true }

abbrev pub specific_asset_ids : Trees SpecificAssetId
specific_asset_ids = trees_by specific_asset_id spell_specific_asset_id whole_specific_asset_id

abbrev pub asset_informations : Trees AssetInformation
asset_informations = trees_by asset_information spell_asset_information whole_asset_information

abbrev pub elements : Trees Element
elements = trees_by element spell_element is_whole_element

abbrev pub shells : Trees Shell
shells = trees_by shell spell_shell is_whole_shell

abbrev pub submodels : Trees Submodel
submodels = trees_by submodel spell_submodel is_whole_submodel

abbrev pub concepts : Trees Concept
concepts = trees_by concept spell_concept is_whole_concept

abbrev pub environments : Trees Environment
environments = trees_by environment spell_environment is_whole_environment
