-- Which commands are well formed, and the payloads in which they are kept: a tag byte, and then fields, each with its
-- length as four bytes, greatest first, before it. Documents, environments, elements and references are canonical
-- texts, values compact ones, identifiers and paths are UTF-8. This profile's own rule.
use Rattle.std.specs.Prelude.{◌≡◌, ℕ, ◌+◌, ◌≤◌, List, [], ◌∷◌, ◌++◌, length, flat_map, Option, Some, None, IfSome, ⊤}
use Rattle.std.specs.Int.{to_be_bytes, w32}
use Rattle.std.specs.Str.{IsUtf8, encode_utf8_all}
use Rattle.serde_json.specs.Data.{Data, depth}
use Rattle.serde_json.specs.Read.{max_depth}
use Rattle.serde_json.specs.Written.{compact_text}
use Rattle.aas_json_table.specs.TooDeep.{limits}
use Rattle.aas_json_spelling.specs.Spells.{canonical_text}
use Rattle.aas_json_spelling.specs.Values.{IsOrdered, HasWholeNumbers}
use Rattle.aas_json_mapping.specs.Trees.{asset_informations, concepts, elements, environments, shells, submodels}
use Rattle.aas_model.specs.declared.path.PathStep.{PathStep}
use Rattle.aas_path.specs.PathText.{path_text}
use Rattle.aas_path_trees.specs.PathRule.{KeepsRule}
use Rattle.aas_edit_laws.specs.Laws.{at_level}
use Rattle.aas_reference.specs.Trees.{references}
use Rattle.aas_command.specs.declared.command.Command.{Command}
use Rattle.aas_command.specs.declared.command.Command.TheVariants.{CreateShell, CreateSubmodel, CreateConcept}
use Rattle.aas_command.specs.declared.command.Command.TheVariants.{ReplaceShell, ReplaceSubmodel, ReplaceConcept}
use Rattle.aas_command.specs.declared.command.Command.TheVariants.{DeleteShell, DeleteSubmodel, DeleteConcept, SetAsset}
use Rattle.aas_command.specs.declared.command.Command.TheVariants.{AddReference, DropReference, InsertElement}
use Rattle.aas_command.specs.declared.command.Command.TheVariants.{ReplaceElement, DeleteElement, UpdateValue, Import}

-- a path that can be written, or the empty one, which leads to the submodel
abbrev pub IsPlace : List PathStep → Type 0
IsPlace [] = ⊤
IsPlace (s ∷ p) = KeepsRule (s ∷ p)

-- A JSON value can be sent: names rise in it, as in each value that is read, its numbers are whole, and at most 127
-- arrays and objects nest. So its text, where it is UTF-8, is read as the same value.
pub record IsSendable (v : Data) : Type 0 where
  pub order : IsOrdered v
  pub numbers : HasWholeNumbers v
  pub shallow : depth v ≤ max_depth

-- what it brings is whole, at its level, or can be sent, and its path can be written
unfoldable pub IsWellFormed : Command → Type 0
IsWellFormed (CreateShell d) = shells.IsWhole limits d
IsWellFormed (CreateSubmodel d) = submodels.IsWhole limits d
IsWellFormed (CreateConcept d) = concepts.IsWhole limits d
IsWellFormed (ReplaceShell d) = shells.IsWhole limits d
IsWellFormed (ReplaceSubmodel d) = submodels.IsWhole limits d
IsWellFormed (ReplaceConcept d) = concepts.IsWhole limits d
IsWellFormed (DeleteShell id) = ⊤
IsWellFormed (DeleteSubmodel id) = ⊤
IsWellFormed (DeleteConcept id) = ⊤
IsWellFormed (SetAsset shell asset) = asset_informations.IsWhole limits asset
IsWellFormed (AddReference shell reference) = references.IsWhole limits reference
IsWellFormed (DropReference shell submodel) = ⊤
IsWellFormed (InsertElement id p e) = IsPlace p.steps × elements.IsWhole (at_level (length p.steps + 1)) e
IsWellFormed (ReplaceElement id p e) = KeepsRule p.steps × elements.IsWhole (at_level (length p.steps)) e
IsWellFormed (DeleteElement id p) = KeepsRule p.steps
IsWellFormed (UpdateValue id p v) = IsPlace p.steps × IsSendable v
IsWellFormed (Import e) = environments.IsWhole limits e

-- a tag, and the fields behind it
pub record Tagged : Type 0 where
  pub tag : ℕ
  pub fields : List (List ℕ)

abbrev pub tagged : ℕ → List (List ℕ) → Tagged
tagged tag fields = record { tag = tag; fields = fields }

abbrev pub tagged_of : Command → Tagged
tagged_of (CreateShell d) = tagged 1 (canonical_text shells d ∷ [])
tagged_of (CreateSubmodel d) = tagged 2 (canonical_text submodels d ∷ [])
tagged_of (CreateConcept d) = tagged 3 (canonical_text concepts d ∷ [])
tagged_of (ReplaceShell d) = tagged 4 (canonical_text shells d ∷ [])
tagged_of (ReplaceSubmodel d) = tagged 5 (canonical_text submodels d ∷ [])
tagged_of (ReplaceConcept d) = tagged 6 (canonical_text concepts d ∷ [])
tagged_of (DeleteShell id) = tagged 7 (encode_utf8_all id ∷ [])
tagged_of (DeleteSubmodel id) = tagged 8 (encode_utf8_all id ∷ [])
tagged_of (DeleteConcept id) = tagged 9 (encode_utf8_all id ∷ [])
tagged_of (SetAsset shell asset) = tagged 10 (encode_utf8_all shell ∷ canonical_text asset_informations asset ∷ [])
tagged_of (AddReference shell reference) = tagged 11 (encode_utf8_all shell ∷ canonical_text references reference ∷ [])
tagged_of (DropReference shell submodel) = tagged 12 (encode_utf8_all shell ∷ encode_utf8_all submodel ∷ [])
tagged_of (InsertElement id p e) = tagged 13 (encode_utf8_all id ∷ path_text p.steps ∷ canonical_text elements e ∷ [])
tagged_of (ReplaceElement id p e) = tagged 14 (encode_utf8_all id ∷ path_text p.steps ∷ canonical_text elements e ∷ [])
tagged_of (DeleteElement id p) = tagged 15 (encode_utf8_all id ∷ path_text p.steps ∷ [])
tagged_of (UpdateValue id p v) = tagged 16 (encode_utf8_all id ∷ path_text p.steps ∷ compact_text v ∷ [])
tagged_of (Import e) = tagged 17 (canonical_text environments e ∷ [])

abbrev pub field : List ℕ → List ℕ
field bytes = to_be_bytes w32 (length bytes) ++ bytes

abbrev pub bytes_of : Tagged → List ℕ
bytes_of t = t.tag ∷ flat_map field t.fields

unfoldable pub payload_of : Command → List ℕ
payload_of c = bytes_of (tagged_of c)

-- the text of the document, the reference or the element that a command creates, if it creates one
abbrev pub created_text : Command → Option (List ℕ)
created_text (CreateShell d) = Some (canonical_text shells d)
created_text (CreateSubmodel d) = Some (canonical_text submodels d)
created_text (CreateConcept d) = Some (canonical_text concepts d)
created_text (AddReference shell reference) = Some (canonical_text references reference)
created_text (InsertElement id p e) = Some (canonical_text elements e)
created_text c = None

-- it is that text, in UTF-8, or the command creates nothing
abbrev pub IsCreatedText : Command → List ℕ → Type 0
IsCreatedText c text = IfSome (created_text c) (λ created. (text ≡ created) × IsUtf8 text)
