-- What the fields behind each tag hold. This profile's own rule.
use Rattle.std.specs.Prelude.{◌≡◌, ◌==◌, ◌+◌, ℕ, List, [], ◌∷◌, length, Option, option_map, find}
use Rattle.std.specs.Str.{IsUtf8}
use Rattle.serde_json.specs.Data.{Data}
use Rattle.serde_json.specs.Written.{compact_text}
use Rattle.aas_json_table.specs.TooDeep.{limits}
use Rattle.aas_json_mapping.specs.Trees.{asset_informations, concepts, elements, environments, shells, submodels}
use Rattle.aas_model.specs.declared.path.PathStep.{PathStep}
use Rattle.aas_edit_laws.specs.Laws.{at_level}
use Rattle.aas_document_read.specs.Canonical.{IsCanonical}
use Rattle.aas_path.specs.PathText.{IsPath, path_text}
use Rattle.aas_path_trees.specs.PathRule.{KeepsRule}
use Rattle.aas_command.specs.Commands.{IsPlace, IsSendable}
use Rattle.aas_reference.specs.Trees.{references}

-- what a field may hold
pub data FieldType : Type 0 where
  identifier : FieldType
  shell : FieldType
  submodel : FieldType
  concept : FieldType
  asset_information : FieldType
  reference : FieldType
  -- the path of an element
  path : FieldType
  -- the same, or nothing, which is the submodel
  place : FieldType
  -- an element, for the place of the one to which the path before it leads
  element : FieldType
  -- an element, for a place right below
  child : FieldType
  -- a JSON value
  value : FieldType
  environment : FieldType

-- the compact text of a value that can be sent, in UTF-8
abbrev pub IsCompact : List ℕ → Type 0
IsCompact content = IsUtf8 content × ((v : Data) × IsSendable v × (content ≡ compact_text v))

-- behind a submodel's identifier stands the text of this path
abbrev pub IsBehind : List (List ℕ) → List PathStep → Type 0
IsBehind (id ∷ text ∷ []) p = text ≡ path_text p
IsBehind before p = ⊥

-- The content has the type, behind the contents of the fields before it.
abbrev pub HasType : FieldType → List (List ℕ) → List ℕ → Type 0
HasType identifier before content = IsUtf8 content
HasType shell before content = IsCanonical shells limits content
HasType submodel before content = IsCanonical submodels limits content
HasType concept before content = IsCanonical concepts limits content
HasType asset_information before content = IsCanonical asset_informations limits content
HasType reference before content = IsCanonical references limits content
HasType path before content = (p : List PathStep) × IsPath content p
HasType place before content = (p : List PathStep) × IsPlace p × (content ≡ path_text p)
HasType element before content =
    (p : List PathStep) × KeepsRule p × IsBehind before p × IsCanonical elements (at_level (length p)) content
HasType child before content =
    (p : List PathStep) × IsPlace p × IsBehind before p × IsCanonical elements (at_level (length p + 1)) content
HasType value before content = IsCompact content
HasType environment before content = IsCanonical environments limits content

-- ---- one row a tag

pub record Row : Type 0 where
  pub tag : ℕ
  pub types : List FieldType

abbrev pub row : ℕ → List FieldType → Row
row tag types = record { tag = tag; types = types }

abbrev pub rows : List Row
rows =
    row 1 (shell ∷ [])
    ∷ row 2 (submodel ∷ [])
    ∷ row 3 (concept ∷ [])
    ∷ row 4 (shell ∷ [])
    ∷ row 5 (submodel ∷ [])
    ∷ row 6 (concept ∷ [])
    ∷ row 7 (identifier ∷ [])
    ∷ row 8 (identifier ∷ [])
    ∷ row 9 (identifier ∷ [])
    ∷ row 10 (identifier ∷ asset_information ∷ [])
    ∷ row 11 (identifier ∷ reference ∷ [])
    ∷ row 12 (identifier ∷ identifier ∷ [])
    ∷ row 13 (identifier ∷ place ∷ child ∷ [])
    ∷ row 14 (identifier ∷ path ∷ element ∷ [])
    ∷ row 15 (identifier ∷ path ∷ [])
    ∷ row 16 (identifier ∷ place ∷ value ∷ [])
    ∷ row 17 (environment ∷ [])
    ∷ []

-- the types of the fields behind a tag, if a command has it
abbrev pub types_of : ℕ → Option (List FieldType)
types_of tag = option_map (λ r. r.types) (find (λ r. r.tag == tag) rows)
