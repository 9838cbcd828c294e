-- An index: under a name and a value, both in UTF-8, the identifiers of shells.
use Rattle.std.specs.Prelude.{◌≡◌, ℕ, List, Bool, false, Option, Some, None, ⊤}
use Rattle.std.specs.FinMap as fin
use Rattle.std.specs.Option.{option_map_or}
use Rattle.aas_model.specs.declared.documents.Shell.{Shell}
use Rattle.aas_page.specs.Filters.{carries}
use Rattle.aas_store.specs.Documents.{Identifier, Map}

abbrev pub Values : Type 0
Values = Map (Map ⊤)

abbrev pub Index : Type 0
Index = Map Values

-- an identifier stands under a value
abbrev pub stands : Values → List ℕ → Identifier → Bool
stands values value id = option_map_or (λ ids. fin.contains_key ids id) (fin.get values value) false

-- it stands under a name and a value
abbrev pub bears : Index → List ℕ → List ℕ → Identifier → Bool
bears index name value id = option_map_or (λ values. stands values value id) (fin.get index name) false

-- the shell of an identifier is there and carries a name and a value
abbrev pub carried : Map Shell → List ℕ → List ℕ → Identifier → Bool
carried shells name value id = option_map_or (λ s. carries s.asset name value) (fin.get shells id) false

-- exactly the identifiers of the shells that carry a name and a value stand under them
abbrev pub IsIndexOf : Index → Map Shell → Type 0
IsIndexOf index shells = (name value : List ℕ) (id : Identifier)
    → bears index name value id ≡ carried shells name value id

-- what stands under a name and a value: exactly the shells that carry them, if there are any
abbrev pub IsPosting : Map Shell → List ℕ → List ℕ → Option (Map ⊤) → Type 0
IsPosting shells name value None = (id : Identifier) → carried shells name value id ≡ false
IsPosting shells name value (Some ids) = (id : Identifier) → fin.contains_key ids id ≡ carried shells name value id
