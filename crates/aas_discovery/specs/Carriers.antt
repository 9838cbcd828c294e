-- The shells that carry a name and a value, and the pages of those that carry several (IDTA-01002-3-0, Asset
-- Administration Shell Basic Discovery, GetAllAssetAdministrationShellIdsByAssetLink).
use Rattle.std.specs.Prelude.{ℕ, List, [], ◌∷◌, map, filter, Option, Some, None}
use Rattle.std.specs.FinMap as fin
use Rattle.aas_model.specs.declared.documents.Shell.{Shell}
use Rattle.aas_model.specs.declared.parts.SpecificAssetId.{SpecificAssetId}
use Rattle.aas_model_names.specs.declared.collection.Collection.TheVariants.{Shells}
use Rattle.aas_page.specs.Filters.{carries}
use Rattle.aas_page.specs.Pages.{PageOf, page_of}
use Rattle.aas_page.specs.declared.filter.Filter.{Filter}
use Rattle.aas_store.specs.Documents.{Documents, Identifier, Map}

-- the identifiers of the shells that carry a name and a value, both in UTF-8, in their order
abbrev pub carriers : List ℕ → List ℕ → Map Shell → List Identifier
carriers name value shells = map (λ e. e.0) (filter (λ e. carries e.1.asset name value) (fin.entries shells))

-- a list that isn't empty
abbrev pub if_any : {X : Type 0} → List X → Option (List X)
if_any [] = None
if_any (x ∷ xs) = Some (x ∷ xs)

-- shells whose assets have each of the specific asset ids, compared by name and value
abbrev pub with_asset_ids : List SpecificAssetId → Filter
with_asset_ids wanted = record { id_short = None; semantic_id = None; asset_ids = wanted; is_case_of = None }

-- a page of the shells that carry the name and the value of each wanted one
abbrev pub lookup_page : List SpecificAssetId → Option Identifier → ℕ → Documents → PageOf Identifier
lookup_page wanted after limit d = page_of Shells (with_asset_ids wanted) after limit d
