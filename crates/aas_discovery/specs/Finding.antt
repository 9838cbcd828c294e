-- Shells that are found by the index.
use Rattle.std.specs.Prelude.{◌≡◌, ℕ, List, Bool, true, false, map}
use Rattle.std.specs.FinMap as fin
use Rattle.std.specs.List.{list_all}
use Rattle.std.specs.Option.{option_map_or}
use Rattle.std.specs.Str.{encode_utf8_all}
use Rattle.aas_model.specs.declared.documents.Shell.{Shell}
use Rattle.aas_model.specs.declared.parts.SpecificAssetId.{SpecificAssetId}
use Rattle.aas_page.specs.Filters.{has_asset_id}
use Rattle.aas_store.specs.Documents.{Identifier, Map}
use Rattle.aas_discovery.specs.Carriers.{carriers}
use Rattle.aas_discovery.specs.Ids.{AreInOrder}

-- the shell of an identifier is there and has each of the specific asset ids
abbrev pub has_all : Map Shell → List SpecificAssetId → Identifier → Bool
has_all shells wanted id = option_map_or (λ s. list_all (has_asset_id s.asset) wanted) (fin.get shells id) false

-- the identifiers of all shells that have a specific asset id, which each shell has that has all of the wanted ones
pub record HoldOneOf (shells : Map Shell) (wanted : List SpecificAssetId) (ids : List (List ℕ)) : Type 0 where
  pub one : SpecificAssetId
  pub has_it : (s : Shell) → list_all (has_asset_id s.asset) wanted ≡ true → has_asset_id s.asset one ≡ true
  pub ids_are : map encode_utf8_all ids ≡ carriers (encode_utf8_all one.name) (encode_utf8_all one.value) shells
  pub in_order : AreInOrder ids
