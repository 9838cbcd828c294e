-- Which documents pass a filter (IDTA-01002-3-0, the queries for shells by idShort and assetIds, for submodels by idShort and
-- semanticId, and for concept descriptions by idShort and isCaseOf). That references are compared by type and keys, and specific
-- asset ids by name and value, and that what isn't for a collection counts for nothing in it, are this profile's own rules.
use Rattle.std.specs.Prelude.{◌≡◌, ℕ, List, [], Option, Some, None, codes, bytes_eq, Bool, true, false, ◌&&◌, ◌||◌}
use Rattle.std.specs.List.{list_all, list_any}
use Rattle.std.specs.Str.{encode_utf8_all}
use Rattle.aas_model.specs.declared.asset.AssetInformation.{AssetInformation}
use Rattle.aas_model.specs.declared.documents.Concept.{Concept}
use Rattle.aas_model.specs.declared.documents.Shell.{Shell}
use Rattle.aas_model.specs.declared.documents.Submodel.{Submodel}
use Rattle.aas_model.specs.declared.parts.SpecificAssetId.{SpecificAssetId}
use Rattle.aas_model.specs.declared.reference.Reference.{Reference}
use Rattle.aas_path_trees.specs.ElementAt.{is_text}
use Rattle.aas_reference.specs.Same.{same}
use Rattle.aas_page.specs.declared.filter.Filter.{Filter}

-- it is this text, if one is asked for
abbrev pub has_text : Option (List ℕ) → Option (List ℕ) → Bool
has_text None own = true
has_text (Some wanted) own = is_text wanted own

abbrev pub is_same : Reference → Option Reference → Bool
is_same wanted None = false
is_same wanted (Some own) = same wanted own

-- it is this reference, if one is asked for
abbrev pub has_reference : Option Reference → Option Reference → Bool
has_reference None own = true
has_reference (Some wanted) own = is_same wanted own

-- one of them is this reference, if one is asked for
abbrev pub has_reference_among : Option Reference → List Reference → Bool
has_reference_among None own = true
has_reference_among (Some wanted) own = list_any (same wanted) own

-- it has this name and value, in UTF-8
abbrev pub is_same_id : List ℕ → List ℕ → SpecificAssetId → Bool
is_same_id name value own = bytes_eq (encode_utf8_all own.name) name && bytes_eq (encode_utf8_all own.value) value

-- it is this text, in UTF-8
abbrev pub is_same_text : List ℕ → Option (List ℕ) → Bool
is_same_text value None = false
is_same_text value (Some own) = bytes_eq (encode_utf8_all own) value

abbrev pub is_global : List ℕ → Bool
is_global name = bytes_eq name (codes "globalAssetId")

-- An asset carries a name and a value, both in UTF-8: it has a specific asset id of these; the name globalAssetId
-- stands for its global one too (IDTA-01001-3-0, AssetInformation).
abbrev pub carries : AssetInformation → List ℕ → List ℕ → Bool
carries asset name value =
    list_any (is_same_id name value) asset.specific_asset_ids
    || (is_global name && is_same_text value asset.global_asset_id)

abbrev pub has_asset_id : AssetInformation → SpecificAssetId → Bool
has_asset_id asset wanted = carries asset (encode_utf8_all wanted.name) (encode_utf8_all wanted.value)

-- nothing is asked for
pub record AsksNothing (f : Filter) : Type 0 where
  pub id_short : f.id_short ≡ None
  pub semantic_id : f.semantic_id ≡ None
  pub asset_ids : f.asset_ids ≡ []
  pub is_case_of : f.is_case_of ≡ None

-- ---- one row a collection

abbrev pub passes_shell : Filter → Shell → Bool
passes_shell f s = has_text f.id_short s.head.id_short && list_all (has_asset_id s.asset) f.asset_ids

abbrev pub passes_submodel : Filter → Submodel → Bool
passes_submodel f s = has_text f.id_short s.head.id_short && has_reference f.semantic_id s.semantics.semantic_id

abbrev pub passes_concept : Filter → Concept → Bool
passes_concept f c = has_text f.id_short c.head.id_short && has_reference_among f.is_case_of c.is_case_of
