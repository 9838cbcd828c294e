-- Pages (IDTA-01002-3-0, pagination). Documents are listed by their identifiers in the order of the UTF-8 bytes, from behind the
-- one that a cursor tells; children and references to submodels by their places, from the one that a cursor tells. This profile's
-- own rule.
use Rattle.std.specs.Prelude.{ℕ, List, map, filter, take, drop, length, nat_lt, Bool, false, ◌&&◌, Option}
use Rattle.std.specs.FinMap as fin
use Rattle.std.specs.Option.{option_map_or}
use Rattle.std.specs.Str.{encode_utf8_all}
use Rattle.aas_model_names.specs.declared.collection.Collection.{Collection}
use Rattle.aas_model_names.specs.declared.collection.Collection.TheVariants.{Shells, Submodels, Concepts}
use Rattle.aas_store.specs.Documents.{Documents, Identifier, Map, is_above}
use Rattle.aas_page.specs.Filters.{passes_concept, passes_shell, passes_submodel}
use Rattle.aas_page.specs.declared.filter.Filter.{Filter}
use Rattle.aas_page.specs.declared.pages.Page.{Page}

-- some entries of a list, and whether a further one follows
pub record PageOf (X : Type 0) : Type 0 where
  pub entries : List X
  pub more : Bool

-- the first entries, as many as the limit says
abbrev pub first_page : {X : Type 0} → ℕ → List X → PageOf X
first_page limit xs = record { entries = take limit xs; more = nat_lt limit (length xs) }

-- from a place on
abbrev pub page_from : {X : Type 0} → ℕ → ℕ → List X → PageOf X
page_from place limit xs = first_page limit (drop place xs)

-- the documents above an identifier that pass, in the order of their identifiers
abbrev pub left_after : {X : Type 0} → (X → Bool) → Option Identifier → Map X → List (Identifier × X)
left_after passes after m = filter (λ e. is_above after e.0 && passes e.1) (fin.entries m)

abbrev pub page_after : {X : Type 0} → (X → Bool) → Option Identifier → ℕ → Map X → PageOf (Identifier × X)
page_after passes after limit m = first_page limit (left_after passes after m)

-- the identifiers of a page
abbrev pub ids_on : {X : Type 0} → PageOf (Identifier × X) → PageOf Identifier
ids_on p = record { entries = map (λ e. e.0) p.entries; more = p.more }

-- what a page shows
abbrev pub shown : Page → PageOf Identifier
shown p = record { entries = map encode_utf8_all p.ids; more = p.more }

-- ---- one row a collection

-- the document of an identifier is there, and passes
abbrev pub passes_at : Collection → Filter → Identifier → Documents → Bool
passes_at Shells f id d = option_map_or (passes_shell f) (fin.get d.shells id) false
passes_at Submodels f id d = option_map_or (passes_submodel f) (fin.get d.submodels id) false
passes_at Concepts f id d = option_map_or (passes_concept f) (fin.get d.concepts id) false

abbrev pub page_of : Collection → Filter → Option Identifier → ℕ → Documents → PageOf Identifier
page_of Shells f after limit d = ids_on (page_after (passes_shell f) after limit d.shells)
page_of Submodels f after limit d = ids_on (page_after (passes_submodel f) after limit d.submodels)
page_of Concepts f after limit d = ids_on (page_after (passes_concept f) after limit d.concepts)
