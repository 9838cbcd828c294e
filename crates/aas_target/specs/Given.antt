-- What a query gives, where its settings are taken one after another. The first that can't be taken is bad: its value isn't of its form, or
-- its parameter was given before, though asset ids and the identifiers of documents may be given again. This profile's own rule.
use Rattle.std.specs.Prelude.{◌≡◌, ◌⊎◌, ℕ, Bool, true, List, [], ◌∷◌, ◌++◌, Option, Some, None, unwrap_or}
use Rattle.std.specs.Str.{chars}
use Rattle.aas_json_mapping.specs.Trees.{specific_asset_ids}
use Rattle.aas_model.specs.declared.parts.SpecificAssetId.{SpecificAssetId}
use Rattle.aas_model_names.specs.declared.modifiers.Extent.{Extent}
use Rattle.aas_model_names.specs.declared.modifiers.Extent.TheVariants.{WithoutBlobValue}
use Rattle.aas_model_names.specs.declared.modifiers.Level.{Level}
use Rattle.aas_model_names.specs.declared.modifiers.Level.TheVariants.{Deep}
use Rattle.aas_page.specs.Segment.{IsCursor, IsIdentifierCode}
use Rattle.aas_page.specs.declared.filter.Filter.{Filter}
use Rattle.aas_page.specs.declared.filter.Selection.{Selection}
use Rattle.aas_page.specs.declared.filter.Span.{Span}
use Rattle.aas_reference.specs.Trees.{references}
use Rattle.aas_target.specs.Query.{Setting, settings_of}
use Rattle.aas_target.specs.Values.{IsLimit, IsPlaceCursor, IsTreeCode, extent_named, flag_named, level_named}
use Rattle.aas_target.specs.declared.given.Given.{Given}
use Rattle.aas_target.specs.declared.given.Shown.{Shown}
use Rattle.aas_target.specs.declared.parameter.Parameter.{Parameter}
use Rattle.aas_target.specs.declared.parameter.Parameter.TheVariants as parameter

-- ---- settings

abbrev pub nothing_given : Given
nothing_given = record {
  id_short = None;
  asset_ids = [];
  semantic_id = None;
  is_case_of = None;
  limit = None;
  after = None;
  from = None;
  level = None;
  extent = None;
  shells = [];
  submodels = [];
  concepts = None;
}

-- a value of this kind, where there was none
abbrev pub Gains : {A : Type 0} → (A → Type 0) → Option A → (Option A → Given) → Given → Type 0
Gains {A = A} IsValue old with_it more = (old ≡ None) × (a : A) × IsValue a × (more ≡ with_it (Some a))

-- what is given, with one setting more
abbrev pub Takes : Given → Setting → Given → Type 0
Takes g (parameter.IdShort, text) more = Gains (λ t. t ≡ chars text) g.id_short (λ t. record g { id_short = t }) more
Takes g (parameter.AssetIds, text) more =
    (a : SpecificAssetId) × IsTreeCode specific_asset_ids text a × (more ≡ record g { asset_ids = g.asset_ids ++ a ∷ [] })
Takes g (parameter.SemanticId, text) more = Gains (IsTreeCode references text) g.semantic_id (λ r. record g { semantic_id = r }) more
Takes g (parameter.IsCaseOf, text) more = Gains (IsTreeCode references text) g.is_case_of (λ r. record g { is_case_of = r }) more
Takes g (parameter.Limit, text) more = Gains (IsLimit text) g.limit (λ n. record g { limit = n }) more
Takes g (parameter.After, text) more = Gains (IsCursor text) g.after (λ id. record g { after = id }) more
Takes g (parameter.From, text) more = Gains (IsPlaceCursor text) g.from (λ n. record g { from = n }) more
Takes g (parameter.Level, text) more = Gains (λ l. level_named text ≡ Some l) g.level (λ l. record g { level = l }) more
Takes g (parameter.Extent, text) more = Gains (λ e. extent_named text ≡ Some e) g.extent (λ e. record g { extent = e }) more
Takes g (parameter.AasIds, text) more = (id : List ℕ) × IsIdentifierCode text id × (more ≡ record g { shells = g.shells ++ id ∷ [] })
Takes g (parameter.SubmodelIds, text) more = (id : List ℕ) × IsIdentifierCode text id × (more ≡ record g { submodels = g.submodels ++ id ∷ [] })
Takes g (parameter.IncludeConceptDescriptions, text) more =
    Gains (λ b. flag_named text ≡ Some b) g.concepts (λ b. record g { concepts = b }) more

-- what is given, with all of these settings more
abbrev pub TakesAll : Given → List Setting → Given → Type 0
TakesAll g [] all = all ≡ g
TakesAll g (s ∷ later) all = (next : Given) × Takes g s next × TakesAll next later all

-- the parameter of the first of these that can't be taken
abbrev pub IsFirstBad : Given → List Setting → Parameter → Type 0
IsFirstBad g [] p = ⊥
IsFirstBad g (s ∷ later) p =
    (((next : Given) → ¬ Takes g s next) × (p ≡ s.0))
    ⊎ ((next : Given) × Takes g s next × IsFirstBad next later p)

-- what a query gives of the parameters that are listed
abbrev pub Gives : List Parameter → List ℕ → Given → Type 0
Gives listed query = TakesAll nothing_given (settings_of listed query)

-- the first of them that is bad in it
abbrev pub IsBadIn : List Parameter → List ℕ → Parameter → Type 0
IsBadIn listed query = IsFirstBad nothing_given (settings_of listed query)

-- ---- what is asked for

abbrev pub level_of : Given → Level
level_of g = unwrap_or g.level Deep

abbrev pub extent_of : Given → Extent
extent_of g = unwrap_or g.extent WithoutBlobValue

-- how much is shown
abbrev pub shown_of : Given → Shown
shown_of g = record { level = level_of g; extent = extent_of g }

abbrev pub limit_of : Given → ℕ
limit_of g = unwrap_or g.limit 100

abbrev pub filter_of : Given → Filter
filter_of g = record { id_short = g.id_short; semantic_id = g.semantic_id; asset_ids = g.asset_ids; is_case_of = g.is_case_of }

-- of documents
abbrev pub selection_of : Given → Selection
selection_of g = record { filter = filter_of g; after = g.after; limit = limit_of g }

-- of children or references, by their places
abbrev pub span_of : Given → Span
span_of g = record { from = unwrap_or g.from 0; limit = limit_of g }

-- whether concept descriptions are asked for with the documents
abbrev pub concepts_of : Given → Bool
concepts_of g = unwrap_or g.concepts true
