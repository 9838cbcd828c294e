-- The query of a target. It is a form (URL Standard, section 5), in UTF-8. That a parameter is ignored where the resource doesn't list it
-- is this profile's own rule.
use Rattle.std.specs.Prelude.{ℕ, List, codes, bytes_eq, Option, option_map}
use Rattle.std.specs.List.{filter_map, find}
use Rattle.std.specs.Str.Lossy.{utf8_lossy}
use Rattle.form_urlencoded.specs.Form.{decode, raw_pairs}
use Rattle.aas_target.specs.declared.parameter.Parameter.{Parameter}
use Rattle.aas_target.specs.declared.parameter.Parameter.TheVariants.{IdShort, AssetIds, SemanticId, IsCaseOf, Limit, After, From, Level, Extent, AasIds, SubmodelIds, IncludeConceptDescriptions}

-- The names of the parameters (IDTA-01002-3-0, HTTP/REST API). A cursor tells the document behind which a page begins, or the place from
-- which on it lists children or references.
abbrev pub parameter_name : Parameter → List ℕ
parameter_name IdShort = codes "idShort"
parameter_name AssetIds = codes "assetIds"
parameter_name SemanticId = codes "semanticId"
parameter_name IsCaseOf = codes "isCaseOf"
parameter_name Limit = codes "limit"
parameter_name After = codes "cursor"
parameter_name From = codes "cursor"
parameter_name Level = codes "level"
parameter_name Extent = codes "extent"
parameter_name AasIds = codes "aasIds"
parameter_name SubmodelIds = codes "submodelIds"
parameter_name IncludeConceptDescriptions = codes "includeConceptDescriptions"

-- a parameter, and its value
abbrev pub Setting : Type 0
Setting = Parameter × List ℕ

-- the text for which a part of a form stands
abbrev pub form_text : List ℕ → List ℕ
form_text bytes = utf8_lossy (decode bytes)

-- the parameter of this name, if it is one of those
abbrev pub parameter_among : List ℕ → List Parameter → Option Parameter
parameter_among name listed = find (λ p. bytes_eq name (parameter_name p)) listed

abbrev pub setting_of : List Parameter → List ℕ × List ℕ → Option Setting
setting_of listed pair = option_map (λ p. (p, form_text pair.1)) (parameter_among (form_text pair.0) listed)

-- what a query says of the parameters that are listed, in its order
unfoldable pub settings_of : List Parameter → List ℕ → List Setting
settings_of listed query = filter_map (setting_of listed) (raw_pairs query)
