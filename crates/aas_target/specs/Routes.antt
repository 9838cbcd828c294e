-- The resources of the interface, as a table: the path of each, its methods, and the parameters that a GET of it lists (IDTA-01002-3-0,
-- HTTP/REST API). A path is the target up to the first `?` (RFC 9112, section 3.2). Its segments are compared as they are sent; the
-- parameters of a path aren't empty. One submodel and all that belongs to it are reached through a shell too.
use Rattle.std.specs.Prelude.{◌≡◌, ◌⊎◌, ℕ, List, [], ◌∷◌, codes, ◌==◌, bytes_eq, nat_lt, length, Bool, true, ◌&&◌, if◌then◌else◌, Option, Some, None, is_some, option_map}
use Rattle.std.specs.List.{find, join_by}
use Rattle.std.specs.Option.{option_map_or, option_or}
use Rattle.form_urlencoded.specs.Form.{split, split_once}
use Rattle.aas_target.specs.declared.method.Method.{Method}
use Rattle.aas_target.specs.declared.method.Method.TheVariants.{Get, Post, Put, Patch, Delete}
use Rattle.aas_target.specs.declared.parameter.Parameter.{Parameter}
use Rattle.aas_target.specs.declared.parameter.Parameter.TheVariants.{IdShort, AssetIds, SemanticId, IsCaseOf, Limit, After, From, Level, Extent, AasIds, SubmodelIds, IncludeConceptDescriptions}
use Rattle.aas_target.specs.declared.routes.Resource.{Resource}
use Rattle.aas_target.specs.declared.routes.Resource.TheVariants.{Shells, ShellsReference, Shell, ShellReference, AssetInformation, ReferencesOf, ReferencesTo, Submodels, SubmodelsMetadata, SubmodelsValue, SubmodelsReference, Submodel, SubmodelMetadata, SubmodelValue, SubmodelReference, SubmodelPaths, Elements, ElementsMetadata, ElementsReference, Element, ElementMetadata, ElementValue, ElementReference, ElementPaths, Concepts, Concept, Lookup, Serialization}

-- ---- the table

-- a segment of a path: this text, or a parameter, which is the identifier of a document, that of a submodel to which a shell refers, or the
-- path of an element
pub data Segment : Type 0 where
  word : List ℕ → Segment
  id submodel path : Segment

pub record Row : Type 0 where
  -- the segments behind the first slash
  pub segments : List Segment
  pub methods : List Method
  -- of the query, at a GET
  pub parameters : List Parameter

abbrev pub row : List Segment → List Method → List Parameter → Row
row segments methods parameters = record { segments = segments; methods = methods; parameters = parameters }

abbrev pub shells : Segment
shells = word (codes "shells")

abbrev pub submodels : Segment
submodels = word (codes "submodels")

abbrev pub concepts : Segment
concepts = word (codes "concept-descriptions")

abbrev pub asset_information : Segment
asset_information = word (codes "asset-information")

abbrev pub submodel_refs : Segment
submodel_refs = word (codes "submodel-refs")

abbrev pub elements : Segment
elements = word (codes "submodel-elements")

abbrev pub metadata : Segment
metadata = word (codes "$metadata")

abbrev pub value : Segment
value = word (codes "$value")

abbrev pub reference : Segment
reference = word (codes "$reference")

abbrev pub paths : Segment
paths = word (codes "$path")

abbrev pub lookup : Segment
lookup = word (codes "lookup")

abbrev pub serialization : Segment
serialization = word (codes "serialization")

abbrev pub row_of : Resource → Row
row_of Shells = row (shells ∷ []) (Get ∷ Post ∷ []) (IdShort ∷ AssetIds ∷ Limit ∷ After ∷ [])
row_of ShellsReference = row (shells ∷ reference ∷ []) (Get ∷ []) (IdShort ∷ AssetIds ∷ Limit ∷ After ∷ [])
row_of Shell = row (shells ∷ id ∷ []) (Get ∷ Put ∷ Delete ∷ []) []
row_of ShellReference = row (shells ∷ id ∷ reference ∷ []) (Get ∷ []) []
row_of AssetInformation = row (shells ∷ id ∷ asset_information ∷ []) (Get ∷ Put ∷ []) []
row_of ReferencesOf = row (shells ∷ id ∷ submodel_refs ∷ []) (Get ∷ Post ∷ []) (Limit ∷ From ∷ [])
row_of ReferencesTo = row (shells ∷ id ∷ submodel_refs ∷ submodel ∷ []) (Delete ∷ []) []
row_of Submodels = row (submodels ∷ []) (Get ∷ Post ∷ []) (IdShort ∷ SemanticId ∷ Limit ∷ After ∷ Level ∷ Extent ∷ [])
row_of SubmodelsMetadata = row (submodels ∷ metadata ∷ []) (Get ∷ []) (IdShort ∷ SemanticId ∷ Limit ∷ After ∷ [])
row_of SubmodelsValue = row (submodels ∷ value ∷ []) (Get ∷ []) (IdShort ∷ SemanticId ∷ Limit ∷ After ∷ Level ∷ Extent ∷ [])
row_of SubmodelsReference = row (submodels ∷ reference ∷ []) (Get ∷ []) (IdShort ∷ SemanticId ∷ Limit ∷ After ∷ [])
row_of Submodel = row (submodels ∷ id ∷ []) (Get ∷ Put ∷ Delete ∷ []) (Level ∷ Extent ∷ [])
row_of SubmodelMetadata = row (submodels ∷ id ∷ metadata ∷ []) (Get ∷ Patch ∷ []) []
row_of SubmodelValue = row (submodels ∷ id ∷ value ∷ []) (Get ∷ Patch ∷ []) (Level ∷ Extent ∷ [])
row_of SubmodelReference = row (submodels ∷ id ∷ reference ∷ []) (Get ∷ []) []
row_of SubmodelPaths = row (submodels ∷ id ∷ paths ∷ []) (Get ∷ []) (Level ∷ [])
row_of Elements = row (submodels ∷ id ∷ elements ∷ []) (Get ∷ Post ∷ []) (Limit ∷ From ∷ Level ∷ Extent ∷ [])
row_of ElementsMetadata = row (submodels ∷ id ∷ elements ∷ metadata ∷ []) (Get ∷ []) (Limit ∷ From ∷ [])
row_of ElementsReference = row (submodels ∷ id ∷ elements ∷ reference ∷ []) (Get ∷ []) (Limit ∷ From ∷ [])
row_of Element = row (submodels ∷ id ∷ elements ∷ path ∷ []) (Get ∷ Post ∷ Put ∷ Delete ∷ []) (Level ∷ Extent ∷ [])
row_of ElementMetadata = row (submodels ∷ id ∷ elements ∷ path ∷ metadata ∷ []) (Get ∷ Patch ∷ []) []
row_of ElementValue = row (submodels ∷ id ∷ elements ∷ path ∷ value ∷ []) (Get ∷ Patch ∷ []) (Level ∷ Extent ∷ [])
row_of ElementReference = row (submodels ∷ id ∷ elements ∷ path ∷ reference ∷ []) (Get ∷ []) []
row_of ElementPaths = row (submodels ∷ id ∷ elements ∷ path ∷ paths ∷ []) (Get ∷ []) (Level ∷ [])
row_of Concepts = row (concepts ∷ []) (Get ∷ Post ∷ []) (IdShort ∷ IsCaseOf ∷ Limit ∷ After ∷ [])
row_of Concept = row (concepts ∷ id ∷ []) (Get ∷ Put ∷ Delete ∷ []) []
row_of Lookup = row (lookup ∷ shells ∷ []) (Get ∷ []) (AssetIds ∷ Limit ∷ After ∷ [])
row_of Serialization = row (serialization ∷ []) (Get ∷ []) (AasIds ∷ SubmodelIds ∷ IncludeConceptDescriptions ∷ [])

abbrev pub parameters_of : Resource → List Parameter
parameters_of resource = (row_of resource).parameters

-- one submodel, and all that belongs to it; of two that have a path the first is meant
abbrev pub submodel_resources : List Resource
submodel_resources =
    Submodel ∷ SubmodelMetadata ∷ SubmodelValue ∷ SubmodelReference ∷ SubmodelPaths
    ∷ Elements ∷ ElementsMetadata ∷ ElementsReference
    ∷ Element ∷ ElementMetadata ∷ ElementValue ∷ ElementReference ∷ ElementPaths ∷ []

-- all others, which are meant before those
abbrev pub other_resources : List Resource
other_resources =
    Shells ∷ ShellsReference ∷ Shell ∷ ShellReference ∷ AssetInformation ∷ ReferencesOf ∷ ReferencesTo
    ∷ Submodels ∷ SubmodelsMetadata ∷ SubmodelsValue ∷ SubmodelsReference
    ∷ Concepts ∷ Concept ∷ Lookup ∷ Serialization ∷ []

-- ---- paths

-- the texts of the parameters of a path, empty where it has none
pub record Texts : Type 0 where
  pub id : List ℕ
  pub submodel : List ℕ
  pub path : List ℕ

abbrev pub no_texts : Texts
no_texts = record { id = []; submodel = []; path = [] }

-- the text of a segment, unless it is a parameter
abbrev pub word_of : Segment → Option (List ℕ)
word_of (word name) = Some name
word_of parameter = None

-- the text is this word, or may be that of a parameter
abbrev pub fits : Segment → List ℕ → Bool
fits segment text = option_map_or (bytes_eq text) (word_of segment) (nat_lt 0 (length text))

abbrev pub with_text : Segment → List ℕ → Texts → Texts
with_text (word name) text t = t
with_text id text t = record t { id = text }
with_text submodel text t = record t { submodel = text }
with_text path text t = record t { path = text }

-- of the parameters, if the segments of a path have these texts
abbrev pub texts_of : List Segment → List (List ℕ) → Option Texts
texts_of [] [] = Some no_texts
texts_of [] (text ∷ texts) = None
texts_of (segment ∷ segments) [] = None
texts_of (segment ∷ segments) (text ∷ texts) =
    if fits segment text then option_map {T = Texts} (with_text segment text) (texts_of segments texts) else None

-- a resource, the segment of a shell through which it is reached, and the parameters of its path
pub record Found : Type 0 where
  pub resource : Resource
  pub through : Option (List ℕ)
  pub texts : Texts

abbrev pub found_as : Resource → Texts → Found
found_as resource t = record { resource = resource; through = None; texts = t }

-- the first of some resources whose path has segments with these texts
abbrev pub first_with : List Resource → List (List ℕ) → Option Found
first_with [] texts = None
first_with (resource ∷ others) texts =
    option_or (option_map {T = Texts} (found_as resource) (texts_of (row_of resource).segments texts)) (first_with others texts)

abbrev pub through_shell : List ℕ → Found → Found
through_shell shell found = record found { through = Some shell }

-- the same behind `shells` and the segment of a shell
abbrev pub first_within_shell : List (List ℕ) → Option Found
first_within_shell (name ∷ shell ∷ texts) =
    if fits shells name && fits id shell then option_map {T = Found} (through_shell shell) (first_with submodel_resources texts) else None
first_within_shell texts = None

-- what has a path whose segments have these texts
unfoldable pub resource_with : List (List ℕ) → Option Found
resource_with texts =
    option_or (first_with other_resources texts) (option_or (first_with submodel_resources texts) (first_within_shell texts))

-- what has a path, which begins with a slash
unfoldable pub resource_at : List ℕ → Option Found
resource_at [] = None
resource_at (byte ∷ bytes) = if byte == 47 then resource_with (split 47 bytes) else None

-- what stands before the first `?` of a target, and behind it
abbrev pub path_in : List ℕ → List ℕ
path_in target = (split_once 63 target).0

abbrev pub query_in : List ℕ → List ℕ
query_in target = (split_once 63 target).1

-- ---- methods

abbrev pub method_name : Method → List ℕ
method_name Get = codes "GET"
method_name Post = codes "POST"
method_name Put = codes "PUT"
method_name Patch = codes "PATCH"
method_name Delete = codes "DELETE"

-- of a resource, which is reached through a shell or not: a submodel isn't deleted through one
abbrev pub methods_by : Resource → Bool → List Method
methods_by Submodel true = Get ∷ Put ∷ []
methods_by resource is_through = (row_of resource).methods

abbrev pub methods_of : Found → List Method
methods_of found = methods_by found.resource (is_some found.through)

-- the method of this name, if it is one of those
abbrev pub method_among : List ℕ → List Method → Option Method
method_among name methods = find (λ m. bytes_eq name (method_name m)) methods

-- it is one of those
abbrev pub IsOneOf : Method → List Method → Type 0
IsOneOf method [] = ⊥
IsOneOf method (other ∷ others) = (method ≡ other) ⊎ IsOneOf method others

-- methods as the field Allow lists them (RFC 9110, section 10.2.1)
abbrev pub allow_text : List Method → List ℕ
allow_text methods = join_by method_name (codes ", ") methods
