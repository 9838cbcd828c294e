-- What the program's own table, levels and pointers stand for.
use Rattle.std.specs.Prelude.{ℕ, List, map, filter, Bool, true, false, Option, option_map}
use Rattle.std.specs.Borrow.{Bor}
use Rattle.std.specs.Str.{encode_utf8_all}
use Rattle.aas_json_table.specs.Names as names
use Rattle.aas_json_table.specs.Rows as rows
use Rattle.aas_json_table.specs.Table as table
use Rattle.aas_json_table.specs.TooDeep as depth
use Rattle.aas_json_table.specs.declared.pointer.Token.{Token}
use Rattle.aas_json_table.specs.declared.pointer.Token.TheVariants as tokens
use Rattle.aas_json_table.specs.declared.table.Sort.{Sort}
use Rattle.aas_json_table.specs.declared.table.Sort.TheVariants as sorts
use Rattle.aas_json_table.specs.declared.table.MemberType.{MemberType}
use Rattle.aas_json_table.specs.declared.table.MemberType.TheVariants as member_types
use Rattle.aas_json_table.specs.declared.table.Class.{Class}
use Rattle.aas_json_table.specs.declared.table.Class.TheVariants as classes
use Rattle.aas_json_table.specs.declared.table.Row.{Row}
use Rattle.aas_json_table.specs.declared.table.Rows.{Rows}
use Rattle.aas_json_table.specs.declared.table.names.Names.{Names}
use Rattle.aas_json_table.specs.declared.table.names.Names.TheVariants as enumerations
use Rattle.aas_json_table.specs.declared.too_deep.Levels.{Levels}

abbrev pub sort_of : Sort → table.Sort
sort_of sorts.Reference = table.reference
sort_of sorts.Key = table.key
sort_of sorts.LangText = table.lang_text
sort_of sorts.Extension = table.extension
sort_of sorts.Qualifier = table.qualifier
sort_of sorts.SpecificAssetId = table.specific_asset_id
sort_of sorts.Administration = table.administration
sort_of sorts.AssetInformation = table.asset_information
sort_of sorts.Resource = table.resource
sort_of sorts.OperationVariable = table.operation_variable
sort_of sorts.Environment = table.environment
sort_of sorts.Shell = table.shell
sort_of sorts.Submodel = table.submodel
sort_of sorts.Concept = table.concept
sort_of sorts.Element = table.element
sort_of sorts.DataElement = table.data_element
sort_of sorts.SubmodelMetadata = table.submodel_metadata
sort_of sorts.ElementMetadata = table.element_metadata

abbrev pub words_of : Names → List (List ℕ)
words_of enumerations.AssetKinds = names.asset_kinds
words_of enumerations.Directions = names.directions
words_of enumerations.ElementNames = names.element_names
words_of enumerations.EntityTypes = names.entity_types
words_of enumerations.KeyTypes = names.key_types
words_of enumerations.ModellingKinds = names.modelling_kinds
words_of enumerations.QualifierKinds = names.qualifier_kinds
words_of enumerations.ReferenceTypes = names.reference_types
words_of enumerations.StatesOfEvent = names.states_of_event
words_of enumerations.ValueTypes = names.value_types

abbrev pub member_type_of : MemberType → table.MemberType
member_type_of member_types.Text = table.text
member_type_of member_types.Flag = table.flag
member_type_of (member_types.Word ns) = table.word (words_of ns)
member_type_of (member_types.One s) = table.one (sort_of s)
member_type_of (member_types.Many s) = table.many (sort_of s)
member_type_of member_types.Kept = table.kept
member_type_of member_types.Plain = table.plain

abbrev pub class_of : Class → table.Class
class_of classes.M = table.m
class_of classes.V = table.v

abbrev pub row_of : Row → table.Row
row_of r = record { name = r.name.now; member_type = member_type_of r.member_type; required = r.required; class = class_of r.class }

-- a row of a class is one of an object's, of which only the metadata is meant or not
abbrev pub counts : Bool → table.Row → Bool
counts true r = table.is_shown r
counts false r = true

abbrev pub rows_in : Rows → List table.Row
rows_in rows = filter (counts rows.metadata) (map row_of rows.all.now)

-- the class of which a sort is the metadata form, or the sort itself
abbrev pub class_sort : table.Sort → table.Sort
class_sort table.submodel_metadata = table.submodel
class_sort table.element_metadata = table.element
class_sort s = s

abbrev pub is_metadata : table.Sort → Bool
is_metadata table.submodel_metadata = true
is_metadata table.element_metadata = true
is_metadata s = false

abbrev pub rows_seen : Option (Bor (List Row)) → Option (List table.Row)
rows_seen = option_map (λ rows. map row_of rows.now)

abbrev pub levels_of : Levels → depth.Levels
levels_of l = record { elements = l.elements; references = l.references; kept = l.kept }

abbrev pub token_of : Token → rows.Token
token_of (tokens.Member name) = rows.in_member (encode_utf8_all name)
token_of (tokens.Item place) = rows.in_item place
