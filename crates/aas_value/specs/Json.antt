-- Which JSON values may be sent for an attribute (IDTA-01002-3-0, serialization ValueOnly). Where null may stand, and
-- which texts are sent as a truth value or a number, is this profile's own rule.
use Rattle.std.specs.Prelude.{Bool, true, false, not, ◌&&◌, ◌||◌, is_none}
use Rattle.serde_json.specs.Data.{Data, null, boolean, number, string, array, object, Items, no_items, item, Members}
use Rattle.serde_json.specs.Data.{no_members, member}
use Rattle.serde_json.specs.Find.{is_float}
use Rattle.aas_model_names.specs.EntityTypeNames as entity_type
use Rattle.aas_model_names.specs.Names.{names_of}
use Rattle.aas_model_names.specs.declared.value_type.ValueType.{ValueType}
use Rattle.aas_lexical.specs.Natives.{is_boolean, is_numeric, native_of}
use Rattle.aas_json_table.specs.Names.{has}
use Rattle.aas_json_table.specs.Table.{Sort, one, reference, specific_asset_id}
use Rattle.aas_json_table.specs.Misfit.{misfit}
use Rattle.aas_json_table.specs.TooDeep.{limits, too_deep}

-- null; a truth value or a whole number where the type is written natively; and a string that isn't written natively
abbrev pub is_single : ValueType → Data → Bool
is_single t null = true
is_single t (boolean b) = is_boolean t
is_single t (number n) = is_numeric t && not (is_float n)
is_single t (string s) = is_none (native_of t s)
is_single t d = false

abbrev pub is_string : Data → Bool
is_string (string s) = true
is_string d = false

abbrev pub is_string_or_null : Data → Bool
is_string_or_null null = true
is_string_or_null d = is_string d

abbrev pub is_entity_type : Data → Bool
is_entity_type (string s) = has (names_of entity_type.name_of entity_type.all) s
is_entity_type d = false

-- an object with one string member
abbrev pub is_language : Data → Bool
is_language (object (member l (string s) no_members)) = true
is_language d = false

-- each item passes
abbrev pub all_items : (Data → Bool) → Items → Bool
all_items test no_items = true
all_items test (item d ds) = test d && all_items test ds

abbrev pub is_array_of : (Data → Bool) → Data → Bool
is_array_of test (array ds) = all_items test ds
is_array_of test d = false

-- ---- parts of the JSON mapping

-- an array without items, in the value or anywhere in it
abbrev mutual
  pub has_empty_list : Data → Bool
  has_empty_list (array no_items) = true
  has_empty_list (array (item d ds)) = has_empty_list d || some_has_empty_list ds
  has_empty_list (object ms) = member_has_empty_list ms
  has_empty_list d = false

  pub some_has_empty_list : Items → Bool
  some_has_empty_list no_items = false
  some_has_empty_list (item d ds) = has_empty_list d || some_has_empty_list ds

  pub member_has_empty_list : Members → Bool
  member_has_empty_list no_members = false
  member_has_empty_list (member k d ms) = has_empty_list d || member_has_empty_list ms

-- the canonical JSON of something of a sort, within the limits of levels: no empty list stands for an absent one
abbrev pub is_part : Sort → Data → Bool
is_part s d = is_none (misfit (one s) d) && is_none (too_deep (one s) d limits) && not (has_empty_list d)

abbrev pub is_reference : Data → Bool
is_reference d = is_part reference d

abbrev pub is_reference_or_null : Data → Bool
is_reference_or_null null = true
is_reference_or_null d = is_reference d

abbrev pub is_specific_asset_id : Data → Bool
is_specific_asset_id d = is_part specific_asset_id d
