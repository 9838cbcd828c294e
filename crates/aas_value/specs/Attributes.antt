-- Values of attributes in the value form (IDTA-01001-3-0, the value-only serialisation in JSON). That an absent
-- attribute is written as null is this profile's own rule.
use Rattle.std.specs.Prelude.{ℕ, List, map, Option, Some, None}
use Rattle.std.specs.Str.{encode_utf8_all}
use Rattle.serde_json.specs.Data.{Data, null, string, array, object, no_items, no_members, member}
use Rattle.aas_model_names.specs.EntityTypeNames as entity_type
use Rattle.aas_json_table.specs.Spelled.{text_of, onto}
use Rattle.aas_reference.specs.Spelling.{spell_reference}
use Rattle.aas_model_names.specs.declared.enumerations.EntityType.{EntityType}
use Rattle.aas_model.specs.declared.parts.LangText.{LangText}
use Rattle.aas_model.specs.declared.reference.Reference.{Reference}

-- a list always has its array, also where it is empty
abbrev pub array_of : {A : Type 0} → (A → Data) → List A → Data
array_of f xs = array (onto (map f xs) no_items)

abbrev pub text_or_null : Option (List ℕ) → Data
text_or_null None = null
text_or_null (Some s) = text_of s

abbrev pub reference_or_null : Option Reference → Data
reference_or_null None = null
reference_or_null (Some r) = spell_reference r

abbrev pub entity_type_or_null : Option EntityType → Data
entity_type_or_null None = null
entity_type_or_null (Some t) = string (entity_type.name_of t)

-- {language: text}
abbrev pub language_value : LangText → Data
language_value l = object (member (encode_utf8_all l.language) (text_of l.text) no_members)
