-- Single values in the value form (IDTA-01002-3-0, serialization ValueOnly): null where the text is absent, a truth value or a whole number where the text is written natively,
-- and else the text as a string. What is written natively is this profile's own rule.
use Rattle.std.specs.Prelude.{ℕ, List, Option, Some, None}
use Rattle.std.specs.Str.{encode_utf8_all}
use Rattle.serde_json.specs.Data.{Data, null, boolean, number}
use Rattle.serde_json.specs.Find.{of_integer}
use Rattle.aas_model_names.specs.declared.value_type.ValueType.{ValueType}
use Rattle.aas_lexical.specs.declared.natives.Native.{Native}
use Rattle.aas_lexical.specs.declared.natives.Native.TheVariants as native
use Rattle.aas_lexical.specs.Natives.{native_of}
use Rattle.aas_json_table.specs.Spelled.{text_of}

abbrev pub native_or_text : Option Native → List ℕ → Data
native_or_text (Some (native.Bool b)) s = boolean b
native_or_text (Some (native.Whole z)) s = number (of_integer z)
native_or_text None s = text_of s

abbrev pub single : ValueType → Option (List ℕ) → Data
single t None = null
single t (Some s) = native_or_text (native_of t (encode_utf8_all s)) s
