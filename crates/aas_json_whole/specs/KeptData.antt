-- Kept data within other kept data, where so many levels are left. This profile's own words.
use Rattle.std.specs.Prelude.{ℕ, ◌&&◌, nat_le, Bool, List}
use Rattle.std.specs.Str.{encode_utf8_all}
use Rattle.aas_json_spelling.specs.Kept.{is_ordered, plain_depth}
use Rattle.aas_model.specs.declared.plain.Plain.{Plain}
use Rattle.aas_model.specs.declared.plain.PlainPair.{PlainPair}

-- the names of each map rise, and no value passes the levels
abbrev pub is_whole_plain : ℕ → Plain → Bool
is_whole_plain left p = is_ordered p && nat_le (plain_depth p) left

abbrev pub is_whole_pair : ℕ → PlainPair → Bool
is_whole_pair left m = is_whole_plain left m.value

abbrev pub name_of : PlainPair → List ℕ
name_of m = encode_utf8_all m.name
