use Rattle.std.proofs.Common.{◌≡◌, ◌++◌, string_bytes}
use Rattle.std.specs.List.{flat_map}
use Rattle.std.specs.Str.Iter.{chars_rest}
use Rattle.aas_json_table.specs.Pointer.{escaped_byte}
use Rattle.aas_json_table.proofs.pointer.push_name.Given as goal

abbrev pub invariant-loop-character : goal.invariant-loop-character
invariant-loop-character l =
    string_bytes l.text ++ flat_map escaped_byte (chars_rest l.character-iterator) ≡ string_bytes l.fn.text ++ flat_map escaped_byte l.fn.name
