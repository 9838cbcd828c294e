use Rattle.std.proofs.Common.{◌≡◌, ◌++◌, map, reverse, string_bytes}
use Rattle.std.specs.List.{flat_map}
use Rattle.std.specs.Iterator.Adapters.{rev_source}
use Rattle.std.specs.Slice.Iter.{iter_rest}
use Rattle.aas_json_table.specs.Pointer.{token_text}
use Rattle.aas_json_table.specs.Seen.{token_of}
use Rattle.aas_json_table.proofs.pointer.pointer.Given as goal

abbrev pub invariant-loop-token : goal.invariant-loop-token
invariant-loop-token l = string_bytes l.text ++ flat_map token_text (reverse (map token_of (iter_rest (rev_source l.token-iterator)))) ≡ flat_map token_text l.fn.trail
