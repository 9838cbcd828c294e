use Rattle.std.proofs.Common.{◌≡◌, drop}
use Rattle.std.specs.List.{list_all}
use Rattle.aas_json_whole.specs.KeptData.{is_whole_pair, is_whole_plain}
use Rattle.aas_json_whole.proofs.kept.+plain.Given as goal

abbrev pub invariant-are_whole_plains-loop-plain : goal.invariant-are_whole_plains-loop-plain
invariant-are_whole_plains-loop-plain l =
    list_all (is_whole_plain l.left) (drop l.plain-index l.plain-items) ≡ list_all (is_whole_plain l.left) l.plain-items

abbrev pub invariant-is_whole_map-loop-pair : goal.invariant-is_whole_map-loop-pair
invariant-is_whole_map-loop-pair l =
    list_all (is_whole_pair l.left) (drop l.pair-index l.pair-items) ≡ list_all (is_whole_pair l.left) l.pair-items
