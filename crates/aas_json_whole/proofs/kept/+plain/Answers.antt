use Rattle.std.proofs.Common.{◌-◌, ap, sym, ◌∙◌, arith}
use Rattle.aas_json_whole.specs.KeptData.{is_whole_plain}
use Rattle.aas_json_whole.proofs.KeptData.{list_level, map_level}
use Rattle.aas_json_whole.proofs.kept.+plain.Goals as goal

pub is_whole_plain-returns-in-List : goal.is_whole_plain-returns-in-List
is_whole_plain-returns-in-List t c =
    c.are_whole_plains.ensures
    ∙ list_level c.in-List.items c.args.left (c.args.left - 1) (omega arith)
    ∙ ap (is_whole_plain c.args.left) (sym c.in-List.is)

pub is_whole_plain-returns-in-Map : goal.is_whole_plain-returns-in-Map
is_whole_plain-returns-in-Map t c =
    c.is_whole_map.ensures
    ∙ map_level c.in-Map.pairs c.args.left (c.args.left - 1) (omega arith)
    ∙ ap (is_whole_plain c.args.left) (sym c.in-Map.is)
