use Rattle.std.proofs.Common.{◌≡◌, drop}
use Rattle.std.specs.List.{list_all}
use Rattle.aas_json_whole.proofs.whole.are_whole.Given as goal

abbrev pub invariant-loop-part : goal.invariant-loop-part
invariant-loop-part g l =
    list_all g.T.Whole.whole (drop l.part-index l.part-items) ≡ list_all g.T.Whole.whole l.part-items
