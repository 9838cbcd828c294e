use Rattle.std.proofs.Common.{◌≡◌, drop}
use Rattle.std.specs.List.{list_all}
use Rattle.aas_json_whole.specs.Children.{is_whole_under}
use Rattle.aas_json_whole.proofs.children.+element.Given as goal

abbrev pub invariant-are_whole_below-loop-kid : goal.invariant-are_whole_below-loop-kid
invariant-are_whole_below-loop-kid l =
    list_all (is_whole_under l.left l.parent) (drop l.kid-index l.kid-items)
    ≡ list_all (is_whole_under l.left l.parent) l.kid-items
