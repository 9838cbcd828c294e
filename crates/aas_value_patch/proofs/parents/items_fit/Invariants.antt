use Rattle.std.proofs.Common.{◌≡◌, map, drop}
use Rattle.serde_json.specs.View.{items_view}
use Rattle.aas_value_update.specs.Forms.{part_of}
use Rattle.aas_value.specs.Parts.{items_fit}
use Rattle.aas_value_patch.proofs.parents.items_fit.Given as goal

abbrev pub invariant-loop-kid : goal.invariant-loop-kid
invariant-loop-kid l =
    items_fit (map part_of (drop l.kid-index l.kid-items)) (items_view l.left)
    ≡ items_fit (map part_of l.kid-items) (items_view l.items)
