use Rattle.std.proofs.Common.{◌≡◌, ◌∷◌, drop}
use Rattle.aas_json_mapping.specs.Whole.{in_order}
use Rattle.aas_json_mapping.proofs.Elements.{ranks}
use Rattle.aas_json_whole.proofs.children.roles_rise.Given as goal

-- the rank before and those that are left
abbrev pub invariant-loop-kid : goal.invariant-loop-kid
invariant-loop-kid l = in_order (l.before ∷ ranks (drop l.kid-index l.kid-items)) ≡ in_order (ranks l.kid-items)
