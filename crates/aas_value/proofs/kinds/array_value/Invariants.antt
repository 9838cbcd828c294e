use Rattle.std.proofs.Common.{◌≡◌, map, take}
use Rattle.aas_json_members.specs.Array.{items_of}
use Rattle.aas_value.proofs.kinds.array_value.Given as goal

-- so far as the loop has come
abbrev pub invariant-loop-part : goal.invariant-loop-part
invariant-loop-part g l = items_of l.values ≡ map g.P.Written.spell (take l.part-index l.parts)
