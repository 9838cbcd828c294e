use Rattle.std.proofs.Common.{take, drop}
use Rattle.aas_path.specs.Walk.{left_of}
use Rattle.aas_path.proofs.PatchWalk.{ReachedBy}
use Rattle.aas_path.proofs.patches.+patch.Given as goal

abbrev pub invariant-patch_all-loop-kid : goal.invariant-patch_all-loop-kid
invariant-patch_all-loop-kid l = record {
  unvisited : goal.unvisited-patch_all-loop-kid l;
  so_far : ReachedBy l.initial.kids (left_of l.initial.rows l.initial.ahead) (take l.kid-index l.kids) (drop l.kid-index l.kids) (left_of l.rows l.ahead);
}
