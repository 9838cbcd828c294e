use Rattle.std.proofs.Common.{◌+◌, ◌≤◌, [], length, vec_capacity, vec_len}
use Rattle.aas_store.proofs.Merges.{Merges}
use Rattle.aas_store.proofs.merging.merge.Given as goal

abbrev pub invariant-loop-older : goal.invariant-loop-older
invariant-loop-older g l = Merges l.fn.older l.fn.newer l.older l.newer l.merged.items × (vec_len l.merged + (length l.older + length l.newer) ≤ vec_capacity l.merged)

abbrev pub decreases-loop-older : goal.decreases-loop-older
decreases-loop-older g l = length l.older + length l.newer

abbrev pub invariant-loop-merged : goal.invariant-loop-merged
invariant-loop-merged g l = Merges l.fn.older l.fn.newer l.older [] l.merged.items × (vec_len l.merged + length l.older ≤ vec_capacity l.merged)

abbrev pub decreases-loop-merged : goal.decreases-loop-merged
decreases-loop-merged g l = length l.older
