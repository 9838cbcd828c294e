use Rattle.std.proofs.Common.{◌≡◌, ◌+◌, ◌≤◌, ◌++◌, length, map, reverse, vec_capacity, vec_len}
use Rattle.aas_store.proofs.laying.lay_out.Given as goal

abbrev pub invariant-loop-submodels : goal.invariant-loop-submodels
invariant-loop-submodels g l = (l.submodels ++ map g.T.Table.kept (reverse l.tables.items) ≡ l.fn.submodels) × (vec_len l.tables + length l.submodels ≤ vec_capacity l.tables)

abbrev pub decreases-loop-submodels : goal.decreases-loop-submodels
decreases-loop-submodels g l = length l.submodels
