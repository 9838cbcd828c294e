-- Below all levels none is left.
use Rattle.std.proofs.Common.{◌≡◌, ◌≤◌, ℕ, ap, arith}
use Rattle.aas_json_table.specs.TooDeep.{Levels, limits}
use Rattle.aas_edit_laws.specs.Laws.{at_level}

abbrev left_of : ℕ → Levels
left_of n = record limits { elements = n }

pub same_level : (m n : ℕ) → 31 ≤ m → 31 ≤ n → at_level m ≡ at_level n
same_level m n a b = ap left_of (omega (arith, a, b))
