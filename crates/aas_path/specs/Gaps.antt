-- The ranks of the rows of a patch, and how far they are from each other.
use Rattle.std.specs.Prelude.{ℕ, ◌-◌, nat_lt, Bool, true, List, [], ◌∷◌}
use Rattle.aas_model.specs.declared.patch.PatchRow.{PatchRow}

abbrev pub first_rank : List PatchRow → ℕ
first_rank [] = 0
first_rank (r ∷ rows) = r.rank

-- how many ranks lie between k and that of the first row
abbrev pub gap : ℕ → List PatchRow → ℕ
gap k [] = 0
gap k (r ∷ rows) = r.rank - k - 1

abbrev pub rises : ℕ → List PatchRow → Bool
rises k [] = true
rises k (r ∷ rows) = nat_lt k r.rank
