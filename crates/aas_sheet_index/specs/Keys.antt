-- What the code compares as keys of the index.
use Rattle.std.specs.Prelude.{ℕ, List, ◌∷◌}
use Rattle.aas_sheet_index.specs.declared.order.Key.{Key}

abbrev pub listed : Key → List ℕ
listed k = k.short_key ∷ k.level ∷ k.name.now
