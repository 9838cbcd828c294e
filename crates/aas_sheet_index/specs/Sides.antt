-- What stands beside the rows of a table: idShorts, levels and sizes. This profile's own rule.
use Rattle.std.specs.Prelude.{◌≡◌, ℕ, ◌+◌, ◌<◌, ◌==◌, ◌&&◌, Bool, List, [], ◌∷◌, map}
use Rattle.std.specs.List.{All}
use Rattle.aas_path_trees.specs.ElementAt.{is_text}
use Rattle.aas_rows.specs.Rows.{count_deeper, sizes}
use Rattle.aas_sheet_index.specs.declared.side.Side.{Side}

abbrev pub levels : List Side → List ℕ
levels ss = map (λ s. s.level) ss

abbrev pub sizes_of : List Side → List ℕ
sizes_of ss = map (λ s. s.size) ss

-- each with the size that the levels say
abbrev pub measured : List Side → List Side
measured [] = []
measured (s ∷ ss) = record s { size = 1 + count_deeper s.level (levels ss) } ∷ measured ss

-- each has that size already
abbrev pub AreMeasured : List Side → Type 0
AreMeasured ss = sizes_of ss ≡ sizes (levels ss)

-- no level is 0, which is the submodel's own
abbrev pub HaveLevels : List Side → Type 0
HaveLevels ss = All (λ s. 0 < s.level) ss

-- one level below another
abbrev pub is_below : ℕ → Side → Bool
is_below k s = s.level == k + 1

abbrev pub is_named_below : ℕ → List ℕ → Side → Bool
is_named_below k n s = (s.level == k + 1) && is_text n s.id_short
