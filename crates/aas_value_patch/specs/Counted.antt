-- Members of an object, by the parts that are called by their names.
use Rattle.std.specs.Prelude.{ℕ, ◌+◌, Bool, true, ◌&&◌, if◌then◌else◌, List, [], ◌∷◌, Option, is_some}
use Rattle.serde_json.specs.Data.{Data, object, Members}
use Rattle.aas_value.specs.Parts.{Part, fits_if}
use Rattle.aas_value_update.specs.Shape.{under_name}

abbrev pub one_if_some : Option Data → ℕ
one_if_some o = if is_some o then 1 else 0

-- for how many parts there is a member
abbrev pub found : List Part → Members → ℕ
found [] ms = 0
found (x ∷ xs) ms = one_if_some (under_name (object ms) x.child) + found xs ms

-- what there is for each part fits it
abbrev pub each_fits : List Part → Members → Bool
each_fits [] ms = true
each_fits (x ∷ xs) ms = fits_if x.fits (under_name (object ms) x.child) && each_fits xs ms
