-- The names of `Direction`. IDTA-01001-3-0, enumeration Direction.
use Rattle.std.specs.Prelude.{ℕ, List, [], ◌∷◌, codes, refl}
use Rattle.aas_model_names.specs.Names.{names_of, FindsEach}
use Rattle.aas_model_names.specs.declared.enumerations.Direction.{Direction}
use Rattle.aas_model_names.specs.declared.enumerations.Direction.TheVariants.{Input, Output}

abbrev pub name_of : Direction → List ℕ
name_of Input = codes "input"
name_of Output = codes "output"

abbrev pub all : List Direction
all = Input ∷ Output ∷ []

abbrev pub names : List (List ℕ)
names = names_of name_of all

pub found : FindsEach name_of all
found Input = refl
found _ = refl
