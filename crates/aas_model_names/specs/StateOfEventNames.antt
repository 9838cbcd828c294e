-- The names of `StateOfEvent`. IDTA-01001-3-0, enumeration StateOfEvent.
use Rattle.std.specs.Prelude.{ℕ, List, [], ◌∷◌, codes, refl}
use Rattle.aas_model_names.specs.Names.{names_of, FindsEach}
use Rattle.aas_model_names.specs.declared.enumerations.StateOfEvent.{StateOfEvent}
use Rattle.aas_model_names.specs.declared.enumerations.StateOfEvent.TheVariants.{On, Off}

abbrev pub name_of : StateOfEvent → List ℕ
name_of On = codes "on"
name_of Off = codes "off"

abbrev pub all : List StateOfEvent
all = On ∷ Off ∷ []

abbrev pub names : List (List ℕ)
names = names_of name_of all

pub found : FindsEach name_of all
found On = refl
found _ = refl
