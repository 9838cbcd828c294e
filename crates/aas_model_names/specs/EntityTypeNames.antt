-- The names of `EntityType`. IDTA-01001-3-0, enumeration EntityType.
use Rattle.std.specs.Prelude.{ℕ, List, [], ◌∷◌, codes, refl}
use Rattle.aas_model_names.specs.Names.{names_of, FindsEach}
use Rattle.aas_model_names.specs.declared.enumerations.EntityType.{EntityType}
use Rattle.aas_model_names.specs.declared.enumerations.EntityType.TheVariants.{SelfManagedEntity, CoManagedEntity}

abbrev pub name_of : EntityType → List ℕ
name_of SelfManagedEntity = codes "SelfManagedEntity"
name_of CoManagedEntity = codes "CoManagedEntity"

abbrev pub all : List EntityType
all = SelfManagedEntity ∷ CoManagedEntity ∷ []

abbrev pub names : List (List ℕ)
names = names_of name_of all

pub found : FindsEach name_of all
found SelfManagedEntity = refl
found _ = refl
