-- The names of `ModellingKind`. IDTA-01001-3-0, enumeration ModellingKind.
use Rattle.std.specs.Prelude.{ℕ, List, [], ◌∷◌, codes, refl}
use Rattle.aas_model_names.specs.Names.{names_of, FindsEach}
use Rattle.aas_model_names.specs.declared.enumerations.ModellingKind.{ModellingKind}
use Rattle.aas_model_names.specs.declared.enumerations.ModellingKind.TheVariants.{Template, Instance}

abbrev pub name_of : ModellingKind → List ℕ
name_of Template = codes "Template"
name_of Instance = codes "Instance"

abbrev pub all : List ModellingKind
all = Template ∷ Instance ∷ []

abbrev pub names : List (List ℕ)
names = names_of name_of all

pub found : FindsEach name_of all
found Template = refl
found _ = refl
