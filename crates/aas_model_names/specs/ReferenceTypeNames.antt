-- The names of `ReferenceType`. IDTA-01001-3-0, enumeration ReferenceTypes.
use Rattle.std.specs.Prelude.{ℕ, List, [], ◌∷◌, codes, refl}
use Rattle.aas_model_names.specs.Names.{names_of, FindsEach}
use Rattle.aas_model_names.specs.declared.enumerations.ReferenceType.{ReferenceType}
use Rattle.aas_model_names.specs.declared.enumerations.ReferenceType.TheVariants.{ExternalReference, ModelReference}

abbrev pub name_of : ReferenceType → List ℕ
name_of ExternalReference = codes "ExternalReference"
name_of ModelReference = codes "ModelReference"

abbrev pub all : List ReferenceType
all = ExternalReference ∷ ModelReference ∷ []

abbrev pub names : List (List ℕ)
names = names_of name_of all

pub found : FindsEach name_of all
found ExternalReference = refl
found _ = refl
