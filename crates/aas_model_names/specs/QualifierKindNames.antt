-- The names of `QualifierKind`. IDTA-01001-3-0, enumeration QualifierKind.
use Rattle.std.specs.Prelude.{ℕ, List, [], ◌∷◌, codes, refl}
use Rattle.aas_model_names.specs.Names.{names_of, FindsEach}
use Rattle.aas_model_names.specs.declared.enumerations.QualifierKind.{QualifierKind}
use Rattle.aas_model_names.specs.declared.enumerations.QualifierKind.TheVariants.{ConceptQualifier, TemplateQualifier, ValueQualifier}

abbrev pub name_of : QualifierKind → List ℕ
name_of ConceptQualifier = codes "ConceptQualifier"
name_of TemplateQualifier = codes "TemplateQualifier"
name_of ValueQualifier = codes "ValueQualifier"

abbrev pub all : List QualifierKind
all = ConceptQualifier ∷ TemplateQualifier ∷ ValueQualifier ∷ []

abbrev pub names : List (List ℕ)
names = names_of name_of all

pub found : FindsEach name_of all
found ConceptQualifier = refl
found _ = refl
