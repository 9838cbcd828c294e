-- The names of `AssetKind`. IDTA-01001-3-0, enumeration AssetKind.
use Rattle.std.specs.Prelude.{ℕ, List, [], ◌∷◌, codes, refl}
use Rattle.aas_model_names.specs.Names.{names_of, FindsEach}
use Rattle.aas_model_names.specs.declared.enumerations.AssetKind.{AssetKind}
use Rattle.aas_model_names.specs.declared.enumerations.AssetKind.TheVariants.{TypeAsset, InstanceAsset, NotApplicable}

abbrev pub name_of : AssetKind → List ℕ
name_of TypeAsset = codes "Type"
name_of InstanceAsset = codes "Instance"
name_of NotApplicable = codes "NotApplicable"

abbrev pub all : List AssetKind
all = TypeAsset ∷ InstanceAsset ∷ NotApplicable ∷ []

abbrev pub names : List (List ℕ)
names = names_of name_of all

pub found : FindsEach name_of all
found TypeAsset = refl
found _ = refl
