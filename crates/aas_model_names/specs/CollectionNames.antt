-- The words for one document of a collection, as the command `check` prints them. This profile's own rule.
use Rattle.std.specs.Prelude.{ℕ, List, codes}
use Rattle.aas_model_names.specs.declared.collection.Collection.{Collection}
use Rattle.aas_model_names.specs.declared.collection.Collection.TheVariants.{Shells, Submodels, Concepts}

abbrev pub name_of : Collection → List ℕ
name_of Shells = codes "shell"
name_of Submodels = codes "submodel"
name_of Concepts = codes "concept description"
