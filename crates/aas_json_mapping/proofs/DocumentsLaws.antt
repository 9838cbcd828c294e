-- The laws of documents: the five facts of each sort from which all others follow.
use Rattle.std.proofs.Common.{◌≡◌, ◌&&◌, List, [], ◌∷◌, Bool, true}
use Rattle.std.specs.List.{list_all}
use Rattle.aas_json_table.specs.Table.{environment, shell, submodel, concept}
use Rattle.aas_json_table.specs.TooDeep.{Levels}
use Rattle.aas_model.specs.declared.documents.Environment.{Environment}
use Rattle.aas_model.specs.declared.documents.Submodel.{Submodel}
use Rattle.aas_json_spelling.specs.Lists.{Each}
use Rattle.aas_json_spelling.specs.Mapped.{AnyShape}
use Rattle.aas_json_spelling.proofs.Laws.{Laws}
use Rattle.aas_lemmas.proofs.Truth.{and_left, and_right}
use Rattle.aas_json_mapping.specs.Shape.{IsShapedSubmodel, IsShapedEnvironment}
use Rattle.aas_json_mapping.specs.Trees.{shells, submodels, concepts, environments}
use Rattle.aas_json_mapping.specs.Whole.{is_whole_element, is_whole_shell, is_whole_submodel, is_whole_concept, is_whole_environment}
use Rattle.aas_json_mapping.proofs.Facts.{laws_of}
use Rattle.aas_json_mapping.proofs.ElementsLaws.{elements_laws}
use Rattle.aas_json_mapping.proofs.Documents.{shell_facts, concept_facts, described, submodel_facts}
use Rattle.aas_json_mapping.proofs.Environments.{environment_good, environment_back, same_environment}
use Rattle.aas_json_mapping.proofs.Found.{found}

all_shaped : {A : Type 0} {Shape : A → Type 0} (whole : A → Bool) → ((x : A) → whole x ≡ true → Shape x)
    → (xs : List A) → list_all whole xs ≡ true → Each Shape xs
all_shaped whole shaped [] w = tt
all_shaped whole shaped (x ∷ xs) w =
    (shaped x (and_left (whole x) _ w), all_shaped whole shaped xs (and_right (whole x) _ w))

pub shells_laws : Laws shells AnyShape
shells_laws = laws_of shell_facts (found shell)

pub concepts_laws : Laws concepts AnyShape
concepts_laws = laws_of concept_facts (found concept)

shaped_submodel : (l : Levels) (s : Submodel) → is_whole_submodel l s ≡ true → IsShapedSubmodel s
shaped_submodel l s w =
    all_shaped (is_whole_element l) (elements_laws.shaped l) s.kids
    (and_right (described l s) (list_all (is_whole_element l) s.kids) w)

pub submodels_laws : Laws submodels IsShapedSubmodel
submodels_laws = record {
  shaped = shaped_submodel;
  good = submodel_facts.good;
  back = submodel_facts.back;
  same = submodel_facts.same;
  found = found submodel;
}

shaped_environment : (l : Levels) (e : Environment) → is_whole_environment l e ≡ true → IsShapedEnvironment e
shaped_environment l e w =
    let a = list_all (is_whole_shell l) e.shells in
    let b = list_all (is_whole_submodel l) e.submodels in
    all_shaped (is_whole_submodel l) (shaped_submodel l) e.submodels
    (and_right a b (and_left (a && b) (list_all (is_whole_concept l) e.concepts) w))

pub environments_laws : Laws environments IsShapedEnvironment
environments_laws = record {
  shaped = shaped_environment;
  good = environment_good;
  back = environment_back;
  same = same_environment;
  found = found environment;
}
