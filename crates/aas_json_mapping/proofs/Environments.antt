-- Environments: what is whole spells what is good, what spells what is good is whole, and what spells the same is the same.
use Rattle.std.proofs.Common.{◌≡◌, ◌&&◌, [], ◌∷◌, true, Some, codes, refl}
use Rattle.std.proofs.lemmas.Bool.{and_from}
use Rattle.std.specs.List.{list_all}
use Rattle.aas_json_table.specs.Table.{one, parts, environment}
use Rattle.aas_json_table.specs.TooDeep.{Levels}
use Rattle.aas_json_table.specs.Spelled.{Attributes, list_of}
use Rattle.aas_model.specs.declared.documents.Environment.{Environment}
use Rattle.aas_json_spelling.specs.Good.{Good}
use Rattle.aas_lemmas.proofs.Truth.{and_left, and_right}
use Rattle.aas_json_mapping.specs.Documents.{spell_shell, spell_submodel, spell_concept, spell_environment}
use Rattle.aas_json_mapping.specs.Shape.{IsShapedEnvironment}
use Rattle.aas_json_mapping.specs.Whole.{is_whole_shell, is_whole_submodel, is_whole_concept, is_whole_environment}
use Rattle.aas_json_mapping.proofs.Rows.{same_rows}
use Rattle.aas_json_mapping.proofs.Facts.{shaped_good, shaped_back, shaped_same, all_good, all_back, all_same, part_good, part_back}
use Rattle.aas_json_mapping.proofs.Documents.{shell_facts, concept_facts, submodel_facts}

abbrev pub environment_attributes : Environment → Attributes
environment_attributes e =
    (codes "assetAdministrationShells", list_of spell_shell e.shells)
    ∷ (codes "submodels", list_of spell_submodel e.submodels)
    ∷ (codes "conceptDescriptions", list_of spell_concept e.concepts)
    ∷ []

pub environment_good : (l : Levels) (e : Environment) → is_whole_environment l e ≡ true → Good l (one environment) (Some (spell_environment e))
environment_good l e w =
    let a = list_all (is_whole_shell l) e.shells in
    let b = list_all (is_whole_submodel l) e.submodels in
    let c = list_all (is_whole_concept l) e.concepts in
    let two = and_left (a && b) c w in
    part_good environment l (environment_attributes e) refl refl refl (
      all_good shell_facts l e.shells (and_left a b two),
      (shaped_good submodel_facts l e.submodels (and_right a b two), (all_good concept_facts l e.concepts (and_right (a && b) c w), tt)),
    )

pub environment_back : (l : Levels) (e : Environment) → IsShapedEnvironment e → Good l (one environment) (Some (spell_environment e)) → is_whole_environment l e ≡ true
environment_back l e shape g =
    let good = part_back environment l (environment_attributes e) refl refl g in
    let a = list_all (is_whole_shell l) e.shells in
    let b = list_all (is_whole_submodel l) e.submodels in
    and_from (a && b) (list_all (is_whole_concept l) e.concepts)
    (and_from a b (all_back shell_facts l e.shells good.0) (shaped_back submodel_facts l e.submodels shape good.1.0))
    (all_back concept_facts l e.concepts good.1.1.0)

pub same_environment : (e f : Environment) → IsShapedEnvironment e → IsShapedEnvironment f → spell_environment e ≡ spell_environment f → e ≡ f
same_environment e f s t is =
    let agree = same_rows (parts environment) (environment_attributes e) (environment_attributes f) refl is in
    let a = all_same shell_facts e.shells f.shells agree.0 in
    let b = shaped_same submodel_facts e.submodels f.submodels s t agree.1.0 in
    let c = all_same concept_facts e.concepts f.concepts agree.1.1.0 in
    λ i. record { shells = a i; submodels = b i; concepts = c i }
