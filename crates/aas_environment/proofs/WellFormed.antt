-- The environment of valid documents is whole, so that its import is well formed.
use Rattle.std.proofs.Common.{◌≡◌, Bool, true, ◌&&◌, Some, ap₂, ◌∙◌}
use Rattle.std.specs.Prelude.{get_or}
use Rattle.std.specs.FinMap as fin
use Rattle.std.specs.FinMap.{entries_sorted, get-entries}
use Rattle.std.specs.List.{list_all}
use Rattle.std.proofs.lemmas.List.Folds.{list_all-map}
use Rattle.std.proofs.lemmas.List.Sums.{list_all-from_AllPass}
use Rattle.std.proofs.lemmas.Option.{slice_get-get_or}
use Rattle.aas_command.specs.Commands.{IsWellFormed}
use Rattle.aas_command.specs.declared.command.Command.TheVariants.{Import}
use Rattle.aas_json_mapping.specs.Whole.{is_whole_concept, is_whole_shell, is_whole_submodel}
use Rattle.aas_json_table.specs.TooDeep.{limits}
use Rattle.aas_store.proofs.Ordered.{found_at}
use Rattle.aas_store.specs.Documents.{Documents, Identifier, Map}
use Rattle.aas_step.specs.Valid.{AreValid}
use Rattle.aas_environment.specs.Environments.{environment_of}

all_pass : {X : Type 0} (test : X → Bool) (m : Map X)
    → ((id : Identifier) (x : X) → fin.get m id ≡ Some x → test x ≡ true) → list_all test (fin.values m) ≡ true
all_pass {X = X} test m each = list_all-map test (λ (e : Identifier × X). e.1) (fin.entries m)
    ∙ list_all-from_AllPass (λ (e : Identifier × X). test e.1) (fin.entries m) (λ k e within.
    let x = get_or (fin.entries m) k e in
    each x.0 x.1 (get-entries m x.0
    ∙ found_at (fin.entries m) k x.0 x.1 (entries_sorted m) (slice_get-get_or (fin.entries m) k e within)))

all_three : (a b c : Bool) → a ≡ true → b ≡ true → c ≡ true → (a && b && c) ≡ true
all_three a b c first second third = ap₂ (λ x y. x && y && c) first second ∙ third

pub well_formed : (d : Documents) → AreValid d → IsWellFormed (Import (environment_of d))
unfolding IsWellFormed
well_formed d valid =
    all_three (list_all (is_whole_shell limits) (fin.values d.shells))
    (list_all (is_whole_submodel limits) (fin.values d.submodels))
    (list_all (is_whole_concept limits) (fin.values d.concepts))
    (all_pass (is_whole_shell limits) d.shells (λ id s at. (valid.shells id s at).valid.whole))
    (all_pass (is_whole_submodel limits) d.submodels (λ id s at. (valid.submodels id s at).valid.whole))
    (all_pass (is_whole_concept limits) d.concepts (λ id c at. (valid.concepts id c at).valid.whole))
