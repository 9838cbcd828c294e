-- Laws of demos.
use Rattle.std.specs.Prelude.{◌≡◌, ◌≤◌, ◌^◌, ℕ, length}
use Rattle.aas_constraint_laws.specs.Valid.{IsValid}
use Rattle.aas_constraint_rules.specs.Faults.{submodel}
use Rattle.aas_path_trees.specs.Patched.{kinds_of_all}
use Rattle.aas_demo.specs.Demo.{submodel_of}

-- The submodel of a demo is whole and keeps every constraint.
abbrev pub DemosAreValid : Type 0
DemosAreValid = (count : ℕ) → count ≤ 2 ^ 32 → IsValid (submodel (submodel_of count))

-- It has as many elements as were asked for, at all levels.
abbrev pub DemosHaveSoMany : Type 0
DemosHaveSoMany = (count : ℕ) → length (kinds_of_all (submodel_of count).kids) ≡ count
