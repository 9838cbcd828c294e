-- What it means that a text is not read as a path, or as a step.
use Rattle.std.specs.Prelude.{ℕ, ◌+◌, List, ◌∷◌}
use Rattle.aas_path.specs.PathText.{IsNoPath}
use Rattle.aas_path.specs.StepText.{IsNoStep}
use Rattle.aas_path.specs.declared.path_fault.PathFault.{PathFault}
use Rattle.aas_path.specs.declared.path_fault.PathFault.TheVariants.{BadPath, NoMemory}

abbrev pub IsPathFault : List ℕ → PathFault → Type 0
IsPathFault text (BadPath at) = IsNoPath text at
IsPathFault text NoMemory = Unit {0}

-- the text stands behind a byte with which a step begins
abbrev pub IsStepFault : ℕ → List ℕ → PathFault → Type 0
IsStepFault lead text (BadPath at) = IsNoStep (lead ∷ text) (at + 1)
IsStepFault lead text NoMemory = Unit {0}

abbrev pub behind : ℕ → PathFault → PathFault
behind read (BadPath at) = BadPath (read + at)
behind read NoMemory = NoMemory
