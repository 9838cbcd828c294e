-- The text of one step, at the front of a text of steps.
use Rattle.std.specs.Prelude.{◌≡◌, ℕ, ◌+◌, ◌<◌, ◌≤◌, ◌^◌, ◌⊎◌, List, [], ◌∷◌, ◌++◌, length, take, slice_index, ◌==◌, if◌then◌else◌, decimal}
use Rattle.aas_model.specs.declared.path.PathStep.{PathStep}
use Rattle.aas_path.specs.PathText.{step_text}
use Rattle.aas_path_trees.specs.PathRule.{StepKeepsRule}

-- no further step or the `.` or `[` of one
abbrev pub EndsStep : List ℕ → Type 0
EndsStep [] = Unit {0}
EndsStep (c ∷ text) = (c ≡ 46) ⊎ (c ≡ 91)

-- the digits of a place
abbrev pub IsPlace : List ℕ → Type 0
IsPlace text = (n : ℕ) × (n < 10 ^ 9) × (text ≡ decimal n)

-- a place has one digit where it begins with 0
abbrev pub most_behind : ℕ → ℕ
most_behind c = if c == 48 then 1 else 9

abbrev pub most_digits : List ℕ → ℕ
most_digits text = most_behind (slice_index text 0)

-- text is that of the step, and rest is behind it
pub record IsStep (text : List ℕ) (step : PathStep) (rest : List ℕ) : Type 0 where
  pub whole : text ≡ step_text step ++ rest
  pub keeps : StepKeepsRule step
  pub ends : EndsStep rest

-- no step stands at the front of text, and n is the length of its longest part from the front that begins one
pub record IsNoStep (text : List ℕ) (n : ℕ) : Type 0 where
  pub none : (step : PathStep) (rest : List ℕ) → ¬ IsStep text step rest
  pub within : n ≤ length text
  pub begins : (step : PathStep) × (more : List ℕ) × StepKeepsRule step × (take n text ++ more ≡ step_text step)
  pub no_longer : n < length text → (more : List ℕ) (step : PathStep) (rest : List ℕ) → ¬ IsStep (take (n + 1) text ++ more) step rest
