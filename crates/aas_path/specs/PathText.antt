-- The text of a path, in UTF-8 (IDTA-01002-3-0, idShortPath).
use Rattle.std.specs.Prelude.{◌≡◌, ℕ, ◌<◌, ◌≤◌, List, [], ◌∷◌, ◌++◌, length, take, codes, decimal, flat_map}
use Rattle.std.specs.Str.{encode_utf8_all}
use Rattle.aas_model.specs.declared.path.PathStep.{PathStep}
use Rattle.aas_model.specs.declared.path.PathStep.TheVariants.{Name, Place}
use Rattle.aas_path_trees.specs.PathRule.{KeepsRule}

-- a step behind others: `.name` or `[n]`
abbrev pub step_text : PathStep → List ℕ
step_text (Name name) = codes "." ++ encode_utf8_all name
step_text (Place place) = codes "[" ++ decimal place ++ codes "]"

-- a first step: a name has no dot there
abbrev pub first_step_text : PathStep → List ℕ
first_step_text (Name name) = encode_utf8_all name
first_step_text (Place place) = step_text (Place place)

abbrev pub path_text : List PathStep → List ℕ
path_text [] = []
path_text (first ∷ rest) = first_step_text first ++ flat_map step_text rest

-- where a fault is said to be: `$` for the submodel or element itself, which is this profile's own rule
abbrev pub fault_path_text : List PathStep → List ℕ
fault_path_text [] = codes "$"
fault_path_text (first ∷ rest) = path_text (first ∷ rest)

-- text writes the path p
abbrev pub IsPath : List ℕ → List PathStep → Type 0
IsPath text p = (text ≡ path_text p) × KeepsRule p

-- some text that goes on where this one ends writes a path
abbrev pub BeginsPath : List ℕ → Type 0
BeginsPath text = (more : List ℕ) × (p : List PathStep) × IsPath (text ++ more) p

-- text writes no path, and n is the length of its longest part from the front that begins one
pub record IsNoPath (text : List ℕ) (n : ℕ) : Type 0 where
  pub none : (p : List PathStep) → ¬ IsPath text p
  pub within : n ≤ length text
  pub begins : BeginsPath (take n text)
  pub no_longer : (k : ℕ) → n < k → k ≤ length text → ¬ BeginsPath (take k text)
