-- Elements that are found by their paths, and why one isn't (IDTA-01002-3-0, idShortPath).
use Rattle.std.specs.Prelude.{◌≡◌, ◌⊎◌, ℕ, List, Err}
use Rattle.aas_command.specs.declared.refusal.Refusal.{Refusal}
use Rattle.aas_command.specs.declared.refusal.Refusal.TheVariants as refused
use Rattle.aas_model.specs.declared.element.Element.{Element}
use Rattle.aas_model.specs.declared.path.PathStep.{PathStep}
use Rattle.aas_store.specs.Documents.{Documents}
use Rattle.aas_answer.specs.Answers.{Answer, of_element}

-- what a path leads to is e
abbrev pub IsFound : Documents → List ℕ → List PathStep → Element → Type 0
IsFound d id p e = (answer : Element → Answer) → of_element d id p answer ≡ answer e

-- it leads to nothing, or memory was refused
abbrev pub IsLost : Documents → List ℕ → List PathStep → Refusal → Type 0
IsLost d id p r = (r ≡ refused.NoMemory) ⊎ ((answer : Element → Answer) → of_element d id p answer ≡ Err r)
