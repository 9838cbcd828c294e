-- Laws of forms.
use Rattle.std.specs.Prelude.{◌≡◌, List, ◌∷◌, is_some}
use Rattle.aas_model.specs.declared.documents.Submodel.{Submodel}
use Rattle.aas_model.specs.declared.path.PathStep.{PathStep}
use Rattle.aas_path_trees.specs.ElementAt.{element_at}
use Rattle.aas_form.specs.ReferenceTo.{reference_to}

-- a path with steps has a reference exactly where it leads to an element
abbrev pub ReferenceIsThere : Type 0
ReferenceIsThere = (d : Submodel) (s : PathStep) (p : List PathStep) → is_some (reference_to d (s ∷ p)) ≡ is_some (element_at d (s ∷ p))
