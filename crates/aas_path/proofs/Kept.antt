-- What is there, put back, changes nothing.
use Rattle.std.proofs.Common.{◌≡◌, List, Result, Ok, Err, Some, OnErr, ap, ◌∙◌}
use Rattle.aas_model.specs.declared.documents.Submodel.{Submodel}
use Rattle.aas_model.specs.declared.element.Element.{Element}
use Rattle.aas_model.specs.declared.path.PathStep.{PathStep}
use Rattle.aas_path_trees.specs.ElementAt.{element_at}
use Rattle.aas_path_trees.specs.WithElement.{with_element}
use Rattle.aas_path_trees.proofs.Paths.{with_element-same}

pub kept : {T E : Type 0} (r : Result T E) (d : Submodel) (p : List PathStep) (o e : Element) → element_at d p ≡ Some o → OnErr r (e ≡ o) → OnErr r (with_element d p e ≡ d)
kept (Ok x) d p o e is same = tt
kept (Err f) d p o e is same = ap (with_element d p) same ∙ with_element-same d p o is
