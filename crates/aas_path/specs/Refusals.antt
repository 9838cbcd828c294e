-- When a change of a submodel is refused. IDTA-01002-3-0 answers a path that leads nowhere with Not Found; what is no
-- container is this profile's own rule.
use Rattle.std.specs.Prelude.{◌≡◌, ◌<◌, false, List, length, Some, None}
use Rattle.aas_model.specs.declared.documents.Submodel.{Submodel}
use Rattle.aas_model.specs.declared.element.Element.{Element}
use Rattle.aas_model.specs.declared.path.Missing.{Missing}
use Rattle.aas_model.specs.declared.path.PathStep.{PathStep}
use Rattle.aas_path_trees.specs.Children.{role_of}
use Rattle.aas_path_trees.specs.Edits.{fits_role, role_under}
use Rattle.aas_path_trees.specs.ElementAt.{element_at, depth_found}

-- the path has steps and leads to no element, and m says how far it leads
abbrev pub IsMissing : Submodel → List PathStep → Missing → Type 0
IsMissing d p m = (0 < length p) × (element_at d p ≡ None) × (m.steps ≡ depth_found d p)

-- the path leads to an element that doesn't take e as a child
abbrev pub IsNoContainer : Submodel → List PathStep → Element → Type 0
IsNoContainer d p e = (o : Element) × (element_at d p ≡ Some o) × (role_under o e ≡ None)

-- the path leads to an element whose role e can't have
abbrev pub IsUnfit : Submodel → List PathStep → Element → Type 0
IsUnfit d p e = (o : Element) × (element_at d p ≡ Some o) × (fits_role e (role_of o) ≡ false)
