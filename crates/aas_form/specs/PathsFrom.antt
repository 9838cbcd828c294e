-- The paths of elements in preorder (IDTA-01002-3-0, content modifier Path). A step is a place in a list and elsewhere an idShort: which step leads to a child
-- without one is this profile's own rule.
use Rattle.std.specs.Prelude.{false, List, [], ◌∷◌, ◌++◌, map, Option, Some, None, option_map}
use Rattle.aas_model.specs.declared.documents.Submodel.{Submodel}
use Rattle.aas_model.specs.declared.element.Element.{Element}
use Rattle.aas_model.specs.declared.path.Path.{Path}
use Rattle.aas_model.specs.declared.path.PathStep.{PathStep}
use Rattle.aas_constraint_rules.specs.Faults.{sites_of}
use Rattle.aas_constraint_rules.specs.Sites.{Site, sites, tree_of}
use Rattle.aas_path_trees.specs.ElementAt.{element_at}

-- the path of a place that is seen from where p leads
abbrev pub path_behind : List PathStep → Site → Path
path_behind p x = record { steps = p ++ x.path }

-- the paths of an element, to which a path leads, and of all below it
abbrev pub element_paths : List PathStep → Element → List Path
element_paths p e = map (path_behind p) (sites false None [] (tree_of e))

-- the paths of all elements of a submodel
abbrev pub submodel_paths : Submodel → List Path
submodel_paths d = map (path_behind []) (sites_of d)

-- the paths of what a path leads to, the empty path leading to the submodel
abbrev pub paths_from : Submodel → List PathStep → Option (List Path)
paths_from d [] = Some (submodel_paths d)
paths_from d (s ∷ p) = option_map (element_paths (s ∷ p)) (element_at d (s ∷ p))
