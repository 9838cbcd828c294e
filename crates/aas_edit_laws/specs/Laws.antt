-- What an edit leaves of a submodel: it stays whole, and keeps its own attributes. IDTA-01002-3-0 names the operations on
-- an element and not what they leave; the limits are this profile's own rule.
use Rattle.std.specs.Prelude.{◌≡◌, ℕ, ◌+◌, ◌-◌, IsTrue, List, length, Some}
use Rattle.aas_model.specs.declared.documents.Submodel.{Submodel}
use Rattle.aas_model.specs.declared.element.Element.{Element}
use Rattle.aas_model.specs.declared.path.PathStep.{PathStep}
use Rattle.aas_json_table.specs.TooDeep.{Levels, limits}
use Rattle.aas_json_mapping.specs.Whole.{is_whole_element, is_whole_submodel}
use Rattle.aas_path_trees.specs.Children.{role_of}
use Rattle.aas_path_trees.specs.Edits.{fits_role, inserted, replaced, removed}
use Rattle.aas_path_trees.specs.ElementAt.{element_at}

-- the levels left for an element at this level, the number of the steps of its path: a direct child of a submodel has
-- level 1, and a child one more than its parent
abbrev pub at_level : ℕ → Levels
at_level n = record limits { elements = limits.elements + 1 - n }

-- a whole submodel stays whole where an element is inserted that is whole at the level below the path
abbrev pub InsertKeepsWhole : Type 0
InsertKeepsWhole = (d : Submodel) (p : List PathStep) (e : Element) → IsTrue (is_whole_submodel limits d)
    → IsTrue (is_whole_element (at_level (length p + 1)) e) → IsTrue (is_whole_submodel limits (inserted d p e))

-- where an element is replaced by one that is whole at its level, and fits its role
abbrev pub ReplaceKeepsWhole : Type 0
ReplaceKeepsWhole = (d : Submodel) (p : List PathStep) (e o : Element) → IsTrue (is_whole_submodel limits d)
    → IsTrue (is_whole_element (at_level (length p)) e) → element_at d p ≡ Some o → IsTrue (fits_role e (role_of o))
    → IsTrue (is_whole_submodel limits (replaced d p e))

-- and where an element is removed
abbrev pub RemoveKeepsWhole : Type 0
RemoveKeepsWhole = (d : Submodel) (p : List PathStep) → IsTrue (is_whole_submodel limits d) → IsTrue (is_whole_submodel limits (removed d p))

-- u has the attributes of d, and maybe other elements
pub record HasAttributesOf (d u : Submodel) : Type 0 where
  pub head : u.head ≡ d.head
  pub kind : u.kind ≡ d.kind
  pub semantics : u.semantics ≡ d.semantics
  pub qualifiers : u.qualifiers ≡ d.qualifiers
