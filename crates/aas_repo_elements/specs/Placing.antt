-- What is asked of a submodel before an element is inserted,
-- or put in the place of another, at once. This profile's own rule.
use Rattle.std.specs.Prelude.{◌≡◌, ◌≢◌, ◌⊎◌, true, false, List, [], flat_map, map, MatchOption, Option, Some, None}
use Rattle.std.specs.Prelude.{option_and_then, option_map}
use Rattle.aas_command.specs.declared.refusal.Refusal.{Refusal}
use Rattle.aas_command.specs.declared.refusal.Refusal.TheVariants.{NoMemory, StorageFault}
use Rattle.aas_constraint_rules.specs.Faults.{faults_at, is_template}
use Rattle.aas_constraint_rules.specs.Rules.{first_some, is_repeat, name_of, semantics_of}
use Rattle.aas_constraint_rules.specs.Sites.{Own, own_of, sites, stands_in_list, tree_of}
use Rattle.aas_model.specs.declared.documents.Submodel.{Submodel}
use Rattle.aas_model.specs.declared.element.Element.{Element}
use Rattle.aas_model.specs.declared.element.Role.{Role}
use Rattle.aas_model.specs.declared.element.Role.TheVariants.{Member}
use Rattle.aas_model.specs.declared.path.PathStep.{PathStep}
use Rattle.aas_model.specs.declared.reference.Reference.{Reference}
use Rattle.aas_path_trees.specs.Children.{role_of}
use Rattle.aas_path_trees.specs.Edits.{fits_role, if_fits, role_within}
use Rattle.aas_path_trees.specs.ElementAt.{element_at, children_at}
use Rattle.aas_step.specs.Causes.{Cause, first_of, leads}
use Rattle.aas_repo_elements.specs.declared.placing.Parent.{Parent}

-- the first of the causes, or want of memory
abbrev pub IsFirst : List Cause → Refusal → Type 0
IsFirst causes refusal = refusal ≢ NoMemory → (refusal ≢ StorageFault) × (first_of causes ≡ Some refusal)

-- ---- the parent

-- a path leads to the element a, or to the submodel itself, where a is none
pub record IsAbove (p : List PathStep) (a : Option Own) (s : Submodel) : Type 0 where
  pub there : leads s p ≡ true
  pub own : option_map own_of (element_at s p) ≡ a

-- the element of a parent without its children, or none for the submodel itself
abbrev pub own_of_parent : Parent → Option Own
own_of_parent x = option_map own_of x.element

-- x is what a path leads to
pub record IsParent (p : List PathStep) (x : Parent) (s : Submodel) : Type 0 where
  pub above : IsAbove p (own_of_parent x) s
  pub template : x.in_template ≡ is_template s.kind

-- e and all below it have no fault below x, where lead is the first semanticId
-- among the earlier siblings, none of which has its idShort
abbrev pub IsFaultless : Parent → Option Reference → Element → Type 0
IsFaultless x lead e =
    (b : List Own) → is_repeat b (name_of (own_of e)) ≡ false → lead ≡ first_some (map semantics_of b)
    → flat_map faults_at (sites x.in_template (own_of_parent x) b (tree_of e)) ≡ []

-- ---- insertion

-- the role of a new child of a, if a takes children
abbrev pub role_of_children : Option Own → Option Role
role_of_children None = Some Member
role_of_children (Some o) = role_within o.payload

-- the role that e has as a new child of a, if a takes it
abbrev pub role_below : Option Own → Element → Option Role
role_below a e = option_and_then (if_fits e) (role_of_children a)

-- the first semanticId among the children of a list; or none, where that doesn't matter
abbrev pub IsLead : List PathStep → Option Own → Element → Option Reference → Submodel → Type 0
IsLead p a e lead s =
    ((stands_in_list a ≡ true) × (lead ≡ first_some (map semantics_of (map own_of (children_at s p)))))
    ⊎ ((lead ≡ None) × (stands_in_list a ≡ true → semantics_of (own_of e) ≡ None))

-- ---- replacement

-- e has the idShort and the semanticId of o, and fits its role r
pub record IsAlike (e : Element) (r : Role) (o : Element) : Type 0 where
  pub names : name_of (own_of e) ≡ name_of (own_of o)
  pub semantics : semantics_of (own_of e) ≡ semantics_of (own_of o)
  pub role : r ≡ role_of o
  pub fits : fits_role e r ≡ true

-- a path leads to such an element
abbrev pub IsAlikeAt : List PathStep → Element → Role → Submodel → Type 0
IsAlikeAt p e r s = MatchOption (element_at s p) ⊥ (IsAlike e r)
