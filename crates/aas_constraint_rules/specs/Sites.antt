-- The places of a tree in preorder, each with what a constraint may look at from there. The children of an Operation are its input, output and inoutput variables in this order.
use Rattle.std.specs.Prelude.{ℕ, Bool, true, false, List, [], ◌∷◌, ◌++◌, map, length, Option, Some, None, if◌then◌else◌}
use Rattle.aas_constraint_rules.specs.Decided.{is_id_short}
use Rattle.aas_model.specs.Common.{no_attributes}
use Rattle.aas_model.specs.declared.common.Common.{Common}
use Rattle.aas_model.specs.declared.element.Element.{Element, fold-Element, out-Element}
use Rattle.aas_model.specs.declared.element.Element.TheOpen.{Element-F}
use Rattle.aas_model.specs.declared.element.Role.{Role}
use Rattle.aas_model.specs.declared.element.Role.TheVariants as role
use Rattle.aas_model.specs.declared.payload.Payload.{Payload}
use Rattle.aas_model.specs.declared.payload.Payload.TheVariants as p
use Rattle.aas_model.specs.declared.path.PathStep.{PathStep}
use Rattle.aas_model.specs.declared.path.PathStep.TheVariants.{Name, Place}

-- an element without its children
pub record Own : Type 0 where
  pub common : Common
  pub payload : Payload
  pub role : Role

abbrev pub own_of : Element → Own
own_of e = record { common = (out-Element e).common; payload = (out-Element e).payload; role = (out-Element e).role }

-- an element that has nothing but these of the attributes that every element has
abbrev pub of_common : Common → Own
of_common c = record { common = c; payload = p.Capability; role = role.Member }

-- an element that has none of them
abbrev pub of_payload : Payload → Own
of_payload x = record { common = no_attributes; payload = x; role = role.Member }

-- a place: whether the document has kind Template, its path, its parent (none under the document), its earlier siblings in order, and what stands there
pub record Site : Type 0 where
  pub in_template : Bool
  pub path : List PathStep
  pub above : Option Own
  pub before : List Own
  pub own : Own

abbrev pub is_list : Payload → Bool
is_list (p.SubmodelElementList o s t v) = true
is_list _ = false

abbrev pub stands_in_list : Option Own → Bool
stands_in_list None = false
stands_in_list (Some o) = is_list o.payload

abbrev pub named_or : Option (List ℕ) → ℕ → PathStep
named_or None n = Place n
named_or (Some s) n = if is_id_short s then Name s else Place n

-- the step to a child that has n earlier siblings: its idShort where a path can name it, else its place. This profile's own rule.
abbrev pub step_to : Option Own → ℕ → Own → PathStep
step_to above n o = if stands_in_list above then Place n else named_or o.common.id_short n

-- the same place, seen from one step above
abbrev pub under : PathStep → Site → Site
under s x = record x { path = s ∷ x.path }

-- ---- preorder: a root, then the trees below it

mutual
  pub data Tree : Type 0 where
    node : Own → Trees → Tree

  pub data Trees : Type 0 where
    none : Trees
    first : Tree → Trees → Trees

abbrev pub root : Tree → Own
root (node o ts) = o

unfoldable mutual
  -- the places of a tree, whose root has the parent a and the earlier siblings b
  pub sites : Bool → Option Own → List Own → Tree → List Site
  sites t a b (node o ts) = record { in_template = t; path = []; above = a; before = b; own = o } ∷ sites_among t (Some o) [] ts

  -- the places of the trees that come after the siblings b
  pub sites_among : Bool → Option Own → List Own → Trees → List Site
  sites_among t a b none = []
  sites_among t a b (first k ks) = map (under (step_to a (length b) (root k))) (sites t a b k) ++ sites_among t a (b ++ root k ∷ []) ks

-- ---- an element as a tree

abbrev pub trees : List Tree → Trees
trees [] = none
trees (t ∷ ts) = first t (trees ts)

abbrev pub tree_over : Element-F Tree → Tree
tree_over f = node (record { common = f.common; payload = f.payload; role = f.role }) (trees f.kids)

unfoldable pub tree_of : Element → Tree
tree_of = fold-Element Tree tree_over
