-- What an edit makes of a submodel without faults: new faults stand only where an element comes in, so that a change is
-- checked by what comes in alone. IDTA-01002-3-0 names the operations on an element, and not what they make of a document;
-- at which element a broken constraint stands is this profile's own rule.
use Rattle.std.specs.Prelude.{◌≡◌, ℕ, ◌+◌, true, false, IsTrue, List, [], ◌∷◌, ◌++◌, map, flat_map, length, take, Option, Some, None, option_and_then, option_map}
use Rattle.aas_model.specs.declared.documents.Submodel.{Submodel}
use Rattle.aas_model.specs.declared.element.Element.{Element}
use Rattle.aas_model.specs.declared.element.Role.{Role}
use Rattle.aas_model.specs.declared.path.Fault.{Fault}
use Rattle.aas_model.specs.declared.path.PathStep.{PathStep}
use Rattle.aas_json_mapping.specs.Whole.{is_whole_element}
use Rattle.aas_constraint_rules.specs.Faults.{faults, faults_at, is_template, submodel, HasNoFault}
use Rattle.aas_constraint_rules.specs.Rules.{agree, first_some, name_of, semantics_of}
use Rattle.aas_constraint_rules.specs.Sites.{own_of, sites, sites_among, stands_in_list, step_to, tree_of, trees}
use Rattle.aas_path_trees.specs.Children.{id_short_of, kids_of, role_of, is_list, with_role}
use Rattle.aas_path_trees.specs.Edits.{fits_role, role_at, inserted, replaced, removed}
use Rattle.aas_path_trees.specs.ElementAt.{child_by, children_at, element_at, place_named}
use Rattle.aas_path_trees.specs.Patched.{element_count, kinds}
use Rattle.aas_constraint_laws.specs.Law.{behind}
use Rattle.aas_constraint_laws.specs.Valid.{IsValid}
use Rattle.aas_edit_laws.specs.Laws.{at_level}

-- ---- what stands below a path; the empty path leads to the submodel itself

-- the child to which one more step leads, behind its place
abbrev pub child_at : Submodel → List PathStep → PathStep → Option (ℕ × Element)
child_at d [] s = child_by false s d.kids
child_at d (t ∷ p) s = option_and_then (λ o. child_by (is_list o) s (kids_of o)) (element_at d (t ∷ p))

-- ---- faults

-- the faults of e and of all below it, where e is the child of what p leads to that comes after the siblings ks
abbrev pub faults_as_child : Submodel → List PathStep → List Element → Element → List Fault
faults_as_child d p ks e =
    map (behind p) (flat_map faults_at (sites_among (is_template d.kind) (option_map own_of (element_at d p)) (map own_of ks) (trees (tree_of e ∷ []))))

-- where an element is inserted, the faults are those of it in its place, after the children that are there, and no others
abbrev pub FaultsOfInserted : Type 0
FaultsOfInserted = (d : Submodel) (p : List PathStep) (e : Element) (r : Role) → HasNoFault (submodel d) → role_at d p e ≡ Some r
    → faults (inserted d p e) ≡ faults_as_child d p (children_at d p) (with_role e r)

-- where e replaces o, which has the same idShort and the same semanticId, the faults are those of e in the place of o
abbrev pub FaultsOfReplaced : Type 0
FaultsOfReplaced = (d : Submodel) (p : List PathStep) (s : PathStep) (i : ℕ) (o e : Element) → HasNoFault (submodel d) → child_at d p s ≡ Some (i, o)
    → name_of (own_of e) ≡ name_of (own_of o) → semantics_of (own_of e) ≡ semantics_of (own_of o)
    → faults (replaced d (p ++ s ∷ []) e) ≡ faults_as_child d p (take i (children_at d p)) (with_role e (role_of o))

-- ---- without siblings

-- the faults of e and of all below it, where one step more than p leads to it, and no sibling stands before it
abbrev pub faults_alone : Submodel → List PathStep → PathStep → Element → List Fault
faults_alone d p s e =
    map (behind (p ++ s ∷ [])) (flat_map faults_at (sites (is_template d.kind) (option_map own_of (element_at d p)) [] (tree_of e)))

-- no child has this idShort
abbrev pub IsNewName : List Element → Option (List ℕ) → Type 0
IsNewName ks None = Unit {0}
IsNewName ks (Some n) = place_named n ks ≡ None

-- an inserted element has the faults that it has without siblings, where no child has its idShort, and in a list its semanticId
-- is the first of the children's, or one of them isn't there
abbrev pub InsertedStandsAlone : Type 0
InsertedStandsAlone = (d : Submodel) (p : List PathStep) (e : Element) → IsNewName (children_at d p) (id_short_of e)
    → (stands_in_list (option_map own_of (element_at d p)) ≡ true
    → agree (first_some (map semantics_of (map own_of (children_at d p)))) (semantics_of (own_of e)) ≡ true)
    → faults_as_child d p (children_at d p) e
    ≡ faults_alone d p (step_to (option_map own_of (element_at d p)) (length (children_at d p)) (own_of e)) e

-- in a list no child has an idShort
abbrev pub ListsHaveNoNames : Type 0
ListsHaveNoNames = (d : Submodel) (p : List PathStep) (o : Element) (n : Option (List ℕ)) → HasNoFault (submodel d) → element_at d p ≡ Some o → IsTrue (is_list o)
    → IsNewName (kids_of o) n

-- an element in the place of one that has the same idShort and the same semanticId always has those
abbrev pub ReplacedStandsAlone : Type 0
ReplacedStandsAlone = (d : Submodel) (p : List PathStep) (s : PathStep) (i : ℕ) (o e : Element) → HasNoFault (submodel d) → child_at d p s ≡ Some (i, o)
    → name_of (own_of e) ≡ name_of (own_of o) → semantics_of (own_of e) ≡ semantics_of (own_of o)
    → faults_as_child d p (take i (children_at d p)) e ≡ faults_alone d p s e

-- ---- removing

-- where an element is removed there are none
abbrev pub RemovingKeepsFaultless : Type 0
RemovingKeepsFaultless = (d : Submodel) (p : List PathStep) → HasNoFault (submodel d) → HasNoFault (submodel (removed d p))

-- ---- valid submodels

-- So a valid submodel stays valid where what comes in has none of these faults, and is whole at the level below p.
pub record EditsKeepValid : Type 0 where
  pub inserted : (d : Submodel) (p : List PathStep) (e : Element) (r : Role) → IsValid (submodel d) → role_at d p e ≡ Some r
      → IsTrue (is_whole_element (at_level (length p + 1)) e) → faults_as_child d p (children_at d p) (with_role e r) ≡ []
      → IsValid (submodel (inserted d p e))
  pub replaced : (d : Submodel) (p : List PathStep) (s : PathStep) (i : ℕ) (o e : Element) → IsValid (submodel d) → child_at d p s ≡ Some (i, o)
      → name_of (own_of e) ≡ name_of (own_of o) → semantics_of (own_of e) ≡ semantics_of (own_of o)
      → IsTrue (is_whole_element (at_level (length p + 1)) e) → IsTrue (fits_role e (role_of o))
      → faults_as_child d p (take i (children_at d p)) (with_role e (role_of o)) ≡ [] → IsValid (submodel (replaced d (p ++ s ∷ []) e))
  pub removed : (d : Submodel) (p : List PathStep) → IsValid (submodel d) → IsValid (submodel (removed d p))

-- ---- how many elements there are, at all levels

-- an element, and all below it
abbrev pub count_of : Element → ℕ
count_of e = length (kinds e)

-- what comes in is counted, and what it replaces isn't any more; o is the element to which p leads
pub record EditsCount : Type 0 where
  pub inserted : (d : Submodel) (p : List PathStep) (e : Element) (r : Role) → role_at d p e ≡ Some r
      → element_count (inserted d p e) ≡ element_count d + count_of e
  pub replaced : (d : Submodel) (p : List PathStep) (e o : Element) → element_at d p ≡ Some o
      → element_count (replaced d p e) + count_of o ≡ element_count d + count_of e
  pub removed : (d : Submodel) (p : List PathStep) (o : Element) → element_at d p ≡ Some o
      → element_count (removed d p) + count_of o ≡ element_count d
