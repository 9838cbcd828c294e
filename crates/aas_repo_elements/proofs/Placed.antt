-- What an element comes in under, and what its check there tells.
use Rattle.std.proofs.Common.{◌≡◌, ℕ, List, [], ◌∷◌, ◌++◌, map as each, flat_map, Option, Some, None, refl, sym, ap}
use Rattle.std.proofs.Common.{ap₂, ◌∙◌}
use Rattle.std.specs.Prelude.{◌≢◌, Bool, false, MatchOption, is_some, option_map}
use Rattle.std.specs.Option.{option_copied}
use Rattle.aas_value_patch.proofs.Faultless.{no_first}
use denote.Ref.{Bor}
use Rattle.aas_constraint_laws.specs.Law.{behind}
use Rattle.aas_constraint_rules.specs.Faults.{faults_at, is_template}
use Rattle.aas_constraint_rules.specs.Rules.{first_some, is_repeat, name_of, semantics_of}
use Rattle.aas_constraint_rules.specs.Sites.{Own, own_of, sites, tree_of}
use Rattle.aas_constraints.specs.Walk.{above_of}
use Rattle.aas_edit_faults.specs.Laws.{faults_alone}
use Rattle.aas_model.specs.declared.documents.Submodel.{Submodel}
use Rattle.aas_model.specs.declared.element.Element.{Element, Element-F, out-Element, out-roll-Element}
use Rattle.aas_model.specs.declared.element.Role.{Role}
use Rattle.aas_model.specs.declared.path.Fault.{Fault}
use Rattle.aas_model.specs.declared.path.PathStep.{PathStep}
use Rattle.aas_model.specs.declared.reference.Reference.{Reference}
use Rattle.aas_path_trees.specs.Children.{with_role}
use Rattle.aas_path_trees.specs.ElementAt.{element_at}
use Rattle.aas_reference.specs.Rules.{first}
use Rattle.aas_rows.specs.Rows.{Line, line_at}
use Rattle.aas_rows.specs.Views.{line_of}
use Rattle.aas_rows.specs.declared.view.RowView.{RowView}
use Rattle.aas_store.specs.Documents.{without_children}
use Rattle.aas_store.specs.Reads.{IsRowOf}
use Rattle.aas_repo_elements.specs.Placing.{IsAbove, IsFaultless, IsParent, own_of_parent}
use Rattle.aas_repo_elements.specs.declared.placing.Parent.{Parent}

-- ---- the element

-- in whatever role
pub common_with_role : (e : Element) (r : Role) → (out-Element (with_role e r)).common ≡ (out-Element e).common
common_with_role e r = ap (λ (f : Element-F Element). f.common) (out-roll-Element (record (out-Element e) { role = r }))

-- ---- the parent

own_in : Line → Own
own_in l = record { common = l.common; payload = l.payload; role = l.role }

-- the row of what a path leads to, and a copy of it
pub above_by_row : (s : Submodel) (p : List PathStep) (row : RowView) (e : Element)
    → p ≢ [] → MatchOption (element_at s p) ⊥ (λ o. IsRowOf o row)
    → line_at row.level e ≡ line_of row → IsAbove p (Some (own_of e)) s
unfolding own_in
above_by_row s [] row e some at line = absurd (some refl)
above_by_row s (t ∷ p) row e some at line = by_found (element_at s (t ∷ p)) refl at
  where
    by_found : (found : Option Element)
        → element_at s (t ∷ p) ≡ found → MatchOption found ⊥ (λ o. IsRowOf o row) → IsAbove (t ∷ p) (Some (own_of e)) s
    by_found None is at = absurd at
    by_found (Some o) is at = record {
      there = ap is_some is;
      own = ap (option_map own_of) is ∙ ap (λ (l : Line). Some (own_in l)) (sym at ∙ sym line);
    }

pub submodel_above : (s : Submodel) (p : List PathStep) → p ≡ [] → IsAbove p None s
submodel_above s [] none = record { there = refl; own = refl }
submodel_above s (t ∷ p) none = absurd (cc)

pub is_parent : (s : Submodel) (p : List PathStep) (x : Parent) (head : Submodel)
    → without_children head ≡ without_children s
    → x.in_template ≡ is_template head.kind → IsAbove p (own_of_parent x) s → IsParent p x s
is_parent s p x head same template above =
    record { above = above; template = template ∙ ap (λ (x : Submodel). is_template x.kind) same }

-- ---- the faults below it

above_is : (above : Option (Bor Element)) → above_of above ≡ option_map own_of (option_copied above)
above_is None = refl
above_is (Some e) = refl

pub is_faultless : (x : Parent) (above : Option (Bor Element)) (lead : Option Reference) (e : Element)
    → option_copied above ≡ x.element
    → ((b : List Own) → is_repeat b (name_of (own_of e)) ≡ false → lead ≡ first_some (each semantics_of b)
    → None ≡ first (flat_map faults_at (sites x.in_template (above_of above) b (tree_of e))))
    → IsFaultless x lead e
is_faultless x above lead e same checked b new lead_is =
    ap (λ (o : Option Own). flat_map faults_at (sites x.in_template o b (tree_of e)))
    (sym (above_is above ∙ ap (option_map own_of) same))
    ∙ no_first _ (checked b new lead_is)

-- with no siblings
no_repeat : (n : Option (List ℕ)) → is_repeat [] n ≡ false
no_repeat None = refl
no_repeat (Some n) = refl

pub none_alone : (s : Submodel) (p : List PathStep) (t : PathStep) (x : Parent) (e : Element) (lead : Option Reference)
    → IsParent p x s → IsFaultless x lead e → lead ≡ None
    → faults_alone s p t e ≡ []
none_alone s p t x e lead parent faultless lead_is =
    ap (λ (fs : List Fault). each (behind (p ++ t ∷ [])) fs)
    (ap₂ (λ (u : Bool) (o : Option Own). flat_map faults_at (sites u o [] (tree_of e)))
    (sym parent.template) parent.above.own
    ∙ faultless [] (no_repeat (name_of (own_of e))) lead_is)
