-- What the replacement of an element comes to, where it is accepted by its place.
use Rattle.std.proofs.Common.{◌≡◌, ℕ, ◌+◌, ◌≤◌, Bool, true, false, List, [], ◌∷◌, ◌++◌, length, Option, Some, None}
use Rattle.std.proofs.Common.{option_and_then, refl, sym, ap, ◌∙◌, subst, arith}
use Rattle.std.proofs.lemmas.Bool.Decides.{nat_tests}
use Rattle.std.proofs.lemmas.List.{length_push}
use Rattle.std.specs.Prelude.{MatchOption, nat_lt, take}
use Rattle.std.specs.Option.{option_map_or}
use Rattle.aas_command.specs.declared.refusal.Refusal.TheVariants.{NotAContainer}
use Rattle.aas_constraint_laws.specs.Valid.{IsValid}
use Rattle.aas_constraint_rules.specs.Faults.{submodel}
use Rattle.aas_constraint_rules.specs.Rules.{name_of, semantics_of}
use Rattle.aas_constraint_rules.specs.Sites.{own_of}
use Rattle.aas_edit_faults.specs.Laws.{EditsCount, EditsKeepValid, ReplacedStandsAlone, child_at, faults_as_child}
use Rattle.aas_edit_laws.specs.Laws.{at_level}
use Rattle.aas_json_mapping.specs.Whole.{is_whole_element}
use Rattle.aas_model.specs.declared.common.Common.{Common}
use Rattle.aas_model.specs.declared.documents.Submodel.{Submodel}
use Rattle.aas_model.specs.declared.element.Element.{Element}
use Rattle.aas_model.specs.declared.element.Role.{Role}
use Rattle.aas_model.specs.declared.path.PathStep.{PathStep}
use Rattle.aas_path_trees.proofs.Paths.{element_among-append}
use Rattle.aas_path_trees.specs.Children.{id_short_of, is_list, kids_of, role_of, with_role}
use Rattle.aas_path_trees.specs.Edits.{fits_role, replaced}
use Rattle.aas_path_trees.specs.ElementAt.{child_by, element_at, element_below, children_at}
use Rattle.aas_path_trees.specs.Patched.{kinds, element_count}
use Rattle.aas_rows.specs.Rows.{Line}
use Rattle.aas_rows.specs.Views.{line_of}
use Rattle.aas_rows.specs.declared.view.RowView.{RowView}
use Rattle.aas_step.specs.Causes.{Cause, first_of, is_lost, replace_causes, unless}
use Rattle.aas_store.specs.Edited.{CanReplace}
use Rattle.aas_store.specs.Reads.{IsRowOf, semantic_id_of}
use Rattle.aas_repo_documents.proofs.Counted.{count_out}
use Rattle.aas_repo_elements.proofs.Placed.{common_with_role, none_alone}
use Rattle.aas_repo_documents.proofs.Reached.{found_there}
use Rattle.aas_repo_documents.specs.Accepted.{IsAccepted}
use Rattle.aas_repo_elements.specs.Placing.{IsAlike, IsAlikeAt, IsFaultless, IsParent}
use Rattle.aas_repo_elements.specs.declared.placing.Parent.{Parent}

-- ---- the old element

-- by its row
pub is_alike_at : (s : Submodel) (p : List PathStep) (row : RowView) (e : Element)
    → MatchOption (element_at s p) ⊥ (λ o. IsRowOf o row)
    → id_short_of e ≡ (line_of row).common.id_short
    → semantic_id_of e ≡ (line_of row).common.semantics.semantic_id → fits_role e row.role ≡ true
    → IsAlikeAt p e row.role s
is_alike_at s p row e at names semantics fits = alike (element_at s p) at
  where
    alike : (found : Option Element)
        → MatchOption found ⊥ (λ o. IsRowOf o row) → MatchOption found ⊥ (IsAlike e row.role)
    alike None at = absurd at
    alike (Some o) at = record {
      names = names ∙ ap (λ (l : Line). l.common.id_short) at;
      semantics = semantics ∙ ap (λ (l : Line). l.common.semantics.semantic_id) at;
      role = ap (λ (l : Line). l.role) at;
      fits = fits;
    }

-- ---- the last step

child_found : (found : Option (ℕ × Element)) (o : Element)
    → option_and_then (λ (c : ℕ × Element). Some c.1) found ≡ Some o → (i : ℕ) × (found ≡ Some (i, o))
child_found None o is = absurd (cc)
child_found (Some c) o is =
    let second : c.1 ≡ o = cc in
    (c.0, ap (λ (k : Element). Some (c.0, k)) second)

last_step : (s : Submodel) (q : List PathStep) (t : PathStep) (o : Element)
    → element_at s (q ++ t ∷ []) ≡ Some o → (i : ℕ) × (child_at s q t ≡ Some (i, o))
unfolding element_below
last_step s [] t o at = child_found (child_by false t s.kids) o at
last_step s (u ∷ q) t o at = by_found (element_at s (u ∷ q)) (sym (element_among-append false u q (t ∷ []) s.kids) ∙ at)
  where
    by_found : (found : Option Element) → option_and_then (element_below (t ∷ [])) found ≡ Some o
        → (i : ℕ) × (option_and_then (λ k. child_by (is_list k) t (kids_of k)) found ≡ Some (i, o))
    by_found None at = absurd (cc)
    by_found (Some k) at = child_found (child_by (is_list k) t (kids_of k)) o at

-- ---- the replacement

no_cause : (s : Submodel) (p : List PathStep) (e o : Element)
    → element_at s p ≡ Some o → fits_role e (role_of o) ≡ true → first_of (replace_causes p e s) ≡ None
no_cause s [] e o at fits = absurd (cc)
no_cause s (t ∷ p) e o at fits =
    ap (λ (c : Cause). first_of
    (c ∷ unless (option_map_or (λ o. fits_role e (role_of o)) (element_at s (t ∷ p)) false) NotAContainer ∷ []))
    (found_there s t p o at)
    ∙ ap (λ (b : Bool). first_of (unless b NotAContainer ∷ []))
    (ap (λ (f : Option Element). option_map_or (λ o. fits_role e (role_of o)) f false) at ∙ fits)

within : (n k m gone rest : ℕ) → n + gone ≡ k + m → gone ≡ rest + 1 → k + m ≤ 65537 → nat_lt 65536 n ≡ false
within n k m gone rest is one few = grind (arith, nat_tests)

module _ (s : Submodel) (q : List PathStep) (t : PathStep) (x : Parent) (e child o : Element) (r : Role)
    (stands : ReplacedStandsAlone) (keep : EditsKeepValid) (count : EditsCount) (valid : IsValid (submodel s))
    (whole : is_whole_element (at_level (length (q ++ t ∷ []))) e ≡ true)
    (few : element_count s + length (kinds e) ≤ 65537)
    (at : element_at s (q ++ t ∷ []) ≡ Some o) (alike : IsAlike e r o) (same : child ≡ with_role e r)
    (parent : IsParent q x s) (faultless : IsFaultless x None child) where
  fits : fits_role e (role_of o) ≡ true
  fits = ap (fits_role e) (sym alike.role) ∙ alike.fits

  names : name_of (own_of child) ≡ name_of (own_of o)
  names = ap (λ k. name_of (own_of k)) same ∙ ap (λ (c : Common). c.id_short) (common_with_role e r) ∙ alike.names

  semantics : semantics_of (own_of child) ≡ semantics_of (own_of o)
  semantics =
      ap (λ k. semantics_of (own_of k)) same
      ∙ ap (λ (c : Common). c.semantics.semantic_id) (common_with_role e r) ∙ alike.semantics

  -- at the place i among its siblings
  stays_valid : (i : ℕ) → child_at s q t ≡ Some (i, o) → IsValid (submodel (replaced s (q ++ t ∷ []) e))
  stays_valid i is =
      keep.replaced s q t i o e valid is alike.names alike.semantics
      (subst (λ (n : ℕ). is_whole_element (at_level n) e ≡ true) (length_push q t) whole) fits
      (ap (faults_as_child s q (take i (children_at s q))) (ap (with_role e) (sym alike.role) ∙ sym same)
      ∙ stands s q t i o child valid.faultless is names semantics ∙ none_alone s q t x child None parent faultless refl)

  accepted_there : IsAccepted (replace_causes (q ++ t ∷ []) e) (λ s. replaced s (q ++ t ∷ []) e) s
  accepted_there =
      let c = last_step s q t o at in record {
        no_cause = no_cause s (q ++ t ∷ []) e o at fits;
        valid = stays_valid c.0 c.1;
        few = within _ _ _ _ _ (count.replaced s (q ++ t ∷ []) e o at) (count_out o (kids_of o) refl) few;
      }

pub is_replaceable : (s : Submodel) (p q : List PathStep) (x : Parent) (e child : Element) (r : Role)
    → ReplacedStandsAlone → EditsKeepValid → EditsCount → IsValid (submodel s) → (t : PathStep) × (p ≡ q ++ t ∷ [])
    → is_whole_element (at_level (length p)) e ≡ true → child ≡ with_role e r
    → element_count s + length (kinds e) ≤ 65537 → IsAlikeAt p e r s
    → IsParent q x s → IsFaultless x None child → IsAccepted (replace_causes p e) (λ s. replaced s p e) s
is_replaceable s p q x e child r stands keep count valid last whole same few alike parent faultless =
    subst (λ (p : List PathStep). IsAccepted (replace_causes p e) (λ s. replaced s p e) s) (sym last.1)
    (by_element (element_at s (q ++ last.0 ∷ [])) refl (subst (λ (p : List PathStep). IsAlikeAt p e r s) last.1 alike))
  where
    by_element : (found : Option Element) → element_at s (q ++ last.0 ∷ []) ≡ found → MatchOption found ⊥ (IsAlike e r)
        → IsAccepted (replace_causes (q ++ last.0 ∷ []) e) (λ s. replaced s (q ++ last.0 ∷ []) e) s
    by_element None at alike = absurd alike
    by_element (Some o) at alike =
        accepted_there s q last.0 x e child o r stands keep count valid
        (subst (λ (p : List PathStep). is_whole_element (at_level (length p)) e ≡ true) last.1 whole) few
        at alike same parent faultless

-- ---- what is accepted can be stored

pub fits_there : (s : Submodel) (p : List PathStep) (e : Element)
    → first_of (replace_causes p e s) ≡ None → CanReplace s p e
fits_there s p e none = can_replace (is_lost s p) (element_at s p) none
  where
    by_fit : (b : Bool) → first_of (unless b NotAContainer ∷ []) ≡ None → b ≡ true
    by_fit true is = refl
    by_fit false is = absurd (cc)

    can_replace : (lost : Cause) (found : Option Element)
        → first_of (lost ∷ unless (option_map_or (λ o. fits_role e (role_of o)) found false) NotAContainer ∷ []) ≡ None
        → MatchOption found ⊥ (λ old. fits_role e (role_of old) ≡ true)
    can_replace (Some r) found is = absurd (cc)
    can_replace None None is = absurd (cc)
    can_replace None (Some o) is = by_fit (fits_role e (role_of o)) is
