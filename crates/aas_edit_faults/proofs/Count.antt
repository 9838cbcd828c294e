-- How many elements there are after an edit: as many as rows in preorder.
use Rattle.std.proofs.Common.{◌≡◌, ℕ, ◌+◌, false, List, [], ◌∷◌, ◌++◌, length, length-append, Option, Some, None, refl, sym, ap, ◌∙◌, arith}
use Rattle.std.specs.Option.{option_map_or}
use Rattle.std.proofs.lemmas.Grind.{flat_map-append}
use Rattle.std.proofs.lemmas.List.{append-nil}
use Rattle.aas_model.specs.declared.documents.Submodel.{Submodel}
use Rattle.aas_model.specs.declared.element.Element.{Element, Element-F, out-Element, out-roll-Element}
use Rattle.aas_model.specs.Payload as payload
use Rattle.aas_model.specs.declared.element.Role.{Role}
use Rattle.aas_model.specs.declared.element.Role.TheVariants.{Member}
use Rattle.aas_model.specs.declared.path.PathStep.{PathStep}
use Rattle.aas_model_names.specs.declared.kind.Kind.{Kind}
use Rattle.aas_path_trees.specs.Children.{kids_of, role_of, with_role}
use Rattle.aas_path_trees.specs.Edits.{role_at, role_under_found, with_last, with_last_at, inserted, replaced, removed}
use Rattle.aas_path_trees.specs.ElementAt.{element_at}
use Rattle.aas_path_trees.specs.Patched.{kinds, kinds_of_all, element_count}
use Rattle.aas_path_trees.specs.WithElement.{with_element}
use Rattle.aas_path_trees.proofs.Patches.{kinds_out}
use Rattle.aas_rows.specs.Rows.{Line, rows}
use Rattle.aas_rows.proofs.Edited.{count_at, have_edited_rows}
use Rattle.aas_edit_faults.specs.Laws.{count_of, EditsCount}
use Rattle.aas_edit_faults.proofs.Walks.{kids_with_kids}

-- ---- one element

counted : (e : Element) → count_of e ≡ 1 + length (kinds_of_all (kids_of e))
counted e = let is = ap length (kinds_out e) in omega (arith, is)

abbrev kinds_over : Element-F Element → List Kind
kinds_over f = payload.kind_of f.payload ∷ kinds_of_all f.kids

count_with_role : (e : Element) (r : Role) → count_of (with_role e r) ≡ count_of e
count_with_role e r =
    ap length (kinds_out (with_role e r) ∙ ap kinds_over (out-roll-Element (record (out-Element e) { role = r })) ∙ sym (kinds_out e))

one_counted : (e : Element) → length (kinds_of_all (e ∷ [])) ≡ count_of e
one_counted e = ap length (append-nil (kinds e))

more_counted : (ks : List Element) (e : Element) → length (kinds_of_all (ks ++ e ∷ [])) ≡ length (kinds_of_all ks) + count_of e
more_counted ks e =
    ap length (flat_map-append kinds ks (e ∷ [])) ∙ length-append (kinds_of_all ks) (kinds_of_all (e ∷ [])) ∙ ap (λ n. length (kinds_of_all ks) + n) (one_counted e)

count_with_last : (o e : Element) (r : Role) → count_of (with_last o e r) ≡ count_of o + count_of e
count_with_last o e r =
    let w = with_role e r in
    let made = counted (with_last o e r) in
    let kids = ap (λ l. length (kinds_of_all l)) (kids_with_kids o (kids_of o ++ w ∷ [])) ∙ more_counted (kids_of o) w in
    let own = counted o in
    let same = count_with_role e r in
    omega (arith, made, kids, own, same)

-- ---- by rows

row_count : (e : Element) (k : ℕ) → length (rows e k) ≡ count_of e
row_count e k = sym (ap length (append-nil (rows e k))) ∙ count_at (e ∷ []) k ∙ one_counted e

parts_count : (before mid behind : List Line) → length (before ++ (mid ++ behind)) ≡ length before + (length mid + length behind)
parts_count before mid behind = length-append before (mid ++ behind) ∙ ap (λ n. length before + n) (length-append mid behind)

changed_count : (d : Submodel) (p : List PathStep) (o w : Element) → element_at d p ≡ Some o
    → element_count (with_element d p w) + count_of o ≡ element_count d + count_of w
changed_count d [] o w there = absurd (cc)
changed_count d (s ∷ q) o w there =
    let at = have_edited_rows false s q d.kids 0 o there in
    let whole = sym (count_at d.kids 0) ∙ ap length at.whole ∙ parts_count at.before (rows o at.level) at.behind in
    let edited = sym (count_at _ 0) ∙ ap length (at.edited w) ∙ parts_count at.before (rows w at.level) at.behind in
    let old = row_count o at.level in
    let new = row_count w at.level in
    omega (arith, whole, edited, old, new)

-- ---- the law

found_inserted : (d : Submodel) (s : PathStep) (q : List PathStep) (e : Element) (r : Role) (found : Option Element) → element_at d (s ∷ q) ≡ found
    → role_under_found found e ≡ Some r
    → element_count (option_map_or (with_last_at d (s ∷ q) e found) (role_under_found found e) d) ≡ element_count d + count_of e
found_inserted d s q e r None there role = absurd (cc)
found_inserted d s q e r (Some o) there role =
    let made = ap (λ x. element_count (option_map_or (with_last_at d (s ∷ q) e (Some o)) x d)) role in
    let changed = changed_count d (s ∷ q) o (with_last o e r) there in
    let last = count_with_last o e r in
    omega (arith, made, changed, last)

removed_count : (d : Submodel) (p : List PathStep) (o : Element) → element_at d p ≡ Some o → element_count (removed d p) + count_of o ≡ element_count d
removed_count d [] o there = absurd (cc)
removed_count d (s ∷ q) o there =
    let at = have_edited_rows false s q d.kids 0 o there in
    let whole = sym (count_at d.kids 0) ∙ ap length at.whole ∙ parts_count at.before (rows o at.level) at.behind in
    let left = sym (count_at _ 0) ∙ ap length at.removed ∙ length-append at.before at.behind in
    let old = row_count o at.level in
    omega (arith, whole, left, old)

pub edits_count : EditsCount
edits_count = record {
  inserted = λ d p e r role. insert_count d p e r role;
  replaced = λ d p e o there.
      let w = with_role e (role_of o) in
      let made : element_count (replaced d p e) ≡ element_count (with_element d p w) =
      ap (λ f. element_count (option_map_or (λ o. with_element d p (with_role e (role_of o))) f d)) there in
      let changed = changed_count d p o w there in
      let same = count_with_role e (role_of o) in
      omega (arith, made, changed, same);
  removed = removed_count;
}
  where
    insert_count : (d : Submodel) (p : List PathStep) (e : Element) (r : Role) → role_at d p e ≡ Some r → element_count (inserted d p e) ≡ element_count d + count_of e
    insert_count d [] e r role = more_counted d.kids (with_role e Member) ∙ ap (λ n. element_count d + n) (count_with_role e Member)
    insert_count d (s ∷ q) e r role = found_inserted d s q e r (element_at d (s ∷ q)) refl role
