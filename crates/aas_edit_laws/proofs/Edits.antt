-- Whole submodels stay whole.
use Rattle.std.proofs.Common.{◌≡◌, ℕ, suc, ◌+◌, ◌-◌, ◌&&◌, nat_le, Bool, true, false, List, [], ◌∷◌, ◌++◌, length, Option, Some, None}
use Rattle.std.proofs.Common.{option_and_then, if◌then◌else◌, refl, sym, ap, ◌∙◌, subst, arith}
use Rattle.std.specs.List.{list_all}
use Rattle.std.specs.Option.{option_map_or}
use Rattle.std.proofs.lemmas.Bool.{and_from, leb-true, le-leb}
use Rattle.aas_lemmas.proofs.Truth.{and_left, and_right}
use Rattle.aas_json_table.specs.TooDeep.{limits}
use Rattle.aas_json_spelling.specs.Lists.{Each}
use Rattle.aas_json_mapping.specs.Whole.{Placed, is_annotation, is_member, is_statement, admits, has_whole_parts, is_placed, element_levels}
use Rattle.aas_json_mapping.specs.Whole.{is_whole_child, is_whole_element, whole_head, whole_semantics, whole_qualifier, is_whole_submodel}
use Rattle.aas_json_mapping.proofs.Elements.{seen, seen_role}
use Rattle.aas_json_mapping.proofs.ElementsSame.{role_made, only_annotation}
use Rattle.aas_model_names.specs.KindNames.{is_data_element}
use Rattle.aas_model.specs.Payload.{kind_of}
use Rattle.aas_model.specs.declared.documents.Submodel.{Submodel}
use Rattle.aas_model.specs.declared.element.Element.{Element, out-Element}
use Rattle.aas_model.specs.declared.element.Role.{Role}
use Rattle.aas_model.specs.declared.element.Role.TheVariants as role
use Rattle.aas_model.specs.declared.path.PathStep.{PathStep}
use Rattle.aas_model.specs.declared.payload.Payload.{Payload}
use Rattle.aas_model.specs.declared.payload.Payload.TheVariants as p
use Rattle.aas_path_trees.specs.Children.{kids_of, role_of, with_kids, with_role}
use Rattle.aas_path_trees.specs.Edits.{role_within, fits_role, if_fits, role_under, role_under_found, with_last_at}
use Rattle.aas_path_trees.specs.ElementAt.{element_at}
use Rattle.aas_path_trees.specs.WithElement.{with_element}
use Rattle.aas_edit_laws.specs.Laws.{at_level, InsertKeepsWhole, ReplaceKeepsWhole, RemoveKeepsWhole}
use Rattle.aas_edit_laws.proofs.OneLevel.{payload_of, data_made, like_by, kids_like, kids_whole, role_whole}
use Rattle.aas_edit_laws.proofs.Siblings.{IsWhole, IsWholeUnder, AreWhole, IsLike, in_any_order, one_more}
use Rattle.aas_edit_laws.proofs.Walks.{MayStandFor, among_whole, removed_whole}

-- ---- whole elements

whole_child : (left : ℕ) (k : Element) → is_whole_child (record limits { elements = left }) k ≡ true → IsWhole left k
whole_child left k whole =
    let first = and_left (has_whole_parts limits k && is_placed k) (nat_le (element_levels k) left) whole in record {
      parts = and_left (has_whole_parts limits k) (is_placed k) first;
      placed = and_right (has_whole_parts limits k) (is_placed k) first;
      low = leb-true (element_levels k) left (and_right (has_whole_parts limits k && is_placed k) (nat_le (element_levels k) left) whole);
    }

is_child : (k : Element) → IsWhole 30 k → is_whole_child limits k ≡ true
is_child k whole =
    and_from (has_whole_parts limits k && is_placed k) (nat_le (element_levels k) 30)
    (and_from (has_whole_parts limits k) (is_placed k) whole.parts whole.placed) (le-leb (element_levels k) 30 whole.low)

-- at a level, with what is left there
whole_at : (n left : ℕ) (e : Element) → is_whole_element (at_level n) e ≡ true → 31 ≡ n + left → IsWhole left e
whole_at n left e whole is =
    let same : 31 - n ≡ left = omega (arith, is) in
    subst (λ k. IsWhole k e) same (whole_child (31 - n) e (and_right (is_member (role_of e)) (is_whole_child (at_level n) e) whole))

-- ---- the elements of a submodel stand as those of a collection

abbrev pub IsWholeElement : Element → Type 0
IsWholeElement = IsWholeUnder 30 p.SubmodelElementCollection

abbrev AreElements : List Element → Type 0
AreElements ks = AreWhole 30 p.SubmodelElementCollection ks

pub each_element : (ks : List Element) → list_all (is_whole_element limits) ks ≡ true → Each IsWholeElement ks
each_element [] whole = tt
each_element (k ∷ ks) whole =
    let first = and_left (is_whole_element limits k) (list_all (is_whole_element limits) ks) whole in
    let member = and_left (is_member (role_of k)) (is_whole_child limits k) first in (
      record { admitted = ap is_member (seen_role k) ∙ member; whole = whole_child 30 k (and_right (is_member (role_of k)) (is_whole_child limits k) first) },
      each_element ks (and_right (is_whole_element limits k) (list_all (is_whole_element limits) ks) whole),
    )

all_elements : (ks : List Element) → Each IsWholeElement ks → list_all (is_whole_element limits) ks ≡ true
all_elements [] each = refl
all_elements (k ∷ ks) each =
    let member = ap is_member (sym (seen_role k)) ∙ each.0.admitted in
    and_from (is_whole_element limits k) (list_all (is_whole_element limits) ks)
    (and_from (is_member (role_of k)) (is_whole_child limits k) member (is_child k each.0.whole)) (all_elements ks each.1)

-- a submodel stays whole where its elements do
with_elements : (d : Submodel) (ks : List Element) → is_whole_submodel limits d ≡ true → (AreElements d.kids → AreElements ks)
    → is_whole_submodel limits (record d { kids = ks }) ≡ true
with_elements d ks whole stay =
    let own : Bool = whole_head limits d.head && whole_semantics limits d.semantics && list_all (whole_qualifier limits) d.qualifiers in
    let each = each_element d.kids (and_right own (list_all (is_whole_element limits) d.kids) whole) in
    and_from own (list_all (is_whole_element limits) ks) (and_left own (list_all (is_whole_element limits) d.kids) whole)
    (all_elements ks (stay (in_any_order 30 p.SubmodelElementCollection role.Member refl d.kids each)).each)

-- ---- removing

pub remove_keeps_whole : RemoveKeepsWhole
remove_keeps_whole d [] whole = whole
remove_keeps_whole d (s ∷ q) whole = with_elements d _ whole (removed_whole q 30 p.SubmodelElementCollection false s d.kids)

-- ---- replacing

-- an element in the role of another, which it fits, may stand for it
fit_like : (o e : Element) → fits_role e (role_of o) ≡ true → IsLike o (with_role e (role_of o))
fit_like o e fits =
    let y = out-Element e in
    like_by o (with_role e (role_of o)) (role_made (role_of o) y.common y.payload y.kids)
    (λ annotation is_data. data_made (role_of o) y.common y.payload y.kids ∙ ap (fits_role e) (sym (only_annotation (role_of o) annotation)) ∙ fits)

replacing : (q : List PathStep) (o e : Element) → is_whole_element (at_level (suc (length q))) e ≡ true → fits_role e (role_of o) ≡ true
    → MayStandFor 30 q o (with_role e (role_of o))
replacing q o e here fits = record {
  like = fit_like o e fits;
  whole = λ rest is old. role_whole rest e (role_of o) (whole_at (suc (length q)) rest e here (omega (arith, is)));
}

pub replace_keeps_whole : ReplaceKeepsWhole
replace_keeps_whole d [] e o whole here there fits = absurd (cc)
replace_keeps_whole d (s ∷ q) e o whole here there fits =
    let w = with_role e (role_of o) in
    ap (λ x. is_whole_submodel limits (option_map_or (λ k. with_element d (s ∷ q) (with_role e (role_of k))) x d)) there
    ∙ with_elements d _ whole (λ are. among_whole 30 p.SubmodelElementCollection false s q d.kids o w are there (replacing q o e here fits))

-- ---- inserting

-- a container takes an element that fits the role of its children
record Takes (x : Payload) (e : Element) (r : Role) : Type 0 where
  within : role_within x ≡ Some r
  fits : fits_role e r ≡ true

takes : (x : Payload) (e : Element) (r : Role) (o : Option Role) → role_within x ≡ o → option_and_then (if_fits e) o ≡ Some r → Takes x e r
takes x e r None is under = absurd (cc)
takes x e r (Some q) is under = by_test (fits_role e q) refl under
  where
    by_test : (b : Bool) → fits_role e q ≡ b → (if b then Some q else None) ≡ Some r → Takes x e r
    by_test true fits under = let same : q ≡ r = cc in record { within = is ∙ under; fits = ap (fits_role e) (sym same) ∙ fits }
    by_test false fits under = absurd (cc)

admits_new : (x : Payload) (e : Element) (r : Role) (c : Placed) → Takes x e r → c.role ≡ r → c.is_data ≡ is_data_element (kind_of (payload_of e))
    → admits x c ≡ true
admits_new x e r c takes in_role kind = by_kind x takes.within
  where
    by_kind : (x : Payload) → role_within x ≡ Some r → admits x c ≡ true
    by_kind p.SubmodelElementCollection is = let same : r ≡ role.Member = cc in ap is_member (in_role ∙ same)
    by_kind (p.SubmodelElementList o s t v) is = let same : r ≡ role.Member = cc in ap is_member (in_role ∙ same)
    by_kind (p.Entity t g ids) is = let same : r ≡ role.Statement = cc in ap is_statement (in_role ∙ same)
    by_kind (p.AnnotatedRelationshipElement a b) is =
        let same : r ≡ role.Annotation = cc in
        and_from (is_annotation c.role) c.is_data (ap is_annotation (in_role ∙ same)) (kind ∙ ap (fits_role e) (sym same) ∙ takes.fits)
    by_kind y is = absurd (cc)

new_child : (left : ℕ) (x : Payload) (e : Element) (r : Role) → Takes x e r → IsWhole left e → IsWholeUnder left x (with_role e r)
new_child left x e r takes whole =
    let y = out-Element e in
    let in_role = seen_role (with_role e r) ∙ role_made r y.common y.payload y.kids in
    record { admitted = admits_new x e r (seen (with_role e r)) takes in_role (data_made r y.common y.payload y.kids); whole = role_whole left e r whole }

inserting : (q : List PathStep) (o e : Element) (r : Role) → is_whole_element (at_level (suc (length q) + 1)) e ≡ true → Takes (payload_of o) e r
    → MayStandFor 30 q o (with_kids o (kids_of o ++ with_role e r ∷ []))
inserting q o e r here takes = record {
  like = kids_like o (kids_of o ++ with_role e r ∷ []);
  whole = λ rest is old. kids_whole rest o (kids_of o ++ with_role e r ∷ []) old
      (λ n spent are. one_more n (payload_of o) r (kids_of o) (with_role e r) takes.within are
      (new_child n (payload_of o) e r takes (whole_at (suc (length q) + 1) n e here (omega (arith, is, spent)))));
}

-- below an element, in the role that it gives, if it gives one
under_whole : (d : Submodel) (s : PathStep) (q : List PathStep) (e o : Element) (r : Option Role) → is_whole_submodel limits d ≡ true
    → is_whole_element (at_level (suc (length q) + 1)) e ≡ true → element_at d (s ∷ q) ≡ Some o → role_under o e ≡ r
    → is_whole_submodel limits (option_map_or (with_last_at d (s ∷ q) e (Some o)) r d) ≡ true
under_whole d s q e o None whole here there under = whole
under_whole d s q e o (Some r) whole here there under =
    let taken = takes (payload_of o) e r (role_within (payload_of o)) refl under in
    with_elements d _ whole (λ are. among_whole 30 p.SubmodelElementCollection false s q d.kids o _ are there (inserting q o e r here taken))

found_whole : (d : Submodel) (s : PathStep) (q : List PathStep) (e : Element) (found : Option Element) → is_whole_submodel limits d ≡ true
    → is_whole_element (at_level (suc (length q) + 1)) e ≡ true → element_at d (s ∷ q) ≡ found
    → is_whole_submodel limits (option_map_or (with_last_at d (s ∷ q) e found) (role_under_found found e) d) ≡ true
found_whole d s q e None whole here there = whole
found_whole d s q e (Some o) whole here there = under_whole d s q e o (role_under o e) whole here there refl

pub insert_keeps_whole : InsertKeepsWhole
insert_keeps_whole d [] e whole here =
    let new = new_child 30 p.SubmodelElementCollection e role.Member (record { within = refl; fits = refl }) (whole_at 1 30 e here refl) in
    with_elements d _ whole (λ are. one_more 30 p.SubmodelElementCollection role.Member d.kids (with_role e role.Member) refl are new)
insert_keeps_whole d (s ∷ q) e whole here = found_whole d s q e (element_at d (s ∷ q)) whole here refl
