-- A valid submodel stays whole in an update.
use Rattle.std.proofs.Common.{◌≡◌, ◌&&◌, Bool, true, false, Some, List, [], ◌∷◌, map, refl, sym, ap, ◌∙◌}
use Rattle.std.specs.Prelude.{nat_le}
use Rattle.std.specs.List.{list_all}
use Rattle.std.proofs.lemmas.Bool.{and_parts, and_from}
use Rattle.serde_json.specs.Data.{Data}
use Rattle.aas_json_table.specs.TooDeep.{limits}
use Rattle.aas_json_spelling.specs.Values.{IsOrdered}
use Rattle.aas_json_mapping.specs.Whole.{has_whole_parts, is_placed, element_levels, is_member, is_whole_child}
use Rattle.aas_json_mapping.specs.Whole.{is_whole_element, whole_head, whole_semantics}
use Rattle.aas_json_mapping.specs.Whole.{whole_qualifier, is_whole_submodel}
use Rattle.aas_model.specs.declared.documents.Submodel.{Submodel}
use Rattle.aas_model.specs.declared.element.Element.{Element, out-Element}
use Rattle.aas_model.specs.declared.element.Role.TheVariants as role
use Rattle.aas_model.specs.declared.path.PathStep.{PathStep}
use Rattle.aas_model.specs.declared.payload.Payload.TheVariants as payload
use Rattle.aas_constraint_rules.specs.Faults.{submodel}
use Rattle.aas_path_trees.specs.ElementAt.{child_by, element_at, element_below}
use Rattle.aas_path_trees.specs.WithElement.{with_below}
use Rattle.aas_path_trees.proofs.Paths.{child_by-there}
use Rattle.aas_constraint_laws.specs.Valid.{IsValid}
use Rattle.aas_constraint_laws.specs.Values.{bare, DifferInValues}
use Rattle.aas_constraint_laws.proofs.StaysWhole.{child_whole, parts_below, parts_below_child, stays_whole}
use Rattle.aas_value_update.specs.Laws.{UpdateStaysWhole}
use Rattle.aas_value_update.specs.Update.{IsUpdateAt, IsSubmodelUpdate, body}
use Rattle.aas_model.specs.Common.{no_attributes}
use Rattle.aas_value_update.proofs.Alone.{fields}
use Rattle.aas_value_update.proofs.Order.{body_order, order_at}
use Rattle.aas_value_update.proofs.Rest.{bare_at}
use Rattle.aas_value_update.proofs.WholeParts.{parts_stay_whole, whole_made}

-- ---- what is whole in a whole submodel

parts_of : (k : Element) → is_whole_element limits k ≡ true → has_whole_parts limits k ≡ true
parts_of k whole =
    let child = (and_parts (is_member (out-Element k).role) (is_whole_child limits k) whole).1 in
    (and_parts (has_whole_parts limits k) (is_placed k)
    (and_parts (has_whole_parts limits k && is_placed k) (nat_le (element_levels k) limits.elements) child).0).0

all_parts_of : (ks : List Element)
    → list_all (is_whole_element limits) ks ≡ true → list_all (has_whole_parts limits) ks ≡ true
all_parts_of [] whole = refl
all_parts_of (k ∷ ks) whole =
    let both = and_parts (is_whole_element limits k) (list_all (is_whole_element limits) ks) whole in
    and_from (has_whole_parts limits k) (list_all (has_whole_parts limits) ks)
    (parts_of k both.0) (all_parts_of ks both.1)

abbrev own : Submodel → Bool
own d = whole_head limits d.head && whole_semantics limits d.semantics && list_all (whole_qualifier limits) d.qualifiers

kids_of_whole : (d : Submodel) → is_whole_submodel limits d ≡ true → list_all (is_whole_element limits) d.kids ≡ true
kids_of_whole d whole = (and_parts (own d) (list_all (is_whole_element limits) d.kids) whole).1

parts_at : (d : Submodel) (p : List PathStep) (e : Element)
    → is_whole_submodel limits d ≡ true → element_at d p ≡ Some e → has_whole_parts limits e ≡ true
parts_at d [] e whole there = absurd (cc)
parts_at d (s ∷ p) e whole there =
    parts_below_child p d.kids e (λ x. parts_below p x e) (all_parts_of d.kids (kids_of_whole d whole))
    (child_by false s d.kids) (λ c is. (child_by-there false s d.kids c is).1) there

-- ---- an element's update

at_path : (d u : Submodel) (p : List PathStep) (v : Data)
    → IsValid (submodel d) → IsOrdered v → IsUpdateAt d p v u → is_whole_submodel limits u ≡ true
at_path d u p v valid order a =
    let parts = parts_stay_whole a.old a.new v (order_at d p a.old valid a.found) order a.update
    (parts_at d p a.old valid.whole a.found) in
    ap (is_whole_submodel limits) a.outside ∙ stays_whole d p a.old a.new valid.whole a.found a.update.metadata parts

-- ---- that of the submodel itself

body_parts : (d : Submodel) → has_whole_parts limits (body d) ≡ list_all (has_whole_parts limits) d.kids
body_parts d = whole_made role.Member no_attributes payload.SubmodelElementCollection d.kids

same_bare_kids : (d u : Submodel) → DifferInValues (body d) (body u) → map bare d.kids ≡ map bare u.kids
same_bare_kids d u same =
    (fields role.Member role.Member no_attributes no_attributes payload.SubmodelElementCollection
    payload.SubmodelElementCollection (map bare d.kids) (map bare u.kids)
    (sym (bare_at role.Member no_attributes payload.SubmodelElementCollection d.kids) ∙ same
    ∙ bare_at role.Member no_attributes payload.SubmodelElementCollection u.kids)).kids

kids_after : (ks us : List Element) → map bare ks ≡ map bare us → list_all (is_whole_element limits) ks ≡ true
    → list_all (has_whole_parts limits) us ≡ true
    → list_all (is_whole_element limits) us ≡ true
unfolding element_below with_below
kids_after [] [] same whole parts = refl
kids_after [] (u ∷ us) same whole parts = absurd (cc)
kids_after (k ∷ ks) [] same whole parts = absurd (cc)
kids_after (k ∷ ks) (u ∷ us) same whole parts =
    let head : bare k ≡ bare u = cc in
    let tail : map bare ks ≡ map bare us = cc in
    let old = and_parts (is_whole_element limits k) (list_all (is_whole_element limits) ks) whole in
    let new = and_parts (has_whole_parts limits u) (list_all (has_whole_parts limits) us) parts in
    and_from (is_whole_element limits u) (list_all (is_whole_element limits) us)
    (child_whole [] k k u old.0 refl head new.0 ∙ old.0) (kids_after ks us tail old.1 new.1)

of_body : (d u : Submodel) (v : Data)
    → IsValid (submodel d) → IsOrdered v → IsSubmodelUpdate d v u → is_whole_submodel limits u ≡ true
of_body d u v valid order a =
    let kids = kids_of_whole d valid.whole in
    let parts = parts_stay_whole (body d) (body u) v
    (body_order d valid) order a.update (body_parts d ∙ all_parts_of d.kids kids) in
    let whole = kids_after d.kids u.kids (same_bare_kids d u a.update.metadata) kids (sym (body_parts u) ∙ parts) in
    ap (is_whole_submodel limits) a.outside
    ∙ and_from (own d) (list_all (is_whole_element limits) u.kids)
    (and_parts (own d) (list_all (is_whole_element limits) d.kids) valid.whole).0 whole

pub update_stays_whole : UpdateStaysWhole
update_stays_whole d u [] v valid order a = of_body d u v valid order a
update_stays_whole d u (s ∷ p) v valid order a = at_path d u (s ∷ p) v valid order a
