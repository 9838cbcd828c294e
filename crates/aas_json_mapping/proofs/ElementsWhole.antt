-- Elements that stand by themselves: what is whole spells what is good, what spells what is good is whole, and what
-- spells the same is the same.
use Rattle.std.proofs.Common.{◌≡◌, ◌&&◌, nat_le, true, Some, sym, ◌∙◌}
use Rattle.std.proofs.lemmas.Bool.{leb-true, le-leb, and_from}
use Rattle.aas_json_table.specs.Table.{one, element}
use Rattle.aas_json_table.specs.TooDeep.{Levels}
use Rattle.aas_model.specs.declared.element.Element.{Element}
use Rattle.aas_json_spelling.specs.Good.{Good}
use Rattle.aas_lemmas.proofs.Truth.{and_left, and_right}
use Rattle.aas_json_mapping.specs.Elements.{spell_element}
use Rattle.aas_json_mapping.specs.Shape.{IsShaped}
use Rattle.aas_json_mapping.specs.Whole.{has_whole_parts, is_member, is_placed, element_levels, is_whole_child, is_whole_element}
use Rattle.aas_json_mapping.proofs.Facts.{ShapedFacts}
use Rattle.aas_json_mapping.proofs.Elements.{role_of}
use Rattle.aas_json_mapping.proofs.ElementsGood.{element_good}
use Rattle.aas_json_mapping.proofs.ElementsBack.{element_back}
use Rattle.aas_json_mapping.proofs.ElementsSame.{only_member, same_element}

-- the parts of the wholeness of an element that stands by itself
pub record WholeElement (l : Levels) (e : Element) : Type 0 where
  pub shape : IsShaped e
  pub parts : has_whole_parts l e ≡ true
  pub levels : nat_le (element_levels e) l.elements ≡ true

pub whole_parts : (l : Levels) (e : Element) → is_whole_element l e ≡ true → WholeElement l e
whole_parts l e w =
    let member = is_member (role_of e) in
    let parts = has_whole_parts l e in
    let low = nat_le (element_levels e) l.elements in
    let child = and_right member (is_whole_child l e) w in
    let first = and_left (parts && is_placed e) low child in
    record {
      shape = record { role = and_left member (is_whole_child l e) w; placed = and_right parts (is_placed e) first };
      parts = and_left parts (is_placed e) first;
      levels = and_right (parts && is_placed e) low child;
    }

whole_good : (l : Levels) (e : Element) → is_whole_element l e ≡ true → Good l (one element) (Some (spell_element e))
whole_good l e w =
    let whole = whole_parts l e w in
    element_good e l whole.parts whole.shape.placed (leb-true (element_levels e) l.elements whole.levels)

whole_back : (l : Levels) (e : Element) → IsShaped e → Good l (one element) (Some (spell_element e))
    → is_whole_element l e ≡ true
whole_back l e shape good =
    let back = element_back e l shape.placed good in
    let parts = and_from (has_whole_parts l e) (is_placed e) back.0 shape.placed in
    let low = le-leb (element_levels e) l.elements back.1 in
    and_from (is_member (role_of e)) (is_whole_child l e) shape.role
    (and_from (has_whole_parts l e && is_placed e) (nat_le (element_levels e) l.elements) parts low)

same_shaped : (e f : Element) → IsShaped e → IsShaped f → spell_element e ≡ spell_element f → e ≡ f
same_shaped e f s t same =
    let roles = only_member (role_of e) s.role ∙ sym (only_member (role_of f) t.role) in
    same_element e f s.placed t.placed roles same

pub element_facts : ShapedFacts element spell_element is_whole_element IsShaped
element_facts = record { good = whole_good; back = whole_back; same = same_shaped }
