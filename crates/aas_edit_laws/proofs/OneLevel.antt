-- One level of a whole tree: an element stays whole where its children do.
use Rattle.std.proofs.Common.{◌≡◌, ℕ, zero, suc, ◌≤◌, ◌&&◌, Bool, true, List, map, refl, sym, ap, ◌∙◌, subst, arith}
use Rattle.std.specs.List.{list_all}
use Rattle.std.proofs.lemmas.Bool.{and_from}
use Rattle.aas_lemmas.proofs.Truth.{and_left, and_right}
use Rattle.aas_json_table.specs.TooDeep.{limits}
use Rattle.aas_json_spelling.specs.Lists.{Each, most}
use Rattle.aas_json_spelling.proofs.Lists.{each_both, each_from_most, most_from_each}
use Rattle.aas_json_mapping.specs.Whole.{Placed, whole_common, whole_payload, has_whole_parts, element_levels, admits}
use Rattle.aas_json_mapping.specs.Whole.{is_annotation, is_statement, is_variable, is_member}
use Rattle.aas_json_mapping.proofs.Elements.{made, made_out, parts_at, levels_at, seen, seen_at, seen_role, seen_data, mapped_each, each_mapped}
use Rattle.aas_json_mapping.proofs.Elements.{Stands, AreStanding, standing, placed_made}
use Rattle.aas_json_mapping.proofs.ElementsSame.{role_made}
use Rattle.aas_model.specs.Payload.{kind_of}
use Rattle.aas_model_names.specs.KindNames.{is_data_element}
use Rattle.aas_model.specs.declared.common.Common.{Common}
use Rattle.aas_model.specs.declared.element.Element.{Element, out-Element}
use Rattle.aas_model.specs.declared.element.Role.{Role}
use Rattle.aas_model.specs.declared.payload.Payload.{Payload}
use Rattle.aas_model.specs.declared.payload.Payload.TheVariants as p
use Rattle.aas_path_trees.specs.Children.{kids_of, role_of, with_kids, with_role}
use Rattle.aas_edit_laws.proofs.Siblings.{IsWhole, IsWholeUnder, AreWhole, IsLike, each_map}

abbrev pub payload_of : Element → Payload
payload_of e = (out-Element e).payload

abbrev HasParts : Element → Type 0
HasParts k = has_whole_parts limits k ≡ true

-- an element's own attributes are whole
abbrev pub own : Common → Payload → Bool
own c x = whole_common limits c && whole_payload limits x

-- ---- from an element to its children

-- what a whole element has: whole attributes, and whole children with a level less
pub record Within (left : ℕ) (c : Common) (x : Payload) (ks : List Element) : Type 0 where
  pub rest : ℕ
  pub spent : left ≡ suc rest
  pub attributes : own c x ≡ true
  pub children : AreWhole rest x ks

within : (left : ℕ) (c : Common) (x : Payload) (ks : List Element) → own c x ≡ true → AreStanding x ks → Each HasParts ks
    → suc (most (map element_levels ks)) ≤ left → Within left c x ks
within zero c x ks attributes stand parts low = absurd (omega (arith, low))
within (suc n) c x ks attributes stand parts low =
    let IsLow : Element → Type 0 = λ k. element_levels k ≤ n in
    let whole = each_both HasParts IsLow (λ k. HasParts k × IsLow k) (λ k a b. (a, b)) ks parts (each_from_most element_levels n ks (omega (arith, low))) in
    record {
      rest = n;
      spent = refl;
      attributes = attributes;
      children = record {
        each = each_both (Stands x) (λ k. HasParts k × IsLow k) (IsWholeUnder n x)
            (λ k a b. record { admitted = a.admitted; whole = record { parts = b.0; placed = a.placed; low = b.1 } }) ks stand.each whole;
        order = stand.order;
      };
    }

pub down : (left : ℕ) (r : Role) (c : Common) (x : Payload) (ks : List Element) → IsWhole left (made r c x ks) → Within left c x ks
down left r c x ks whole =
    let inner : Bool = list_all (λ b. b) (map (has_whole_parts limits) ks) in
    let parts : own c x && inner ≡ true = sym (parts_at limits r c x ks) ∙ whole.parts in
    within left c x ks (and_left (own c x) inner parts) (standing r c x ks whole.placed)
    (each_mapped (λ b. b) (has_whole_parts limits) ks (and_right (own c x) inner parts))
    (subst (λ (n : ℕ). n ≤ left) (levels_at r c x ks) whole.low)

-- ---- and back

pub up : (left : ℕ) (r : Role) (c : Common) (x : Payload) (ks : List Element) → own c x ≡ true → AreWhole left x ks → IsWhole (suc left) (made r c x ks)
up left r c x ks attributes are =
    let Under = IsWholeUnder left x in
    let inner : Bool = list_all (λ b. b) (map (has_whole_parts limits) ks) in
    let parts = mapped_each (λ b. b) (has_whole_parts limits) ks (each_map Under HasParts (λ k h. h.whole.parts) ks are.each) in
    let stand = each_map Under (Stands x) (λ k h. record { admitted = h.admitted; placed = h.whole.placed }) ks are.each in
    let low = most_from_each element_levels left ks (each_map Under (λ k. element_levels k ≤ left) (λ k h. h.whole.low) ks are.each) in
    record {
      parts = parts_at limits r c x ks ∙ and_from (own c x) inner attributes parts;
      placed = placed_made r c x ks (record { each = stand; order = are.order });
      low = subst (λ (n : ℕ). n ≤ suc left) (sym (levels_at r c x ks)) (omega (arith, low));
    }

-- ---- an element that may stand where another stands

-- whether an element may stand in a place, its role says, and of an annotation the kind
admits_by : (x : Payload) (a b : Placed) → a.role ≡ b.role → (is_annotation a.role ≡ true → a.is_data ≡ true → b.is_data ≡ true)
    → admits x a ≡ true → admits x b ≡ true
admits_by (p.AnnotatedRelationshipElement f s) a b roles kinds admitted =
    let annotation = and_left (is_annotation a.role) a.is_data admitted in
    let is_data = kinds annotation (and_right (is_annotation a.role) a.is_data admitted) in
    and_from (is_annotation b.role) b.is_data (ap is_annotation (sym roles) ∙ annotation) is_data
admits_by (p.Entity t g ids) a b roles kinds admitted = ap is_statement (sym roles) ∙ admitted
admits_by p.Operation a b roles kinds admitted = ap is_variable (sym roles) ∙ admitted
admits_by p.SubmodelElementCollection a b roles kinds admitted = ap is_member (sym roles) ∙ admitted
admits_by (p.SubmodelElementList o s t v) a b roles kinds admitted = ap is_member (sym roles) ∙ admitted
admits_by x a b roles kinds admitted = admitted

pub like_by : (k w : Element) → role_of w ≡ role_of k → (is_annotation (role_of k) ≡ true → (seen k).is_data ≡ true → (seen w).is_data ≡ true)
    → IsLike k w
like_by k w roles kinds = record {
  role = roles;
  admitted = λ x admitted. admits_by x (seen k) (seen w) (seen_role k ∙ sym roles ∙ sym (seen_role w))
      (λ annotation is_data. kinds (ap is_annotation (sym (seen_role k)) ∙ annotation) is_data) admitted;
}

-- what a parent sees of an element that is made of its parts
pub data_made : (r : Role) (c : Common) (x : Payload) (ks : List Element) → (seen (made r c x ks)).is_data ≡ is_data_element (kind_of x)
data_made r c x ks = ap (λ (z : Placed). z.is_data) (seen_at r c x ks)

-- ---- an element with other children

pub kids_like : (e : Element) (ks : List Element) → IsLike e (with_kids e ks)
kids_like e ks =
    let y = out-Element e in
    like_by e (with_kids e ks) (role_made y.role y.common y.payload ks) (λ role is_data. data_made y.role y.common y.payload ks ∙ sym (seen_data e) ∙ is_data)

-- with other children e is whole where they stay whole below it
pub kids_whole : (left : ℕ) (e : Element) (ks : List Element) → IsWhole left e
    → ((rest : ℕ) → left ≡ suc rest → AreWhole rest (payload_of e) (kids_of e) → AreWhole rest (payload_of e) ks) → IsWhole left (with_kids e ks)
kids_whole left e ks whole stay =
    let y = out-Element e in
    let w = down left y.role y.common y.payload y.kids (subst (IsWhole left) (sym (made_out e)) whole) in
    subst (λ n. IsWhole n (with_kids e ks)) (sym w.spent) (up w.rest y.role y.common y.payload ks w.attributes (stay w.rest w.spent w.children))

-- ---- an element with another role

pub role_whole : (left : ℕ) (e : Element) (r : Role) → IsWhole left e → IsWhole left (with_role e r)
role_whole left e r whole =
    let y = out-Element e in
    let w = down left y.role y.common y.payload y.kids (subst (IsWhole left) (sym (made_out e)) whole) in
    subst (λ n. IsWhole n (with_role e r)) (sym w.spent) (up w.rest r y.common y.payload y.kids w.attributes w.children)
