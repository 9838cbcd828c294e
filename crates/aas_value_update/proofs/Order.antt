-- Elements of a valid submodel are in order: siblings differ, and children stand where they may.
use Rattle.std.proofs.Common.{◌≡◌, ℕ, zero, suc, Bool, true, false, ◌&&◌, List, [], ◌∷◌, Option, Some, None}
use Rattle.std.proofs.Common.{option_and_then, slice_get, refl, sym, ap, ◌∙◌, subst, true≢false}
use Rattle.std.specs.Prelude.{nat_le}
use Rattle.std.specs.List.{list_all}
use Rattle.std.proofs.lemmas.Bool.{and_parts, and_from}
use Rattle.aas_json_table.specs.TooDeep.{limits}
use Rattle.aas_json_spelling.specs.Lists.{Each}
use Rattle.aas_json_mapping.specs.Whole.{is_member, rank, in_order, has_whole_parts, is_placed, element_levels}
use Rattle.aas_json_mapping.specs.Whole.{is_whole_child, is_whole_element, whole_head, whole_semantics, whole_qualifier}
use Rattle.aas_json_mapping.proofs.Elements.{made_out, seen_role, role_of, Stands, standing, placed_made, ranks}
use Rattle.aas_model.specs.declared.documents.Submodel.{Submodel}
use Rattle.aas_model.specs.declared.element.Element.{Element, out-Element}
use Rattle.aas_model.specs.declared.element.Role.{Role}
use Rattle.aas_model.specs.declared.element.Role.TheVariants as role
use Rattle.aas_model.specs.declared.path.PathStep.{PathStep}
use Rattle.aas_model.specs.declared.payload.Payload.{Payload}
use Rattle.aas_model.specs.declared.payload.Payload.TheVariants as payload
use Rattle.aas_constraint_rules.specs.Faults.{submodel}
use Rattle.aas_path_trees.specs.Children.{kids_of, is_list}
use Rattle.aas_path_trees.specs.ElementAt.{child_by, element_below, element_at}
use Rattle.aas_path_trees.specs.Places.{element_in, Differ, SiblingsDiffer}
use Rattle.aas_path_trees.proofs.Paths.{child_by-there}
use Rattle.aas_constraint_laws.specs.Valid.{IsValid}
use Rattle.aas_constraint_laws.proofs.Siblings.{siblings_differ}
use Rattle.aas_value_update.specs.Laws.{NamesDiffer, IsInOrder}
use Rattle.aas_value_update.specs.Update.{body}
use Rattle.aas_model.specs.Common.{no_attributes}
use Rattle.aas_value_update.proofs.Alone.{kids_made}

pub names_below : (e : Element) → NamesDiffer e → (i : ℕ) (k : Element)
    → slice_get (kids_of e) i ≡ Some k → NamesDiffer k
unfolding element_in
names_below e names i k there q m found = names (i ∷ q) m (ap (option_and_then (element_in q)) there ∙ found)

stands_at : (x : Payload) (ks : List Element) → Each (Stands x) ks → (i : ℕ) (k : Element)
    → slice_get ks i ≡ Some k → is_placed k ≡ true
stands_at x [] each i k there = absurd (cc)
stands_at x (m ∷ ks) each zero k there = let same : m ≡ k = cc in subst (λ z. is_placed z ≡ true) same each.0.placed
stands_at x (m ∷ ks) each (suc i) k there = stands_at x ks each.1 i k there

pub placed_below : (e : Element) → is_placed e ≡ true → (i : ℕ) (k : Element)
    → slice_get (kids_of e) i ≡ Some k → is_placed k ≡ true
placed_below e placed i k there =
    let x = out-Element e in
    stands_at x.payload x.kids
    (standing x.role x.common x.payload x.kids (ap is_placed (made_out e) ∙ placed)).each i k there

pub order_below : (e : Element) → IsInOrder e → (i : ℕ) (k : Element) → slice_get (kids_of e) i ≡ Some k → IsInOrder k
order_below e order i k there =
    record { names = names_below e order.names i k there; placed = placed_below e order.placed i k there }

-- along a path
order_from : (p : List PathStep) (ks : List Element) (k : Element)
    → ((i : ℕ) (m : Element) → slice_get ks i ≡ Some m → IsInOrder m)
    → ((m : Element) → IsInOrder m → element_below p m ≡ Some k → IsInOrder k)
    → (o : Option (ℕ × Element)) → ((c : ℕ × Element) → o ≡ Some c → slice_get ks c.0 ≡ Some c.1)
    → option_and_then (λ (c : ℕ × Element). element_below p c.1) o ≡ Some k → IsInOrder k
order_from p ks k each more None at there = absurd (cc)
order_from p ks k each more (Some c) at there = more c.1 (each c.0 c.1 (at c refl)) there

order_along : (p : List PathStep) (e k : Element) → IsInOrder e → element_below p e ≡ Some k → IsInOrder k
unfolding element_below
order_along [] e k order there = let same : e ≡ k = cc in subst IsInOrder same order
order_along (s ∷ p) e k order there =
    order_from p (kids_of e) k (order_below e order) (λ m. order_along p m k) (child_by (is_list e) s (kids_of e))
    (λ c is. (child_by-there (is_list e) s (kids_of e) c is).1) there

-- ---- the submodel

no_member_rank : (r : Role) → is_member r ≡ true → rank r ≡ 0
no_member_rank role.Member e = refl
no_member_rank role.Input e = refl
no_member_rank role.Output e = absurd (true≢false (sym e))
no_member_rank role.Inoutput e = absurd (true≢false (sym e))
no_member_rank role.Annotation e = refl
no_member_rank role.Statement e = refl

abbrev Member : Element → Type 0
Member k = (is_member (role_of k) ≡ true) × (is_placed k ≡ true)

each_member : (ks : List Element) → list_all (is_whole_element limits) ks ≡ true → Each Member ks
each_member [] e = tt
each_member (k ∷ ks) e =
    let both = and_parts (is_whole_element limits k) (list_all (is_whole_element limits) ks) e in
    let own = and_parts (is_member (role_of k)) (is_whole_child limits k) both.0 in
    let child = and_parts (has_whole_parts limits k && is_placed k) (nat_le (element_levels k) limits.elements) own.1 in
    ((own.0, (and_parts (has_whole_parts limits k) (is_placed k) child.0).1), each_member ks both.1)

each_stands : (ks : List Element) → Each Member ks → Each (Stands payload.SubmodelElementCollection) ks
each_stands [] each = tt
each_stands (k ∷ ks) each =
    (record { admitted = ap is_member (seen_role k) ∙ each.0.0; placed = each.0.1 }, each_stands ks each.1)

all_zero : (ks : List Element) → Each Member ks → list_all (nat_le 0) (ranks ks) ≡ true
all_zero [] each = refl
all_zero (k ∷ ks) each =
    ap (λ n. nat_le 0 n && list_all (nat_le 0) (ranks ks)) (no_member_rank (role_of k) each.0.0) ∙ all_zero ks each.1

in_order_zero : (ks : List Element) → Each Member ks → in_order (ranks ks) ≡ true
in_order_zero [] each = refl
in_order_zero (k ∷ ks) each =
    ap (λ n. list_all (nat_le n) (ranks ks) && in_order (ranks ks)) (no_member_rank (role_of k) each.0.0)
    ∙ and_from (list_all (nat_le 0) (ranks ks)) (in_order (ranks ks)) (all_zero ks each.1) (in_order_zero ks each.1)

pub body_kids : (d : Submodel) → kids_of (body d) ≡ d.kids
body_kids d = kids_made role.Member no_attributes payload.SubmodelElementCollection d.kids

pub body_order : (d : Submodel) → IsValid (submodel d) → IsInOrder (body d)
unfolding element_in
body_order d valid =
    let siblings = siblings_differ d valid.faultless in
    let own : Bool =
    whole_head limits d.head && whole_semantics limits d.semantics && list_all (whole_qualifier limits) d.qualifiers in
    let each = each_member d.kids (and_parts own (list_all (is_whole_element limits) d.kids) valid.whole).1 in
    record {
      names = names siblings;
      placed = placed_made role.Member no_attributes payload.SubmodelElementCollection d.kids (record {
        each = each_stands d.kids each;
        order = in_order_zero d.kids each;
      });
    }
  where
    names : SiblingsDiffer d → NamesDiffer (body d)
    names s [] k found shows none =
        let same : body d ≡ k = cc in
        subst (λ z. Differ (kids_of z)) same (subst Differ (sym (body_kids d)) s.first)
    names s (i ∷ q) k found shows none =
        s.below (i ∷ q) k (ap (λ l. option_and_then (element_in q) (slice_get l i)) (sym (body_kids d)) ∙ found) none

-- each element to which a path leads in a valid submodel is in order
pub order_at : (d : Submodel) (p : List PathStep) (e : Element)
    → IsValid (submodel d) → element_at d p ≡ Some e → IsInOrder e
order_at d [] e valid there = absurd (cc)
order_at d (s ∷ p) e valid there =
    order_from p d.kids e
    (λ i k at. order_below (body d) (body_order d valid) i k (ap (λ l. slice_get l i) (body_kids d) ∙ at))
    (λ m. order_along p m e)
    (child_by false s d.kids) (λ c is. (child_by-there false s d.kids c is).1) there
