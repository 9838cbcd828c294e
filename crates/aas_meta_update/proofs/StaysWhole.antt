-- A whole element with whole metadata is whole.
use Rattle.std.proofs.Common.{◌≡◌, ℕ, ◌+◌, ◌-◌, ◌≤◌, ◌&&◌, nat_le, Bool, true, false, List, [], ◌∷◌, length, slice_get, Option, Some, None, option_and_then, refl, sym, ap, subst, arith}
use Rattle.std.specs.List.{list_all}
use Rattle.std.proofs.lemmas.Bool.{and_from, le-leb}
use Rattle.aas_lemmas.proofs.Truth.{and_left, and_right}
use Rattle.aas_json_table.specs.TooDeep.{limits}
use Rattle.aas_json_mapping.specs.Metadata.{IsWholeMetadata, whole_shown}
use Rattle.aas_json_mapping.specs.Whole.{Placed, admits, is_member, is_whole_child, is_whole_element, is_whole_submodel, has_whole_parts, is_placed, element_levels, whole_common, whole_payload, whole_head, whole_semantics, whole_qualifier}
use Rattle.aas_json_mapping.proofs.Elements.{made, made_out, seen}
use Rattle.aas_json_mapping.proofs.ElementsSame.{role_made}
use Rattle.aas_reference.specs.Whole.{whole_if_there, whole_and_there}
use Rattle.aas_model.specs.Payload.{kind_of}
use Rattle.aas_model.specs.declared.documents.Submodel.{Submodel}
use Rattle.aas_model.specs.declared.element.Element.{Element, Element-F, out-Element, roll-Element, out-roll-Element}
use Rattle.aas_model.specs.declared.element.Role.TheVariants as role
use Rattle.aas_model.specs.declared.path.PathStep.{PathStep}
use Rattle.aas_model.specs.declared.payload.Payload.{Payload}
use Rattle.aas_model.specs.declared.payload.Payload.TheVariants as p
use Rattle.aas_path_trees.specs.Children.{kids_of, is_list, with_role}
use Rattle.aas_path_trees.specs.ElementAt.{child_by, element_below, element_at}
use Rattle.aas_path_trees.proofs.Paths.{child_by-there}
use Rattle.aas_edit_laws.specs.Laws.{at_level}
use Rattle.aas_edit_laws.proofs.OneLevel.{down, up}
use Rattle.aas_edit_laws.proofs.Edits.{each_element}
use Rattle.aas_edit_laws.proofs.Siblings.{IsWhole, IsWholeUnder, AreWhole, each_at, each_map}
use Rattle.aas_meta_update.specs.WithMetadata.{AreAlike, IsAlike, with_metadata, with_shown}
use Rattle.aas_meta_update.specs.Laws.{PutStaysWhole}

abbrev Child : Type 0
Child = ℕ × Element

-- ---- attributes, kind by kind

payload_whole : (x y : Payload) → AreAlike x y → whole_payload limits x ≡ true → whole_shown limits y ≡ true → whole_payload limits (with_shown x y) ≡ true
payload_whole (p.Property t v i) (p.Property t' v' i') alike w h = h
payload_whole (p.MultiLanguageProperty v i) (p.MultiLanguageProperty v' i') alike w h = h
payload_whole (p.Range t min max) y alike w h = w
payload_whole (p.File t v) y alike w h = w
payload_whole (p.Blob t v) y alike w h = w
payload_whole (p.ReferenceElement v) y alike w h = w
payload_whole (p.RelationshipElement first second) y alike w h = w
payload_whole (p.AnnotatedRelationshipElement first second) y alike w h = w
payload_whole (p.Entity t g ids) y alike w h = w
payload_whole (p.BasicEventElement observed d s topic broker last min max) (p.BasicEventElement observed' d' s' topic' broker' last' min' max') alike w h = and_from (whole_and_there limits observed) (whole_if_there limits broker') (and_left (whole_and_there limits observed) (whole_if_there limits broker) w) h
payload_whole p.Capability y alike w h = w
payload_whole p.Operation y alike w h = w
payload_whole p.SubmodelElementCollection y alike w h = w
payload_whole (p.SubmodelElementList o s t v) (p.SubmodelElementList o' s' t' v') alike w h = h
payload_whole x y alike w h = absurd (other_kinds alike.kind)
  where
    other_kinds : kind_of x ≡ kind_of y → ⊥
    other_kinds e = cc

admits_same : (x y : Payload) → AreAlike x y → (c : Placed) → admits x c ≡ true → admits (with_shown x y) c ≡ true
admits_same (p.Property t v i) y alike c h = h
admits_same (p.MultiLanguageProperty v i) y alike c h = h
admits_same (p.Range t min max) y alike c h = h
admits_same (p.File t v) y alike c h = h
admits_same (p.Blob t v) y alike c h = h
admits_same (p.ReferenceElement v) y alike c h = h
admits_same (p.RelationshipElement first second) y alike c h = h
admits_same (p.AnnotatedRelationshipElement first second) y alike c h = h
admits_same (p.Entity t g ids) y alike c h = h
admits_same (p.BasicEventElement observed d s topic broker last min max) (p.BasicEventElement observed' d' s' topic' broker' last' min' max') alike k h = h
admits_same p.Capability y alike c h = h
admits_same p.Operation y alike c h = h
admits_same p.SubmodelElementCollection y alike c h = h
admits_same (p.SubmodelElementList o s t v) (p.SubmodelElementList o' s' t' v') alike c h = h
admits_same x y alike c h = absurd (other_kinds alike.kind)
  where
    other_kinds : kind_of x ≡ kind_of y → ⊥
    other_kinds e = cc

kids_whole : (rest : ℕ) (x y : Payload) (ks : List Element) → AreAlike x y → AreWhole rest x ks → AreWhole rest (with_shown x y) ks
kids_whole rest x y ks alike are = record {
  each = each_map (IsWholeUnder rest x) (IsWholeUnder rest (with_shown x y)) (λ k under. record { admitted = admits_same x y alike (seen k) under.admitted; whole = under.whole }) ks are.each;
  order = are.order;
}

-- ---- from a whole submodel to an element in it

-- o is whole where so many levels are left
record Whole (o : Element) (left : ℕ) (q : List PathStep) : Type 0 where
  rest : ℕ
  levels : left ≡ length q + rest
  whole : IsWhole rest o

through : (left : ℕ) (l : Bool) (s : PathStep) (q : List PathStep) (ks : List Element) (o : Element) (c : Option Child) → child_by l s ks ≡ c → option_and_then (λ (k : Child). element_below q k.1) c ≡ Some o
    → ((k : Child) → slice_get ks k.0 ≡ Some k.1 → element_below q k.1 ≡ Some o → Whole o left q) → Whole o left q
through left l s q ks o None is there each = absurd (cc)
through left l s q ks o (Some k) is there each = each k (child_by-there l s ks k is).1 there

found_whole : (q : List PathStep) (left : ℕ) (e o : Element) → IsWhole left e → element_below q e ≡ Some o → Whole o left q
unfolding element_below
found_whole [] left e o whole there = let same : e ≡ o = cc in record { rest = left; levels = omega arith; whole = subst (IsWhole left) same whole }
found_whole (s ∷ q) left e o whole there =
    let y = out-Element e in
    let w = down left y.role y.common y.payload y.kids (subst (IsWhole left) (sym (made_out e)) whole) in
    let child = through w.rest (is_list e) s q y.kids o (child_by (is_list e) s y.kids) refl there
    (λ k at below. found_whole q w.rest k.1 o (each_at (IsWholeUnder w.rest y.payload) y.kids k.0 k.1 w.children.each at).whole below) in
    record { rest = child.rest; levels = omega (arith, w.spent, child.levels); whole = child.whole }

at_whole : (d : Submodel) (s : PathStep) (q : List PathStep) (o : Element) → is_whole_submodel limits d ≡ true → element_at d (s ∷ q) ≡ Some o → Whole o 30 q
at_whole d s q o whole there =
    let before = whole_head limits d.head && whole_semantics limits d.semantics && list_all (whole_qualifier limits) d.qualifiers in
    let each = each_element d.kids (and_right before (list_all (is_whole_element limits) d.kids) whole) in
    through 30 false s q d.kids o (child_by false s d.kids) refl there
    (λ k at below. found_whole q 30 k.1 o (each_at (IsWholeUnder 30 p.SubmodelElementCollection) d.kids k.0 k.1 each at).whole below)

-- ---- the element with metadata

put_whole : (rest : ℕ) (o m : Element) → IsWhole rest o → IsAlike o m → IsWholeMetadata limits m → IsWhole rest (made role.Member (out-Element m).common (with_shown (out-Element o).payload (out-Element m).payload) (kids_of o))
put_whole rest o m whole alike form =
    let y = out-Element o in
    let z = out-Element m in
    let w = down rest y.role y.common y.payload y.kids (subst (IsWhole rest) (sym (made_out o)) whole) in
    let mine = and_right (whole_common limits y.common) (whole_payload limits y.payload) w.attributes in
    let attributes = and_from (whole_common limits z.common) (whole_payload limits (with_shown y.payload z.payload)) form.common (payload_whole y.payload z.payload alike mine form.own) in
    subst (λ n. IsWhole n (made role.Member z.common (with_shown y.payload z.payload) y.kids)) (sym w.spent)
    (up w.rest role.Member z.common (with_shown y.payload z.payload) y.kids attributes (kids_whole w.rest y.payload z.payload y.kids alike w.children))

as_member : (o m : Element) → with_role (with_metadata o m) role.Member ≡ made role.Member (out-Element m).common (with_shown (out-Element o).payload (out-Element m).payload) (kids_of o)
as_member o m =
    let y = out-Element o in
    ap (λ (f : Element-F Element). roll-Element (record f { role = role.Member })) (out-roll-Element (record y { common = (out-Element m).common; payload = with_shown y.payload (out-Element m).payload }))

whole_element : (n rest : ℕ) (r : Element) → is_member (out-Element r).role ≡ true → IsWhole rest r → 31 - n ≡ rest → is_whole_element (at_level n) r ≡ true
whole_element n rest r member whole is =
    let low : element_levels r ≤ 31 - n = subst (λ k. element_levels r ≤ k) (sym is) whole.low in
    and_from (is_member (out-Element r).role) (is_whole_child (at_level n) r) member
    (and_from (has_whole_parts (at_level n) r && is_placed r) (nat_le (element_levels r) (31 - n)) (and_from (has_whole_parts (at_level n) r) (is_placed r) whole.parts whole.placed) (le-leb (element_levels r) (31 - n) low))

pub put_stays_whole : PutStaysWhole
put_stays_whole d [] o m whole there alike form = absurd (cc)
put_stays_whole d (s ∷ q) o m whole there alike form =
    let found = at_whole d s q o whole there in
    let levels : 30 ≡ length q + found.rest = found.levels in
    let c = (out-Element m).common in
    let x = with_shown (out-Element o).payload (out-Element m).payload in
    let new = made role.Member c x (kids_of o) in
    let member : is_member (out-Element new).role ≡ true = ap is_member (role_made role.Member c x (kids_of o)) in
    subst (λ (e : Element). is_whole_element (at_level (length (s ∷ q))) e ≡ true) (sym (as_member o m))
    (whole_element (length (s ∷ q)) found.rest new member (put_whole found.rest o m found.whole alike form) (omega (arith, levels)))
