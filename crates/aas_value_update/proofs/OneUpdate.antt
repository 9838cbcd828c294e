-- An element has at most one update by a value.
use Rattle.std.proofs.Common.{◌≡◌, ℕ, zero, suc, Bool, true, false, List, [], ◌∷◌, map, Option, Some, None, IsSome}
use Rattle.std.proofs.Common.{option_and_then, slice_get, refl, sym, ap, ◌∙◌, subst}
use Rattle.std.specs.Prelude.{if◌then◌else◌}
use Rattle.aas_model.specs.declared.common.Common.{Common}
use Rattle.serde_json.specs.Data.{Data}
use Rattle.aas_model.specs.declared.documents.Submodel.{Submodel}
use Rattle.aas_model.specs.declared.element.Element.{Element, out-Element}
use Rattle.aas_model.specs.declared.element.Role.TheVariants as role
use Rattle.aas_model.specs.declared.path.PathStep.{PathStep}
use Rattle.aas_model.specs.declared.payload.Payload.{Payload}
use Rattle.aas_model.specs.declared.payload.Payload.TheVariants as payload
use Rattle.aas_constraint_rules.specs.Faults.{submodel}
use Rattle.aas_constraint_laws.specs.Valid.{IsValid}
use Rattle.aas_path_trees.specs.ElementAt.{element_at}
use Rattle.aas_path_trees.specs.WithElement.{with_element}
use Rattle.aas_path_trees.specs.Children.{kids_of, id_short_of, is_list, is_list_payload}
use Rattle.aas_path_trees.specs.Places.{element_in, Differ}
use Rattle.aas_constraint_laws.specs.Values.{without_values}
use Rattle.aas_value.specs.ValueForm.{shows_children}
use Rattle.aas_value_update.specs.LeftAlone.{left_alone}
use Rattle.aas_value_update.specs.Update.{IsElementUpdate, IsUpdateAt, body}
use Rattle.aas_model.specs.Common.{no_attributes}
use Rattle.aas_value_update.specs.Laws.{NamesDiffer, OneElementUpdate, OneValueUpdate}
use Rattle.aas_value_update.proofs.Alone.{level, kids_made}
use Rattle.aas_value_update.proofs.OneForm.{one_alone}
use Rattle.aas_value_update.proofs.Order.{body_order, order_at}
use Rattle.aas_value_update.proofs.Rest.{left_alone_is}

-- what stands in the same place, with the same rest
record Twin (ks : List Element) (i : ℕ) (u : Element) : Type 0 where
  twin : Element
  there : slice_get ks i ≡ Some twin
  same : left_alone u ≡ left_alone twin

twin_mapped : (us ks : List Element) (i : ℕ) (u : Element)
    → map left_alone us ≡ map left_alone ks → slice_get us i ≡ Some u → Twin ks i u
twin_mapped [] ks i u h e = absurd (cc)
twin_mapped (x ∷ us) [] i u h e = absurd (cc)
twin_mapped (x ∷ us) (k ∷ ks) zero u h e =
    let head : left_alone x ≡ left_alone k = cc in
    let is : x ≡ u = cc in
    record { twin = k; there = refl; same = ap left_alone (sym is) ∙ head }
twin_mapped (x ∷ us) (k ∷ ks) (suc i) u h e =
    let tail : map left_alone us ≡ map left_alone ks = cc in
    let more = twin_mapped us ks i u tail e in
    record { twin = more.twin; there = more.there; same = more.same }

twin_of : (b : Bool) (us ks : List Element) (i : ℕ) (u : Element)
    → (if b then map left_alone us else us) ≡ (if b then map left_alone ks else ks)
    → slice_get us i ≡ Some u → Twin ks i u
twin_of true us ks i u h e = twin_mapped us ks i u h e
twin_of false us ks i u h e = record { twin = u; there = sym (ap (λ l. slice_get l i) h) ∙ e; same = refl }

twins : (u e : Element) → left_alone u ≡ left_alone e → (i : ℕ) (c : Element)
    → slice_get (kids_of u) i ≡ Some c → Twin (kids_of e) i c
twins u e h i c there =
    let l = level u e h in
    twin_of (shows_children (out-Element e).payload) (kids_of u) (kids_of e) i c
    (ap (λ b. if b then map left_alone (kids_of u) else kids_of u) (sym l.shows) ∙ l.same.kids) there

record Below (e : Element) (q : List ℕ) (k : Element) : Type 0 where
  twin : Element
  there : element_in q e ≡ Some twin
  same : left_alone k ≡ left_alone twin

below : (q : List ℕ) (u e k : Element) → left_alone u ≡ left_alone e → element_in q u ≡ Some k → Below e q k
unfolding element_in
below [] u e k h there = let is : u ≡ k = cc in record { twin = e; there = refl; same = ap left_alone (sym is) ∙ h }
below (i ∷ q) u e k h there = by_child (slice_get (kids_of u) i) refl there (λ c d s f. below q c d k s f)
  where
    by_child : (o : Option Element) → slice_get (kids_of u) i ≡ o → option_and_then (element_in q) o ≡ Some k
        → ((c d : Element) → left_alone c ≡ left_alone d → element_in q c ≡ Some k → Below d q k) → Below e (i ∷ q) k
    by_child None at f more = absurd (cc)
    by_child (Some c) at f more =
        let t = twins u e h i c at in
        let b = more c t.twin t.same f in
        record { twin = b.twin; there = ap (option_and_then (element_in q)) t.there ∙ b.there; same = b.same }

list_bare : (x : Payload) → is_list_payload (without_values x) ≡ is_list_payload x
list_bare payload.Capability = refl
list_bare _ = refl

list_same : (u e : Element) → left_alone u ≡ left_alone e → is_list u ≡ is_list e
list_same u e h =
    let l = level u e h in
    sym (list_bare (out-Element u).payload) ∙ ap is_list_payload l.same.payloads ∙ list_bare (out-Element e).payload

name_same : (u e : Element) → left_alone u ≡ left_alone e → id_short_of u ≡ id_short_of e
name_same u e h = ap (λ (c : Common). c.id_short) (level u e h).same.commons

differ_alike : (u e : Element) → left_alone u ≡ left_alone e → Differ (kids_of e) → Differ (kids_of u)
differ_alike u e h d = record {
  named = λ i k at.
      let t = twins u e h i k at in
      subst IsSome (sym (name_same k t.twin t.same)) (d.named i t.twin t.there);
  apart = λ i j k m at bt same.
      let t = twins u e h i k at in
      let s = twins u e h j m bt in
      d.apart i j t.twin s.twin t.there s.there (sym (name_same k t.twin t.same) ∙ same ∙ name_same m s.twin s.same);
}

pub names_alike : (u e : Element) → left_alone u ≡ left_alone e → NamesDiffer e → NamesDiffer u
names_alike u e h names q k found shows none =
    let b = below q u e k h found in
    differ_alike k b.twin b.same
    (names q b.twin b.there (sym (level k b.twin b.same).shows ∙ shows) (sym (list_same k b.twin b.same) ∙ none))

pub one_element_update : OneElementUpdate
one_element_update e u w v order a b =
    let first = left_alone_is e u order.placed a.metadata a.operations in
    let second = left_alone_is e w order.placed b.metadata b.operations in
    one_alone w u (names_alike w e second order.names) (first ∙ sym second) (a.form ∙ sym b.form)

-- ---- in a submodel

same_found : (d : Submodel) (p : List PathStep) (e k : Element)
    → element_at d p ≡ Some e → element_at d p ≡ Some k → e ≡ k
same_found d p e k a b = let both : Some e ≡ Some k = sym a ∙ b in cc

one_at : (d u w : Submodel) (p : List PathStep) (v : Data)
    → IsValid (submodel d) → IsUpdateAt d p v u → IsUpdateAt d p v w → u ≡ w
one_at d u w p v valid a b =
    let olds = same_found d p a.old b.old a.found b.found in
    let update = subst (λ e. IsElementUpdate e v b.new) (sym olds) b.update in
    let news = one_element_update a.old a.new b.new v (order_at d p a.old valid a.found) a.update update in
    a.outside ∙ ap (with_element d p) news ∙ sym b.outside

body_kids : (u w : Submodel) → body u ≡ body w → u.kids ≡ w.kids
body_kids u w e =
    sym (kids_made role.Member no_attributes payload.SubmodelElementCollection u.kids) ∙ ap kids_of e
    ∙ kids_made role.Member no_attributes payload.SubmodelElementCollection w.kids

pub one_value_update : OneValueUpdate
one_value_update d u w [] v valid a b =
    let bodies = one_element_update (body d) (body u) (body w) v (body_order d valid) a.update b.update in
    a.outside ∙ ap (λ (ks : List Element). record d { kids = ks }) (body_kids u w bodies) ∙ sym b.outside
one_value_update d u w (s ∷ p) v valid a b = one_at d u w (s ∷ p) v valid a b
