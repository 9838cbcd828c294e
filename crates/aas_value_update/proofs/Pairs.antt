-- Forms that are put together alike: what holds of their parts in pairs holds of them, and of elements that differ in
-- values alone.
use Rattle.std.proofs.Common.{◌≡◌, ℕ, zero, suc, Bool, List, [], ◌∷◌, map, codes, Option, Some, is_some, slice_get}
use Rattle.std.proofs.Common.{refl, sym, ap, ap₂, ◌∙◌, subst}
use Rattle.serde_json.specs.Data.{Data}
use Rattle.aas_model_names.specs.declared.value_type.ValueType.{ValueType}
use Rattle.aas_json_mapping.proofs.Elements.{made, made_out, by_children}
use Rattle.aas_json_spelling.specs.Lists.{Each}
use Rattle.aas_model.specs.declared.common.Common.{Common}
use Rattle.aas_model.specs.declared.element.Element.{Element, out-Element}
use Rattle.aas_model.specs.declared.payload.Payload.{Payload}
use Rattle.aas_model.specs.declared.payload.Payload.TheVariants as p
use Rattle.aas_path_trees.specs.Children.{kids_of, id_short_of}
use Rattle.aas_path_trees.specs.Places.{element_in}
use Rattle.aas_constraint_laws.specs.Values.{without_values, bare, DifferInValues}
use Rattle.aas_value.specs.Single.{single}
use Rattle.aas_value.specs.Json.{is_single}
use Rattle.aas_value.specs.Kinds.{own, part}
use Rattle.aas_value_update.specs.Forms.{form_of, part_of}
use Rattle.aas_value.specs.ValueForm.{child_part}
use Rattle.aas_value_update.specs.Laws.{NamesDiffer}
use Rattle.aas_value.specs.Parts.{Part, Form, nothing, whole, object_of, list_of, entries_of, children, value}
use Rattle.aas_value_update.proofs.Alone.{fields, kids_made}
use Rattle.aas_value_update.proofs.Elements.{part_out}
use Rattle.aas_value_update.proofs.Named.{Apart}
use Rattle.aas_value_update.proofs.OneForm.{apart_in}
use Rattle.aas_value_update.proofs.Order.{names_below}
use Rattle.aas_value_update.proofs.Own.{ApartIn}
use Rattle.aas_value_update.proofs.Rest.{bare_at}

-- what holds of each two parts in the same places
abbrev pub Pairs : (Part → Part → Type 0) → List Part → List Part → Type 0
Pairs R [] [] = Unit {0}
Pairs R (x ∷ xs) (y ∷ ys) = R x y × Pairs R xs ys
Pairs R xs ys = ⊥

-- what holds of the parts themselves
pub first_each : (P : Part → Type 0) (xs ys : List Part) → Pairs (λ x y. P x) xs ys → Each P xs
first_each P [] [] pairs = tt
first_each P [] (y ∷ ys) pairs = absurd pairs
first_each P (x ∷ xs) [] pairs = absurd pairs
first_each P (x ∷ xs) (y ∷ ys) pairs = (pairs.0, first_each P xs ys pairs.1)

-- two forms of the same making, by their parts; the parts of entries differ in names
abbrev pub Forms : (Part → Part → Type 0) → Form → Form → Type 0
Forms R nothing nothing = Unit {0}
Forms R (whole x) (whole y) = R x y
Forms R (object_of xs) (object_of ys) = Pairs R xs ys
Forms R (list_of xs) (list_of ys) = Pairs R xs ys
Forms R (entries_of xs) (entries_of ys) = Pairs R xs ys × Apart (children xs)
Forms R f g = ⊥

-- a form is there where the other is
pub forms_there : (R : Part → Part → Type 0)
    → ((x y : Part) → R x y → is_some x.child.form ≡ is_some y.child.form) → (f g : Form)
    → Forms R f g
    → is_some (value f) ≡ is_some (value g)
forms_there R there nothing nothing r = refl
forms_there R there (whole x) (whole y) r = there x y r
forms_there R there (object_of xs) (object_of ys) r = refl
forms_there R there (list_of xs) (list_of ys) r = refl
forms_there R there (entries_of xs) (entries_of ys) r = refl
forms_there R there f g r = absurd r

-- ---- kinds

-- attributes are related where they are the same but for their values, and forms under a name where the forms are
pub record IsOfParts (R : Part → Part → Type 0) : Type 0 where
  pub attribute : (n : List ℕ) (d e : Data) (test : Data → Bool) → R (own n d test) (own n e test)
  pub named : (n : Option (List ℕ)) (f g : Form) → Forms R f g → R (part n f) (part n g)

module _ (R : Part → Part → Type 0) (parts : IsOfParts R) where
  -- a single value, of the same type
  single_attribute : (n : List ℕ) (t u : ValueType) (v w : Option (List ℕ)) → t ≡ u
      → R (own n (single t v) (is_single t)) (own n (single u w) (is_single u))
  single_attribute n t u v w same =
      subst (λ (z : ValueType). R (own n (single t v) (is_single t)) (own n (single z w) (is_single z))) same
      (parts.attribute n (single t v) (single t w) (is_single t))

  pub put_together : (x y : Payload) (xs ys : List Part)
      → without_values x ≡ without_values y → ApartIn x (children xs) → Pairs R xs ys
      → Forms R (form_of x xs) (form_of y ys)
  put_together (p.Property t v i) (p.Property u w j) xs ys r apart pairs =
      let ts : t ≡ u = cc in
      single_attribute [] t u v w ts
  put_together (p.MultiLanguageProperty v i) (p.MultiLanguageProperty w j) xs ys r apart pairs = parts.attribute _ _ _ _
  put_together (p.Range t a b) (p.Range u c d) xs ys r apart pairs =
      let ts : t ≡ u = cc in
      (single_attribute (codes "max") t u b d ts, (single_attribute (codes "min") t u a c ts, tt))
  put_together (p.File t v) (p.File u w) xs ys r apart pairs = (parts.attribute _ _ _ _, (parts.attribute _ _ _ _, tt))
  put_together (p.Blob t v) (p.Blob u w) xs ys r apart pairs = (parts.attribute _ _ _ _, (parts.attribute _ _ _ _, tt))
  put_together (p.ReferenceElement v) (p.ReferenceElement w) xs ys r apart pairs = parts.attribute _ _ _ _
  put_together (p.RelationshipElement a b) (p.RelationshipElement c d) xs ys r apart pairs =
      (parts.attribute _ _ _ _, (parts.attribute _ _ _ _, tt))
  put_together (p.AnnotatedRelationshipElement a b) (p.AnnotatedRelationshipElement c d) xs ys r apart pairs = (
    parts.named _ (entries_of xs) (entries_of ys) (pairs, apart),
    (parts.attribute _ _ _ _, (parts.attribute _ _ _ _, tt)),
  )
  put_together (p.Entity t g ids) (p.Entity u h jds) xs ys r apart pairs =
      let statements = parts.named _ (object_of xs) (object_of ys) pairs in
      (parts.attribute _ _ _ _, (parts.attribute _ _ _ _, (parts.attribute _ _ _ _, (statements, tt))))
  put_together (p.BasicEventElement o d s t b l m n) (p.BasicEventElement o' d' s' t' b' l' m' n') xs ys r apart pairs =
      (parts.attribute _ _ _ _, tt)
  put_together p.Capability p.Capability xs ys r apart pairs = tt
  put_together p.Operation p.Operation xs ys r apart pairs = tt
  put_together p.SubmodelElementCollection p.SubmodelElementCollection xs ys r apart pairs = pairs
  put_together (p.SubmodelElementList o s t v) (p.SubmodelElementList o' s' t' v') xs ys r apart pairs = pairs
  put_together x y xs ys r apart pairs = absurd (cc)

-- ---- elements that differ in values alone

bare_out : (e : Element)
    → bare e
    ≡ made (out-Element e).role (out-Element e).common (without_values (out-Element e).payload) (map bare (kids_of e))
bare_out e = let x = out-Element e in ap bare (sym (made_out e)) ∙ bare_at x.role x.common x.payload x.kids

-- elements as parts, by what their children are as parts
pub record AreParts (of : Element → Part) (over : Option (List ℕ) → Form → Part) : Type 0 where
  pub out : (e : Element) → of e ≡ over (id_short_of e) (form_of (out-Element e).payload (map of (kids_of e)))
  pub child : (e : Element) → (of e).child ≡ (part_of e).child

pub elements_are_parts : AreParts part_of child_part
elements_are_parts = record { out = part_out; child = λ e. refl }

pub children_same : (of : Element → Part) → ((e : Element) → (of e).child ≡ (part_of e).child) → (ks : List Element)
    → children (map of ks) ≡ children (map part_of ks)
children_same of same [] = refl
children_same of same (k ∷ ks) = ap₂ (λ c cs. c ∷ cs) (same k) (children_same of same ks)

module _ (R : Part → Part → Type 0) (parts : IsOfParts R)
    (one two : Element → Part) (over more : Option (List ℕ) → Form → Part)
    (ones : AreParts one over) (twos : AreParts two more)
    (child : (n : Option (List ℕ)) (f g : Form) → Forms R f g → R (over n f) (more n g)) where
  abbrev Related : Element → Type 0
  Related e = (u : Element) → NamesDiffer e → DifferInValues e u → R (one e) (two u)

  kids_related : (ks us : List Element)
      → Each Related ks → ((i : ℕ) (k : Element) → slice_get ks i ≡ Some k → NamesDiffer k)
      → map bare ks ≡ map bare us
      → Pairs R (map one ks) (map two us)
  kids_related [] [] each names same = tt
  kids_related [] (u ∷ us) each names same = absurd (cc)
  kids_related (k ∷ ks) [] each names same = absurd (cc)
  kids_related (k ∷ ks) (u ∷ us) each names same =
      let head : bare k ≡ bare u = cc in
      let tail : map bare ks ≡ map bare us = cc in
      (each.0 u (names zero k refl) head, kids_related ks us each.1 (λ i m. names (suc i) m) tail)

  level_related : (e u : Element) → Each Related (kids_of e) → NamesDiffer e → DifferInValues e u → R (one e) (two u)
  unfolding element_in
  level_related e u each names differ =
      let x = out-Element e in
      let y = out-Element u in
      let same = fields x.role y.role x.common y.common (without_values x.payload) (without_values y.payload)
      (map bare x.kids) (map bare y.kids)
      (sym (bare_out e) ∙ differ ∙ bare_out u) in
      let apart = subst (ApartIn x.payload) (sym (children_same one ones.child x.kids))
      (apart_in x.payload x.kids (names [] e refl)) in
      let forms = put_together R parts x.payload y.payload (map one x.kids) (map two y.kids) same.payloads apart
      (kids_related x.kids y.kids each (names_below e names) same.kids) in
      let names_same = ap (λ (c : Common). c.id_short) same.commons in
      subst (R (one e)) (sym (twos.out u))
      (subst (λ (z : Part). R z (more (id_short_of u) (form_of y.payload (map two y.kids)))) (sym (ones.out e))
      (subst (λ n.
      R (over (id_short_of e) (form_of x.payload (map one x.kids))) (more n (form_of y.payload (map two y.kids))))
      names_same
      (child (id_short_of e) (form_of x.payload (map one x.kids)) (form_of y.payload (map two y.kids)) forms)))

  pub related : (e u : Element) → NamesDiffer e → DifferInValues e u → R (one e) (two u)
  related = by_children Related (λ r c x ks each u.
      level_related (made r c x ks) u (subst (Each Related) (sym (kids_made r c x ks)) each))
