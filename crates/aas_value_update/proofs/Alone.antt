-- What is left alone of an element, one level at a time.
use Rattle.std.proofs.Common.{◌≡◌, List, refl, sym, ap, ◌∙◌}
use Rattle.aas_model.specs.declared.common.Common.{Common}
use Rattle.aas_model.specs.declared.element.Element.{Element, out-Element, out-roll-Element}
use Rattle.aas_model.specs.declared.element.Role.{Role}
use Rattle.aas_model.specs.declared.payload.Payload.{Payload}
use Rattle.aas_model.specs.declared.payload.Payload.TheVariants as p
use Rattle.aas_json_mapping.proofs.Elements.{made, made_out}
use Rattle.aas_path_trees.specs.Children.{kids_of}
use Rattle.aas_constraint_laws.specs.Values.{without_values}
use Rattle.aas_value.specs.ValueForm.{shows_children}
use Rattle.aas_value_update.specs.LeftAlone.{has_value, left_alone}
use Rattle.aas_value_update.proofs.Elements.{kids_alone, alone_at}

-- ---- the members of an element

pub record SameFields (r q : Role) (c d : Common) (x y : Payload) (ks us : List Element) : Type 0 where
  pub roles : r ≡ q
  pub commons : c ≡ d
  pub payloads : x ≡ y
  pub kids : ks ≡ us

pub fields : (r q : Role) (c d : Common) (x y : Payload) (ks us : List Element)
    → made r c x ks ≡ made q d y us → SameFields r q c d x y ks us
fields r q c d x y ks us e =
    let out =
    sym (out-roll-Element (record { common = c; payload = x; role = r; kids = ks })) ∙ ap out-Element e
    ∙ out-roll-Element (record { common = d; payload = y; role = q; kids = us }) in
    record {
      roles = ap (λ z. z.role) out;
      commons = ap (λ z. z.common) out;
      payloads = ap (λ z. z.payload) out;
      kids = ap (λ z. z.kids) out;
    }

pub kids_made : (r : Role) (c : Common) (x : Payload) (ks : List Element) → kids_of (made r c x ks) ≡ ks
kids_made r c x ks = ap (λ z. z.kids) (out-roll-Element (record { common = c; payload = x; role = r; kids = ks }))

-- ---- what a kind's own members show without their values

pub shows_bare : (x : Payload) → shows_children (without_values x) ≡ shows_children x
shows_bare p.Capability = refl
shows_bare _ = refl

pub value_bare : (x : Payload) → has_value (without_values x) ≡ has_value x
value_bare p.Capability = refl
value_bare p.Operation = refl
value_bare _ = refl

-- ---- one level, where both are taken apart

pub record Level (u e : Element) : Type 0 where
  pub same : SameFields (out-Element u).role (out-Element e).role (out-Element u).common (out-Element e).common
      (without_values (out-Element u).payload) (without_values (out-Element e).payload)
      (kids_alone (out-Element u).payload (kids_of u)) (kids_alone (out-Element e).payload (kids_of e))
  pub shows : shows_children (out-Element u).payload ≡ shows_children (out-Element e).payload

alone_out : (e : Element) → left_alone e
    ≡ made (out-Element e).role (out-Element e).common
    (without_values (out-Element e).payload) (kids_alone (out-Element e).payload (kids_of e))
alone_out e = let x = out-Element e in ap left_alone (sym (made_out e)) ∙ alone_at x.role x.common x.payload x.kids

pub level : (u e : Element) → left_alone u ≡ left_alone e → Level u e
level u e h =
    let x = out-Element u in
    let y = out-Element e in
    let same =
    fields x.role y.role x.common y.common (without_values x.payload)
    (without_values y.payload) (kids_alone x.payload x.kids) (kids_alone y.payload y.kids)
    (sym (alone_out u) ∙ h ∙ alone_out e) in
    record { same = same; shows = sym (shows_bare x.payload) ∙ ap shows_children same.payloads ∙ shows_bare y.payload }

pub whole : (u e : Element)
    → Level u e → (out-Element u).payload ≡ (out-Element e).payload → kids_of u ≡ kids_of e → u ≡ e
whole u e l xs ks =
    let rs = l.same.roles in
    let cs = l.same.commons in
    sym (made_out u) ∙ (λ i. made (rs i) (cs i) (xs i) (ks i)) ∙ made_out e
