-- There is an update by each value that fits: an element takes what is sent for its attributes, and its children take
-- what is sent for them.
use Rattle.std.proofs.Common.{◌≡◌, ℕ, zero, suc, Bool, true, false, List, [], ◌∷◌, map, Option, Some, None, option_map}
use Rattle.std.proofs.Common.{is_some, slice_get, refl, sym, ap, ap₂, ◌∙◌, subst, true≢false}
use Rattle.std.specs.Prelude.{if◌then◌else◌}
use Rattle.serde_json.specs.Data.{Data}
use Rattle.aas_json_spelling.specs.Lists.{Each}
use Rattle.aas_json_mapping.proofs.Elements.{made, made_out, by_children}
use Rattle.aas_model_names.specs.declared.modifiers.Extent.TheVariants as extent
use Rattle.aas_model.specs.declared.documents.Submodel.{Submodel}
use Rattle.aas_model.specs.declared.element.Element.{Element, out-Element, out-roll-Element}
use Rattle.aas_model.specs.declared.element.Role.TheVariants as role
use Rattle.aas_model.specs.declared.payload.Payload.{Payload}
use Rattle.aas_model.specs.declared.payload.Payload.TheVariants as p
use Rattle.aas_model.specs.Common.{no_attributes}
use Rattle.aas_constraint_laws.specs.Values.{without_values}
use Rattle.aas_path_trees.specs.Children.{kids_of}
use Rattle.aas_path_trees.specs.Places.{element_in}
use Rattle.aas_path_trees.specs.WithElement.{with_element}
use Rattle.aas_value.specs.Children.{Child}
use Rattle.aas_value.specs.ValueForm.{value_form, shows_children}
use Rattle.aas_value_update.specs.Forms.{part_of, lay}
use Rattle.aas_value_update.specs.Laws.{NamesDiffer}
use Rattle.aas_value_update.specs.LeftAlone.{left_alone}
use Rattle.aas_value.specs.Parts.{Part, children, over}
use Rattle.aas_value_update.specs.Shape.{HasShape, nothing_sent, sent}
use Rattle.aas_value_update.specs.Took.{TookOne, Took}
use Rattle.aas_value_update.specs.Update.{IsElementUpdate, body}
use Rattle.aas_value_update.proofs.Alone.{kids_made, level, shows_bare}
use Rattle.aas_value_update.proofs.Elements.{part_at, part_out, kids_alone, alone_at}
use Rattle.aas_value_update.proofs.Laid.{over_none}
use Rattle.aas_value_update.proofs.OneForm.{named_in}
use Rattle.aas_value_update.proofs.Order.{names_below, body_order, order_at}
use Rattle.aas_value_update.proofs.Rest.{differ_in_values, unshown_stays, left_alone_is}
use Rattle.aas_value_update.proofs.Sent.{IfShaped, AreShaped, shape_out, form_there}
use Rattle.aas_value_laws.specs.Laws.{UpdateIsThere, ValueUpdateIsThere}
use Rattle.aas_value_laws.proofs.Sendable.{IsSendable, IfSendable, AreSent, are_sent}
use Rattle.aas_value_laws.proofs.Taken.{Taken, taken}

-- ---- children

-- some element is e with what was sent laid over its values, and with all else as it was
record TakesOne (e : Element) (s : Option Data) : Type 0 where
  element : Element
  rest : left_alone element ≡ left_alone e
  took : TookOne (part_of e) s (part_of element)

record TakesAll (ks : List Element) (ss : List (Option Data)) : Type 0 where
  elements : List Element
  rest : map left_alone elements ≡ map left_alone ks
  took : Took (map part_of ks) ss (map part_of elements)

-- what nothing was sent for stays
unsent_took : (e : Element) → TookOne (part_of e) None (part_of e)
unsent_took e =
    ap (λ (f : Option Data). record (part_of e).child { form = f }) (over_none (part_of e).lay (part_of e).child.form)

all_unsent : (ks : List Element) → Took (map part_of ks) (nothing_sent (children (map part_of ks))) (map part_of ks)
all_unsent [] = tt
all_unsent (k ∷ ks) = (unsent_took k, all_unsent ks)

Takes : Element → Type 0
Takes e = (v : Data) → NamesDiffer e → IsSendable v → HasShape e v → TakesOne e (Some v)

kids_take : (ks : List Element) (ss : List (Option Data)) → Each Takes ks
    → ((i : ℕ) (k : Element) → slice_get ks i ≡ Some k → NamesDiffer k) → AreSent (map part_of ks) ss → AreShaped ks ss
    → TakesAll ks ss
unfolding Takes
kids_take [] [] each names good shaped = record { elements = []; rest = refl; took = tt }
kids_take [] (s ∷ ss) each names good shaped = absurd good
kids_take (k ∷ ks) [] each names good shaped = absurd good
kids_take (k ∷ ks) (s ∷ ss) each names good shaped =
    let first = by_sent s good.0 shaped.0 in
    let others = kids_take ks ss each.1 (λ i m. names (suc i) m) good.1 shaped.1 in record {
      elements = first.element ∷ others.elements;
      rest = ap₂ (λ z zs. z ∷ zs) first.rest others.rest;
      took = (first.took, others.took);
    }
  where
    by_sent : (s : Option Data) → IfSendable s → IfShaped k s → TakesOne k s
    by_sent None good shaped = record { element = k; rest = refl; took = unsent_took k }
    by_sent (Some d) good shaped = each.0 d (names zero k refl) good shaped

-- where no children are shown, nothing is sent for them
hides : (x : Payload) (cs : List Child) (v : Data) → shows_children x ≡ false → sent x cs v ≡ nothing_sent cs
hides (p.AnnotatedRelationshipElement a b) cs v hidden = absurd (true≢false hidden)
hides (p.Entity t g ids) cs v hidden = absurd (true≢false hidden)
hides p.SubmodelElementCollection cs v hidden = absurd (true≢false hidden)
hides (p.SubmodelElementList o s t a) cs v hidden = absurd (true≢false hidden)
hides p.Capability cs v hidden = refl
hides _ cs v hidden = refl

-- the children after an update, with those that no value form shows as they were
record TakesBelow (x : Payload) (ks : List Element) (v : Data) : Type 0 where
  elements : List Element
  rest : kids_alone x elements ≡ kids_alone x ks
  took : Took (map part_of ks) (sent x (children (map part_of ks)) v) (map part_of elements)

below : (x : Payload) (ks : List Element) (v : Data) → TakesAll ks (sent x (children (map part_of ks)) v)
    → TakesBelow x ks v
below x ks v kids = by_shows (shows_children x) refl
  where
    by_shows : (b : Bool) → shows_children x ≡ b → TakesBelow x ks v
    by_shows true shown = record {
      elements = kids.elements;
      rest = ap (λ b. if b then map left_alone kids.elements else kids.elements) shown ∙ kids.rest
          ∙ ap (λ b. if b then map left_alone ks else ks) (sym shown);
      took = kids.took;
    }
    by_shows false hidden = record {
      elements = ks;
      rest = refl;
      took =
          subst (λ ss. Took (map part_of ks) ss (map part_of ks)) (sym (hides x (children (map part_of ks)) v hidden))
          (all_unsent ks);
    }

-- ---- elements

put_together : (e : Element) (v : Data) (kids : TakesBelow (out-Element e).payload (kids_of e) v)
    → Taken (out-Element e).payload (map part_of (kids_of e)) (map part_of kids.elements) v → TakesOne e (Some v)
put_together e v kids own =
    let x = out-Element e in
    let shows = sym (shows_bare own.payload) ∙ ap shows_children own.rest ∙ shows_bare x.payload in
    let us = kids.elements in record {
      element = made x.role x.common own.payload kids.elements;
      rest =
          alone_at x.role x.common own.payload kids.elements
          ∙ ap₂ (made x.role x.common) own.rest (ap (λ b. if b then map left_alone us else us) shows ∙ kids.rest)
          ∙ sym (alone_at x.role x.common x.payload x.kids) ∙ ap left_alone (made_out e);
      took =
          ap (λ (y : Part). y.child) (part_at x.role x.common own.payload kids.elements)
          ∙ ap (λ (f : Option Data). record { name = x.common.id_short; form = f }) own.form
          ∙ sym (ap (λ (y : Part). record y.child { form = over y.lay y.child.form (Some v) }) (part_out e));
    }

level_takes : (e : Element) → Each Takes (kids_of e) → Takes e
unfolding Takes element_in
level_takes e each v names good fits =
    let x = (out-Element e).payload in
    let xs = map part_of (kids_of e) in
    let shape = shape_out e v fits in
    let all = kids_take (kids_of e) (sent x (children xs) v) each (names_below e names) (are_sent x xs v good)
    shape.kids in
    let kids = below x (kids_of e) v all in
    let named = named_in x (kids_of e) (names [] e refl) in
    put_together e v kids (taken x xs (map part_of kids.elements) v good shape.own named kids.took)

takes : (e : Element) → Takes e
unfolding Takes
takes =
    by_children Takes (λ r c x ks each.
    level_takes (made r c x ks) (subst (Each Takes) (sym (kids_made r c x ks)) each))

form_laid : (e : Element) (v : Data) → HasShape e v
    → over (part_of e).lay (part_of e).child.form (Some v)
    ≡ option_map (λ w. lay e w v) (value_form extent.WithBlobValue e)
form_laid e v shape = by_form (part_of e).child.form refl
  where
    by_form : (f : Option Data) → (part_of e).child.form ≡ f
        → over (part_of e).lay f (Some v) ≡ option_map (λ w. lay e w v) f
    by_form None is = absurd (true≢false (sym (form_there e v shape) ∙ ap is_some is))
    by_form (Some w) is = refl

pub update_is_there : UpdateIsThere
unfolding Takes
update_is_there e v order good numbers shape =
    let sendable : IsSendable v = record { text = good.text; order = good.order; numbers = numbers } in
    let made = takes e v order.names sendable shape in record {
      element = made.element;
      update = record {
        metadata = differ_in_values e made.element made.rest;
        operations = unshown_stays e made.element made.rest;
        shape = shape;
        form = ap (λ (c : Child). c.form) made.took ∙ form_laid e v shape;
      };
    }

-- ---- submodels

-- what differs in values alone from a submodel as an object of its children is one
only_collection : (x : Payload) → without_values x ≡ p.SubmodelElementCollection → x ≡ p.SubmodelElementCollection
only_collection p.SubmodelElementCollection same = refl
only_collection x same = absurd (cc)

body_again : (d : Submodel) (u : Element) → left_alone u ≡ left_alone (body d)
    → body (record d { kids = kids_of u }) ≡ u
body_again d u same =
    let out = out-roll-Element
    (record { common = no_attributes; payload = p.SubmodelElementCollection; role = role.Member; kids = d.kids }) in
    let fields = (level u (body d) same).same in
    let roles = fields.roles ∙ ap (λ x. x.role) out in
    let commons = fields.commons ∙ ap (λ x. x.common) out in
    let payloads = only_collection (out-Element u).payload (fields.payloads ∙ ap (λ x. without_values x.payload) out) in
    sym (sym (made_out u) ∙ (λ i. made (roles i) (commons i) (payloads i) (kids_of u)))

pub value_update_is_there : ValueUpdateIsThere
value_update_is_there d [] e v valid there good numbers shape =
    let same : body d ≡ e = cc in
    let order = body_order d valid in
    let made = update_is_there (body d) v order good numbers (subst (λ z. HasShape z v) (sym same) shape) in
    let u = made.element in
    let rest = left_alone_is (body d) u order.placed made.update.metadata made.update.operations in
    let again = body_again d u rest in record {
      submodel = record d { kids = kids_of u };
      update = record { update = subst (IsElementUpdate (body d) v) (sym again) made.update; outside = refl };
    }
value_update_is_there d (s ∷ q) e v valid there good numbers shape =
    let made = update_is_there e v (order_at d (s ∷ q) e valid there) good numbers shape in record {
      submodel = with_element d (s ∷ q) made.element;
      update = record { old = e; new = made.element; found = there; update = made.update; outside = refl };
    }
