-- What is sent for children: it is in order where all is, and fits where the whole has the shape.
use Rattle.std.proofs.Common.{◌≡◌, ℕ, zero, suc, Bool, true, false, List, [], ◌∷◌, map, codes, Option, Some, None}
use Rattle.std.proofs.Common.{is_some, option_and_then, slice_get, refl, sym, ap, ◌∙◌, subst, true≢false}
use Rattle.std.specs.Prelude.{if◌then◌else◌}
use Rattle.std.specs.Str.{encode_utf8_all}
use Rattle.serde_json.specs.Data.{Data, array, object, Items, no_items, item, member, no_members}
use Rattle.serde_json.specs.Find.{get, get_member}
use Rattle.aas_json_spelling.specs.Lists.{Each}
use Rattle.aas_json_spelling.specs.Values.{IsOrdered, AreOrdered}
use Rattle.aas_model.specs.declared.element.Element.{Element, out-Element}
use Rattle.aas_model.specs.declared.payload.Payload.{Payload}
use Rattle.aas_model.specs.declared.payload.Payload.TheVariants as p
use Rattle.aas_path_trees.specs.Children.{kids_of}
use Rattle.aas_value.specs.Children.{Child}
use Rattle.aas_value_update.specs.Forms.{form_of, part_of}
use Rattle.aas_value.specs.Parts.{Part, is_called, children, entry, value, fits_form}
use Rattle.aas_value_update.specs.Shape.{by_names, next_item, in_turn, by_entries, items_in, nothing_sent, if_sent}
use Rattle.aas_value_update.specs.Shape.{sent, HasShape, shaped}
use Rattle.aas_value_update.proofs.Elements.{part_out}
use Rattle.aas_value_update.proofs.WholeOwn.{member_ordered}

-- ---- what is sent for children is in order

abbrev pub IfOrdered : Option Data → Type 0
IfOrdered None = Unit {0}
IfOrdered (Some d) = IsOrdered d

pub found_ordered : (n : List ℕ) (v : Data) → IsOrdered v → IfOrdered (get n v)
found_ordered n (object ms) order = by_found (get_member n ms) refl
  where
    by_found : (s : Option Data) → get_member n ms ≡ s → IfOrdered s
    by_found None e = tt
    by_found (Some d) e = member_ordered n ms d order e
found_ordered n v order = tt

named_ordered : (v : Data) → IsOrdered v → (b : Bool) (o : Option (List ℕ))
    → IfOrdered (if b then option_and_then (λ n. get (encode_utf8_all n) v) o else None)
named_ordered v order false o = tt
named_ordered v order true None = tt
named_ordered v order true (Some n) = found_ordered (encode_utf8_all n) v order

names_ordered : (xs : List Part) (v : Data) → IsOrdered v → Each IfOrdered (by_names (children xs) v)
names_ordered [] v order = tt
names_ordered (x ∷ xs) v order = (named_ordered v order (is_some x.child.form) x.child.name, names_ordered xs v order)

turn_ordered : (xs : List Part) (ds : Items) → AreOrdered ds → Each IfOrdered (in_turn (children xs) ds)
turn_ordered [] ds order = tt
turn_ordered (x ∷ xs) ds order = by_form (is_some x.child.form) ds order (turn_ordered xs)
  where
    by_form : (b : Bool) (ds : Items)
        → AreOrdered ds → ((es : Items) → AreOrdered es → Each IfOrdered (in_turn (children xs) es))
        → Each IfOrdered (if b then next_item (in_turn (children xs)) ds else None ∷ in_turn (children xs) ds)
    by_form true no_items order more = (tt, more no_items tt)
    by_form true (item d es) order more = (order.0, more es order.1)
    by_form false es order more = (tt, more es order)

pub entry_ordered : (c : Child) (ds : Items) → AreOrdered ds → IfOrdered (entry c ds).0 × AreOrdered (entry c ds).1
entry_ordered c (item (object (member n d no_members)) ds) order = by_name (is_called n c)
  where
    chosen : Bool → Option Data × Items
    chosen b = if b then (Some d, ds) else (None, item (object (member n d no_members)) ds)

    by_name : (b : Bool) → IfOrdered (chosen b).0 × AreOrdered (chosen b).1
    by_name true = (order.0.1, order.1)
    by_name false = (tt, order)
entry_ordered c ds order = (tt, order)

entries_ordered : (xs : List Part) (ds : Items) → AreOrdered ds → Each IfOrdered (by_entries (children xs) ds)
entries_ordered [] ds order = tt
entries_ordered (x ∷ xs) ds order =
    let e = entry_ordered x.child ds order in
    (e.0, entries_ordered xs (entry x.child ds).1 e.1)

nothing_ordered : (xs : List Part) → Each IfOrdered (nothing_sent (children xs))
nothing_ordered [] = tt
nothing_ordered (x ∷ xs) = (tt, nothing_ordered xs)

items_ordered : (d : Data) → IsOrdered d → AreOrdered (items_in d)
items_ordered (array ds) order = order
items_ordered d order = tt

pub sent_ordered : (x : Payload) (xs : List Part) (v : Data) → IsOrdered v → Each IfOrdered (sent x (children xs) v)
sent_ordered p.SubmodelElementCollection xs v order = names_ordered xs v order
sent_ordered (p.Entity t g ids) xs v order =
    by_sent (get (codes "statements") v) (found_ordered (codes "statements") v order)
  where
    by_sent : (s : Option Data) → IfOrdered s → Each IfOrdered (if_sent (by_names (children xs)) (children xs) s)
    by_sent None o = nothing_ordered xs
    by_sent (Some d) o = names_ordered xs d o
sent_ordered (p.AnnotatedRelationshipElement a b) xs v order =
    by_sent (get (codes "annotations") v) (found_ordered (codes "annotations") v order)
  where
    by_sent : (s : Option Data)
        → IfOrdered s → Each IfOrdered (if_sent (λ d. by_entries (children xs) (items_in d)) (children xs) s)
    by_sent None o = nothing_ordered xs
    by_sent (Some d) o = entries_ordered xs (items_in d) (items_ordered d o)
sent_ordered (p.SubmodelElementList o s t a) xs v order = turn_ordered xs (items_in v) (items_ordered v order)
sent_ordered p.Capability xs v order = nothing_ordered xs
sent_ordered _ xs v order = nothing_ordered xs

-- ---- what is sent for children fits

abbrev pub IfShaped : Element → Option Data → Type 0
IfShaped k None = Unit {0}
IfShaped k (Some d) = HasShape k d

abbrev pub AreShaped : List Element → List (Option Data) → Type 0
AreShaped [] ss = Unit {0}
AreShaped (k ∷ ks) [] = Unit {0}
AreShaped (k ∷ ks) (s ∷ ss) = IfShaped k s × AreShaped ks ss

all_shaped : (ks : List Element) (ss : List (Option Data))
    → ((n : ℕ) (k : Element) (d : Data) → slice_get ks n ≡ Some k → slice_get ss n ≡ Some (Some d) → HasShape k d)
    → AreShaped ks ss
all_shaped [] ss each = tt
all_shaped (k ∷ ks) [] each = tt
all_shaped (k ∷ ks) (None ∷ ss) each = (tt, all_shaped ks ss (λ n. each (suc n)))
all_shaped (k ∷ ks) (Some d ∷ ss) each = (each zero k d refl refl, all_shaped ks ss (λ n. each (suc n)))

shaped_at : (ks : List Element) (ss : List (Option Data)) → AreShaped ks ss
    → (n : ℕ) (k : Element) (d : Data) → slice_get ks n ≡ Some k → slice_get ss n ≡ Some (Some d) → HasShape k d
shaped_at [] ss all n k d at has = absurd (cc)
shaped_at (j ∷ ks) [] all n k d at has = absurd (cc)
shaped_at (j ∷ ks) (s ∷ ss) all zero k d at has =
    let same : j ≡ k = cc in
    let is : s ≡ Some d = cc in
    subst (λ z. HasShape z d) same (subst (IfShaped j) is all.0)
shaped_at (j ∷ ks) (s ∷ ss) all (suc n) k d at has = shaped_at ks ss all.1 n k d at has

-- an element's own part of v fits, and so does what is sent for its children
pub record IsShapedLevel (e : Element) (v : Data) : Type 0 where
  pub own : fits_form (form_of (out-Element e).payload (map part_of (kids_of e))) v ≡ true
  pub kids : AreShaped (kids_of e) (sent (out-Element e).payload (children (map part_of (kids_of e))) v)

level_out : {e : Element} {v : Data} → HasShape e v → IsShapedLevel e v
level_out (shaped e v own each) = record {
  own = own;
  kids =
      all_shaped (kids_of e) (sent (out-Element e).payload (children (map part_of (kids_of e))) v)
      (λ n k d at has. each n k d (record { child = at; value = has }));
}

pub shape_out : (e : Element) (v : Data) → HasShape e v → IsShapedLevel e v
shape_out e v shape = level_out shape

-- and back
pub shape_from : (e : Element) (v : Data) → IsShapedLevel e v → HasShape e v
shape_from e v level =
    shaped e v level.own (λ n k d is.
    shaped_at (kids_of e)
    (sent (out-Element e).payload (children (map part_of (kids_of e))) v) level.kids n k d is.child is.value)

-- ---- what may be sent is laid over a form

form_fitting : (x : Payload) (xs : List Part) (v : Data)
    → fits_form (form_of x xs) v ≡ true → is_some (value (form_of x xs)) ≡ true
form_fitting p.Capability xs v fits = absurd (true≢false (sym fits))
form_fitting p.Operation xs v fits = absurd (true≢false (sym fits))
form_fitting x xs v fits = refl

pub form_there : (e : Element) (v : Data) → HasShape e v → is_some (part_of e).child.form ≡ true
form_there e v shape =
    ap (λ (x : Part). is_some x.child.form) (part_out e)
    ∙ form_fitting (out-Element e).payload (map part_of (kids_of e)) v (shape_out e v shape).own
