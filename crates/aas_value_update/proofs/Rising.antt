-- What is laid of values whose names rise has names that rise.
use Rattle.std.proofs.Common.{◌≡◌, ℕ, Bool, true, false, List, [], ◌∷◌, Option, Some, None, is_some, Ordering, Less}
use Rattle.std.proofs.Common.{Equal, Greater, nat_cmp, refl}
use Rattle.std.specs.Prelude.{if◌then◌else◌}
use Rattle.std.specs.Cmp.Lexicographic.{slice_cmp}
use Rattle.std.specs.Ordering.{match_ordering}
use Rattle.serde_json.specs.Data.{Data, array, object, put, Items, no_items, item, Members, no_members, member}
use Rattle.serde_json.specs.Find.{get_member}
use Rattle.aas_json_spelling.specs.Lists.{Each}
use Rattle.aas_json_spelling.specs.Values.{IsOrdered, AreOrdered, HasOrder}
use Rattle.aas_value.specs.Children.{Child, named}
use Rattle.aas_value.specs.ValueForm.{child_part}
use Rattle.aas_value_update.specs.Forms.{part_of}
use Rattle.aas_value_update.specs.Laws.{LaidNamesRise}
use Rattle.aas_value.specs.Parts.{Part, Form, nothing, whole, object_of, list_of, entries_of, is_called, by_name, over}
use Rattle.aas_value.specs.Parts.{over_one, later, laid, laid_item, laid_items, entry, put_entry, laid_entries}
use Rattle.aas_value.specs.Parts.{lay_form}
use Rattle.aas_value_update.proofs.Canonical.{order_rises}
use Rattle.aas_value_update.proofs.Laid.{laid_rises, lay_named}
use Rattle.aas_value_update.proofs.Members.{Rises}
use Rattle.aas_value_update.proofs.Pairs.{Forms, first_each, IsOfParts, elements_are_parts, related}
use Rattle.aas_value_update.proofs.Sent.{IfOrdered, entry_ordered}
use Rattle.aas_value_update.proofs.WholeOwn.{member_ordered}

Rising : (Data → Data → Data) → Type 0
Rising lay = (w v : Data) → IsOrdered w → IsOrdered v → IsOrdered (lay w v)

over_ordered : (lay : Data → Data → Data) → Rising lay → (w v : Option Data)
    → IfOrdered w → IfOrdered v → IfOrdered (over lay w v)
unfolding Rising
over_ordered lay rising None None a b = tt
over_ordered lay rising None (Some v) a b = b
over_ordered lay rising (Some w) None a b = a
over_ordered lay rising (Some w) (Some v) a b = rising w v a b

abbrev PartRises : Part → Type 0
PartRises x = Rising x.lay

-- ---- objects

-- each member has names that rise
abbrev AllOrdered : Members → Type 0
AllOrdered no_members = Unit {0}
AllOrdered (member k d ms) = IsOrdered d × AllOrdered ms

all_ordered : (ms : Members) → HasOrder ms → AllOrdered ms
all_ordered no_members order = tt
all_ordered (member k d ms) order = (order.1, all_ordered ms order.2)

in_order : (ms : Members) → Rises ms → AllOrdered ms → HasOrder ms
in_order no_members rises all = tt
in_order (member k d ms) rises all = (rises.0, all.0, in_order ms rises.1 all.1)

put_ordered : (n : List ℕ) (d : Data) (ms : Members) → IsOrdered d → AllOrdered ms → AllOrdered (put n d ms)
put_ordered n d no_members one all = (one, tt)
put_ordered n d (member m e ms) one all = by_order (slice_cmp nat_cmp n m) (put_ordered n d ms one all.1)
  where
    by_order : (o : Ordering) → AllOrdered (put n d ms)
        → AllOrdered (match_ordering o (member n d (member m e ms)) (member m d ms) (member m e (put n d ms)))
    by_order Less more = (one, all)
    by_order Equal more = (one, all.1)
    by_order Greater more = (all.0, more)

name_rises : (n : List ℕ) (xs : List Part) → Each PartRises xs → (lay : Data → Data → Data) → Rising lay
    → Rising (by_name n (λ x. x.lay) xs lay)
name_rises n [] each lay rising = rising
name_rises n (x ∷ xs) each lay rising =
    name_rises n xs each.1 (if is_called n x.child then x.lay else lay) (by_test (is_called n x.child))
  where
    by_test : (b : Bool) → Rising (if b then x.lay else lay)
    by_test true = each.0
    by_test false = rising

later_rises : Rising later
unfolding Rising
later_rises w v a b = b

laid_ordered : (xs : List Part) → Each PartRises xs → (ws vs : Members)
    → HasOrder ws → AllOrdered vs → AllOrdered (laid xs ws vs)
unfolding Rising
laid_ordered xs each ws no_members a b = all_ordered ws a
laid_ordered xs each ws (member n v vs) a b =
    put_ordered n (over_one (lay_named n xs) (get_member n ws) v) (laid xs ws vs) (by_found (get_member n ws) refl)
    (laid_ordered xs each ws vs a b.1)
  where
    by_found : (o : Option Data) → get_member n ws ≡ o → IsOrdered (over_one (lay_named n xs) o v)
    by_found None e = b.0
    by_found (Some w) e = name_rises n xs each later later_rises w v (member_ordered n ws w a e) b.0

-- ---- arrays

items_ordered : (xs : List Part) → Each PartRises xs → (ws vs : Items)
    → AreOrdered ws → AreOrdered vs → AreOrdered (laid_items xs ws vs)
unfolding Rising
items_ordered [] each ws vs a b = b
items_ordered (x ∷ xs) each ws vs a b =
    by_test (is_some x.child.form) ws vs a b (λ ds es. items_ordered xs each.1 ds es)
  where
    by_test : (t : Bool) (ws vs : Items) → AreOrdered ws → AreOrdered vs
        → ((ds es : Items) → AreOrdered ds → AreOrdered es → AreOrdered (laid_items xs ds es))
        → AreOrdered (if t then laid_item x.lay (laid_items xs) ws vs else laid_items xs ws vs)
    by_test false ws vs a b more = more ws vs a b
    by_test true (item w ws) (item v vs) a b more = (each.0 w v a.0 b.0, more ws vs a.1 b.1)
    by_test true (item w ws) no_items a b more = tt
    by_test true no_items vs a b more = b

entries_ordered : (xs : List Part) → Each PartRises xs → (ws vs : Items) → AreOrdered ws → AreOrdered vs
    → AreOrdered (laid_entries xs ws vs)
entries_ordered [] each ws vs a b = tt
entries_ordered (x ∷ xs) each ws vs a b =
    let w = entry_ordered x.child ws a in
    let v = entry_ordered x.child vs b in
    put_in_order x.child (over x.lay (entry x.child ws).0 (entry x.child vs).0)
    (laid_entries xs (entry x.child ws).1 (entry x.child vs).1)
    (over_ordered x.lay each.0 (entry x.child ws).0 (entry x.child vs).0 w.0 v.0)
    (entries_ordered xs each.1 (entry x.child ws).1 (entry x.child vs).1 w.1 v.1)
  where
    named_ordered : (o : Option (List ℕ)) (d : Data)
        → IsOrdered d → IsOrdered (named (record { name = o; form = Some d } ∷ []))
    named_ordered None d one = tt
    named_ordered (Some n) d one = (tt, one, tt)

    put_in_order : (c : Child) (o : Option Data) (ds : Items)
        → IfOrdered o → AreOrdered ds → AreOrdered (put_entry c o ds)
    put_in_order c None ds one rest = rest
    put_in_order c (Some d) ds one rest = (named_ordered c.name d one, rest)

-- ---- forms

form_rises : (f g : Form) → Forms (λ x y. PartRises x) f g → Rising (lay_form f)
unfolding Rising
form_rises nothing nothing r w v a b = b
form_rises (whole x) (whole y) r w v a b = b
form_rises (object_of xs) (object_of ys) r (object ws) (object vs) a b =
    in_order (laid xs ws vs) (laid_rises xs ws vs (order_rises ws a))
    (laid_ordered xs (first_each PartRises xs ys r) ws vs a (all_ordered vs b))
form_rises (object_of xs) (object_of ys) r w v a b = b
form_rises (list_of xs) (list_of ys) r (array ws) (array vs) a b =
    items_ordered xs (first_each PartRises xs ys r) ws vs a b
form_rises (list_of xs) (list_of ys) r w v a b = b
form_rises (entries_of xs) (entries_of ys) r (array ws) (array vs) a b =
    entries_ordered xs (first_each PartRises xs ys r.0) ws vs a b
form_rises (entries_of xs) (entries_of ys) r w v a b = b
form_rises f g r w v a b = absurd r

rising_parts : IsOfParts (λ x y. PartRises x)
rising_parts = record { attribute = λ n d e test. later_rises; named = λ n f g r. form_rises f g r }

pub laid_names_rise : LaidNamesRise
unfolding Rising
laid_names_rise e v w order a b =
    related (λ x y. PartRises x) rising_parts part_of part_of
    child_part child_part elements_are_parts elements_are_parts
    rising_parts.named e e order.names refl v w a b
