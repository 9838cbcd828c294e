-- What is sent: values in order have parts in order.
use Rattle.std.proofs.Common.{◌≡◌, ℕ, Bool, true, false, List, [], ◌∷◌, codes, Option, Some, None, is_some, unwrap_or}
use Rattle.std.proofs.Common.{Result, Ok, Err, IfOk, refl, sym, ap, ◌∙◌}
use Rattle.std.specs.Prelude.{if◌then◌else◌}
use Rattle.std.specs.Str.{encode_utf8_all}
use Rattle.serde_json.specs.Data.{Data, null, boolean, number, string, array, object, Items, no_items, item, Members}
use Rattle.serde_json.specs.Find.{get, get_member}
use Rattle.aas_json_spelling.specs.Values.{IsOrdered, AreOrdered, HasOrder}
use Rattle.aas_model.specs.declared.payload.Payload.{Payload}
use Rattle.aas_model.specs.declared.payload.Payload.TheVariants as p
use Rattle.aas_value.specs.Children.{Child}
use Rattle.aas_value.specs.Parts.{entry}
use Rattle.aas_value_update.specs.Shape.{under_name, by_names, next_item, in_turn, by_entries, items_in, nothing_sent}
use Rattle.aas_value_update.specs.Shape.{if_sent, sent}
use Rattle.aas_value_update.proofs.WholeOwn.{member_ordered}
use Rattle.aas_value_update.proofs.Sent.{entry_ordered}
use Rattle.aas_value_patch.specs.declared.fault.Misfit.{Misfit}
use Rattle.aas_value_patch.specs.Gathered.{IfOrdered, AllOrdered}

-- ---- one member

pub order_under : (n : List ℕ) (ms : Members) (d : Data) → HasOrder ms → Some d ≡ get_member n ms → IsOrdered d
order_under n ms d h e = member_ordered n ms d h (sym e)

pub taken_under : (n : List ℕ) (ms : Members) (d w u : Data)
    → Some d ≡ get_member n ms → u ≡ d → u ≡ unwrap_or (get_member n ms) w
taken_under n ms d w u e same = same ∙ ap (λ o. unwrap_or o w) e

pub under_taken : {A : Type 0} (f : A → Data) (n : List ℕ) (ms : Members) (d w : Data) (r : Result A Misfit)
    → Some d ≡ get_member n ms
    → IfOk r (λ new. IsOrdered d → f new ≡ d)
    → IfOk r (λ new. HasOrder ms → f new ≡ unwrap_or (get_member n ms) w)
under_taken f n ms d w (Ok a) e h = λ order. taken_under n ms d w (f a) e (h (order_under n ms d order e))
under_taken f n ms d w (Err m) e h = tt

-- ---- what is sent for children

order_if : (o : Option Data) → ((d : Data) → o ≡ Some d → IsOrdered d) → IfOrdered o
order_if None h = tt
order_if (Some d) h = h d refl

got_ordered : (n : List ℕ) (v d : Data) → IsOrdered v → get n v ≡ Some d → IsOrdered d
got_ordered n null d order e = absurd (cc)
got_ordered n (boolean b) d order e = absurd (cc)
got_ordered n (number m) d order e = absurd (cc)
got_ordered n (string s) d order e = absurd (cc)
got_ordered n (array ds) d order e = absurd (cc)
got_ordered n (object ms) d order e = member_ordered n ms d order e

under_ordered : (v : Data) (c : Child) → IsOrdered v → IfOrdered (under_name v c)
under_ordered v c order = by_child c.name c.form
  where
    by_child : (a : Option (List ℕ)) (f : Option Data) → IfOrdered (under_name v (record { name = a; form = f }))
    by_child None None = tt
    by_child None (Some f) = tt
    by_child (Some n) None = tt
    by_child (Some n) (Some f) =
        order_if (get (encode_utf8_all n) v) (λ d e. got_ordered (encode_utf8_all n) v d order e)

names_ordered : (cs : List Child) (v : Data) → IsOrdered v → AllOrdered (by_names cs v)
names_ordered [] v order = tt
names_ordered (c ∷ cs) v order = (under_ordered v c order, names_ordered cs v order)

none_ordered : (cs : List Child) → AllOrdered (nothing_sent cs)
none_ordered [] = tt
none_ordered (c ∷ cs) = (tt, none_ordered cs)

turn_ordered : (cs : List Child) (ds : Items) → AreOrdered ds → AllOrdered (in_turn cs ds)
turn_ordered [] ds order = tt
turn_ordered (c ∷ cs) ds order = by_form (is_some c.form) (λ es. turn_ordered cs es) ds order
  where
    by_form : (b : Bool) → ((es : Items) → AreOrdered es → AllOrdered (in_turn cs es)) → (ds : Items) → AreOrdered ds
        → AllOrdered (if b then next_item (in_turn cs) ds else None ∷ in_turn cs ds)
    by_form false more ds order = (tt, more ds order)
    by_form true more no_items order = (tt, more no_items tt)
    by_form true more (item d ds) order = (order.0, more ds order.1)

entries_ordered : (cs : List Child) (ds : Items) → AreOrdered ds → AllOrdered (by_entries cs ds)
entries_ordered [] ds order = tt
entries_ordered (c ∷ cs) ds order = let e = entry_ordered c ds order in (e.0, entries_ordered cs (entry c ds).1 e.1)

items_ordered : (v : Data) → IsOrdered v → AreOrdered (items_in v)
items_ordered (array ds) order = order
items_ordered null order = tt
items_ordered (boolean b) order = tt
items_ordered (number n) order = tt
items_ordered (string s) order = tt
items_ordered (object ms) order = tt

if_ordered : (f : Data → List (Option Data)) (cs : List Child) (o : Option Data)
    → ((d : Data) → o ≡ Some d → AllOrdered (f d)) → AllOrdered (if_sent f cs o)
if_ordered f cs None h = none_ordered cs
if_ordered f cs (Some d) h = h d refl

pub sent_ordered : (x : Payload) (cs : List Child) (v : Data) → IsOrdered v → AllOrdered (sent x cs v)
sent_ordered p.SubmodelElementCollection cs v order = names_ordered cs v order
sent_ordered (p.Entity t g ids) cs v order =
    if_ordered (by_names cs) cs (get (codes "statements") v) (λ d e.
    names_ordered cs d (got_ordered (codes "statements") v d order e))
sent_ordered (p.AnnotatedRelationshipElement first second) cs v order =
    if_ordered (λ d. by_entries cs (items_in d)) cs (get (codes "annotations") v)
    (λ d e. entries_ordered cs (items_in d) (items_ordered d (got_ordered (codes "annotations") v d order e)))
sent_ordered (p.SubmodelElementList o s t u) cs v order = turn_ordered cs (items_in v) (items_ordered v order)
sent_ordered p.Capability cs v order = none_ordered cs
sent_ordered _ cs v order = none_ordered cs
