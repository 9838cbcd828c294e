-- The shape of a sent value (IDTA-01002-3-0, serialization ValueOnly): which value may be sent for an element, and
-- which element is the first, in preorder, that another value doesn't fit. The walk `first_misshapen` finds just this
-- element. That a parent comes before its children is this profile's own rule.
use Rattle.std.specs.Prelude.{◌≡◌, ℕ, ◌+◌, ◌<◌, true, false, if◌then◌else◌, List, [], ◌∷◌, map, codes, slice_get}
use Rattle.std.specs.Prelude.{Option, Some, None, option_map, option_and_then, is_some}
use Rattle.std.specs.Str.{encode_utf8_all}
use Rattle.serde_json.specs.Data.{Data, array, Items, no_items, item}
use Rattle.serde_json.specs.Find.{get}
use Rattle.aas_json_table.specs.Rows.{first_of}
use Rattle.aas_value.specs.Children.{Child}
use Rattle.aas_model.specs.declared.element.Element.{Element, out-Element, fold-Element}
use Rattle.aas_model.specs.declared.element.Element.TheOpen.{Element-F}
use Rattle.aas_model.specs.declared.path.PathStep.{PathStep}
use Rattle.aas_model.specs.declared.payload.Payload.{Payload}
use Rattle.aas_model.specs.declared.payload.Payload.TheVariants as p
use Rattle.aas_constraint_rules.specs.Sites.{Own, own_of, step_to}
use Rattle.aas_path_trees.specs.Children.{kids_of}
use Rattle.aas_value.specs.Parts.{Part, Form, entry, children, fits_form}
use Rattle.aas_value_update.specs.Forms.{form_of, part_of}
use Rattle.aas_value.specs.ValueForm.{child_part}

-- ---- what is sent for each child

abbrev pub under_name : Data → Child → Option Data
under_name v c = if is_some c.form then option_and_then (λ n. get (encode_utf8_all n) v) c.name else None

abbrev pub by_names : List Child → Data → List (Option Data)
by_names cs v = map (under_name v) cs

abbrev pub next_item : (Items → List (Option Data)) → Items → List (Option Data)
next_item more no_items = None ∷ more no_items
next_item more (item d ds) = Some d ∷ more ds

-- the items in turn, for the children that have a value
abbrev pub in_turn : List Child → Items → List (Option Data)
in_turn [] ds = []
in_turn (c ∷ cs) ds = if is_some c.form then next_item (in_turn cs) ds else None ∷ in_turn cs ds

abbrev pub by_entries : List Child → Items → List (Option Data)
by_entries [] ds = []
by_entries (c ∷ cs) ds = let e = entry c ds in e.0 ∷ by_entries cs e.1

abbrev pub items_in : Data → Items
items_in (array ds) = ds
items_in d = no_items

abbrev pub nothing_sent : List Child → List (Option Data)
nothing_sent cs = map (λ c. None) cs

abbrev pub if_sent : (Data → List (Option Data)) → List Child → Option Data → List (Option Data)
if_sent f cs None = nothing_sent cs
if_sent f cs (Some d) = f d

abbrev pub sent : Payload → List Child → Data → List (Option Data)
sent p.SubmodelElementCollection cs v = by_names cs v
sent (p.Entity t g ids) cs v = if_sent (by_names cs) cs (get (codes "statements") v)
sent (p.AnnotatedRelationshipElement first second) cs v =
    if_sent (λ d. by_entries cs (items_in d)) cs (get (codes "annotations") v)
sent (p.SubmodelElementList o s t u) cs v = in_turn cs (items_in v)
sent x cs v = nothing_sent cs

-- ---- what may be sent

-- the form of e: what its own attributes make with its children, for each of which anything may stand
abbrev pub form_at : Element → Form
form_at e = form_of (out-Element e).payload (map part_of (kids_of e))

-- v has d for k, the child of e that comes after n others
pub record IsSentFor (e : Element) (v : Data) (n : ℕ) (k : Element) (d : Data) : Type 0 where
  pub child : slice_get (kids_of e) n ≡ Some k
  pub value : slice_get (sent (out-Element e).payload (children (map part_of (kids_of e))) v) n ≡ Some (Some d)

-- v may be sent for e: it fits the form of e, and what it has for a child may be sent for the child
pub data HasShape : Element → Data → Type 0 where
  shaped : (e : Element) (v : Data) → fits_form (form_at e) v ≡ true
      → ((n : ℕ) (k : Element) (d : Data) → IsSentFor e v n k d → HasShape k d) → HasShape e v

-- q leads from e to the first element for which v has something that doesn't fit the form of this element
pub data IsFirstMisfit : Element → Data → List PathStep → Type 0 where
  -- e itself
  at_itself : (e : Element) (v : Data) → fits_form (form_at e) v ≡ false → IsFirstMisfit e v []
  -- within a child, where v fits the form of e, and what it has for the children before may be sent for them
  in_child : (e : Element) (v : Data) (n : ℕ) (k : Element) (d : Data) (q : List PathStep)
      → fits_form (form_at e) v ≡ true
      → ((m : ℕ) (j : Element) (w : Data) → m < n → IsSentFor e v m j w → HasShape j w)
      → IsSentFor e v n k d → IsFirstMisfit k d q → IsFirstMisfit e v (step_to (Some (own_of e)) n (own_of k) ∷ q)

-- ---- the walk that finds it

-- a child, as its parent sees it
pub record Sendable : Type 0 where
  pub part : Part
  pub own : Own
  pub misshapen : Data → Option (List PathStep)

-- the first in the children that come after n siblings
abbrev pub among : Own → ℕ → List Sendable → List (Option Data) → Option (List PathStep)
among o n [] vs = None
among o n (k ∷ ks) [] = None
among o n (k ∷ ks) (None ∷ vs) = among o (n + 1) ks vs
among o n (k ∷ ks) (Some v ∷ vs) =
    first_of (option_map (λ q. step_to (Some o) n k.own ∷ q) (k.misshapen v)) (among o (n + 1) ks vs)

abbrev pub misshapen_over : Own → List Sendable → Data → Option (List PathStep)
misshapen_over o ks v =
    if fits_form (form_of o.payload (map (λ k. k.part) ks)) v
    then among o 0 ks (sent o.payload (children (map (λ k. k.part) ks)) v)
    else Some []

abbrev pub sendable_over : Element-F Sendable → Sendable
sendable_over e =
    let o : Own = record { common = e.common; payload = e.payload; role = e.role } in
    record {
      part = child_part e.common.id_short (form_of e.payload (map (λ k. k.part) e.kids));
      own = o;
      misshapen = misshapen_over o e.kids;
    }

unfoldable pub sendable : Element → Sendable
sendable = fold-Element Sendable sendable_over

-- the path, from e on, of the first element whose own part of v is wrong
abbrev pub first_misshapen : Element → Data → Option (List PathStep)
first_misshapen e = (sendable e).misshapen
