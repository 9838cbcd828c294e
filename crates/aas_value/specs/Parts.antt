-- A value form as it is put together from parts, each with a name and a value of its own; what may be sent for it, and
-- how one value is laid over another. An update of values (IDTA-01002-3-0) sends parts of a form: what is left out
-- stays. This profile's own rule.
use Rattle.std.specs.Prelude.{ℕ, Bool, true, false, ◌&&◌, if◌then◌else◌, List, [], ◌∷◌, map, bytes_eq, Option, Some}
use Rattle.std.specs.Prelude.{None, is_some}
use Rattle.std.specs.Str.{encode_utf8_all}
use Rattle.serde_json.specs.Data.{Data, array, object, put, Items, no_items, item, Members, no_members, member}
use Rattle.serde_json.specs.Find.{get_member}
use Rattle.aas_value.specs.Children.{Child, named, in_order, annotation_value}

-- a part of a value form: its name and its value, which values may be sent for it, and how a value is laid over another
pub record Part : Type 0 where
  pub child : Child
  pub fits : Data → Bool
  pub lay : Data → Data → Data

-- how the value form of a kind is put together
pub data Form : Type 0 where
  nothing : Form
  -- one value, sent as a whole
  whole : Part → Form
  -- an object of the parts by their names
  object_of : List Part → Form
  -- an array of the parts in order
  list_of : List Part → Form
  -- an array of {name: part} in order
  entries_of : List Part → Form

-- ---- parts by name

abbrev pub name_is : List ℕ → Option (List ℕ) → Bool
name_is n None = false
name_is n (Some m) = bytes_eq n (encode_utf8_all m)

-- n is the name of a member for the part
abbrev pub is_called : List ℕ → Child → Bool
is_called n c = name_is n c.name && is_some c.form

-- what the part of a name has, or else something other; of parts with one name the last counts
abbrev pub by_name : {X : Type 0} → List ℕ → (Part → X) → List Part → X → X
by_name n f [] other = other
by_name n f (x ∷ xs) other = by_name n f xs (if is_called n x.child then f x else other)

-- ---- the value form itself

abbrev pub children : List Part → List Child
children xs = map (λ x. x.child) xs

abbrev pub value : Form → Option Data
value nothing = None
value (whole x) = x.child.form
value (object_of xs) = Some (named (children xs))
value (list_of xs) = Some (in_order (children xs))
value (entries_of xs) = Some (in_order (map annotation_value (children xs)))

-- ---- laying

abbrev pub later : Data → Data → Data
later w v = v

-- what is laid over what, where either may be left out
abbrev pub over : (Data → Data → Data) → Option Data → Option Data → Option Data
over f w None = w
over f None (Some v) = Some v
over f (Some w) (Some v) = Some (f w v)

abbrev pub over_one : (Data → Data → Data) → Option Data → Data → Data
over_one f None v = v
over_one f (Some w) v = f w v

-- the members of both; where both have a member, that of the part of its name laid, or else the later one
abbrev pub laid : List Part → Members → Members → Members
laid xs ws no_members = ws
laid xs ws (member n v vs) = put n (over_one (by_name n (λ x. x.lay) xs later) (get_member n ws) v) (laid xs ws vs)

abbrev pub laid_item : (Data → Data → Data) → (Items → Items → Items) → Items → Items → Items
laid_item f more (item w ws) (item v vs) = item (f w v) (more ws vs)
laid_item f more ws vs = vs

-- item by item; a part without a value has no place
abbrev pub laid_items : List Part → Items → Items → Items
laid_items [] ws vs = vs
laid_items (x ∷ xs) ws vs = if is_some x.child.form then laid_item x.lay (laid_items xs) ws vs else laid_items xs ws vs

-- what stands for a part at the front of entries, and the entries behind it
abbrev pub entry : Child → Items → Option Data × Items
entry c (item (object (member n d no_members)) ds) =
    if is_called n c then (Some d, ds) else (None, item (object (member n d no_members)) ds)
entry c ds = (None, ds)

abbrev pub put_entry : Child → Option Data → Items → Items
put_entry c None ds = ds
put_entry c (Some d) ds = item (named (record c { form = Some d } ∷ [])) ds

-- the entries of both, those of one part laid, in the order of the parts
abbrev pub laid_entries : List Part → Items → Items → Items
laid_entries [] ws vs = no_items
laid_entries (x ∷ xs) ws vs =
    let w = entry x.child ws in
    let v = entry x.child vs in
    put_entry x.child (over x.lay w.0 v.0) (laid_entries xs w.1 v.1)

-- v laid over w
abbrev pub lay_form : Form → Data → Data → Data
lay_form (object_of xs) (object ws) (object vs) = object (laid xs ws vs)
lay_form (list_of xs) (array ws) (array vs) = array (laid_items xs ws vs)
lay_form (entries_of xs) (array ws) (array vs) = array (laid_entries xs ws vs)
lay_form f w v = v

-- ---- what may be sent

-- only members of parts, any of which may be left out, and each fits
abbrev pub members_fit : List Part → Members → Bool
members_fit xs no_members = true
members_fit xs (member n d ms) = by_name n (λ x. x.fits) xs (λ d. false) d && members_fit xs ms

-- exactly one item for each part that has a value, and each fits
abbrev pub item_fits : (Data → Bool) → (Items → Bool) → Items → Bool
item_fits test more no_items = false
item_fits test more (item d ds) = test d && more ds

abbrev pub is_empty : Items → Bool
is_empty no_items = true
is_empty (item d ds) = false

abbrev pub items_fit : List Part → Items → Bool
items_fit [] ds = is_empty ds
items_fit (x ∷ xs) ds = if is_some x.child.form then item_fits x.fits (items_fit xs) ds else items_fit xs ds

abbrev pub fits_if : (Data → Bool) → Option Data → Bool
fits_if test None = true
fits_if test (Some d) = test d

-- objects of one member, whose names are those of parts in the order of the parts, and each fits
abbrev pub entries_fit : List Part → Items → Bool
entries_fit [] ds = is_empty ds
entries_fit (x ∷ xs) ds = let e = entry x.child ds in fits_if x.fits e.0 && entries_fit xs e.1

abbrev pub fits_form : Form → Data → Bool
fits_form nothing v = false
fits_form (whole x) v = x.fits v
fits_form (object_of xs) (object ms) = members_fit xs ms
fits_form (list_of xs) (array ds) = items_fit xs ds
fits_form (entries_of xs) (array ds) = entries_fit xs ds
fits_form f v = false
