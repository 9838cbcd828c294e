-- Values that leave nothing out of a value form: an update of values (IDTA-01002-3-0) sends parts of a form, and may
-- send them all. This profile's own rule.
use Rattle.std.specs.Prelude.{◌≡◌, ◌&&◌, Bool, true, List, [], ◌∷◌, map, Option, Some, None, is_some, is_none}
use Rattle.std.specs.List.{list_all}
use Rattle.serde_json.specs.Data.{Data}
use Rattle.aas_model.specs.declared.element.Element.{Element, fold-Element}
use Rattle.aas_model.specs.declared.element.Element.TheOpen.{Element-F}
use Rattle.aas_value_update.specs.Forms.{form_of}
use Rattle.aas_value.specs.ValueForm.{child_part}
use Rattle.aas_value.specs.Parts.{Part, Form, object_of, children}
use Rattle.aas_value_update.specs.Shape.{under_name, sent}

-- each attribute has its member
abbrev pub has_attributes : Form → Data → Bool
has_attributes (object_of xs) v = list_all (λ x. is_some (under_name v x.child)) xs
has_attributes f v = true

-- a child, as its parent sees it
pub record Full : Type 0 where
  pub part : Part
  pub has_all : Data → Bool

-- something is sent for the child, if it has a value, and leaves nothing out
abbrev pub one_has_all : Full → Option Data → Bool
one_has_all k None = is_none k.part.child.form
one_has_all k (Some v) = k.has_all v

abbrev pub each_has_all : List Full → List (Option Data) → Bool
each_has_all (k ∷ ks) (s ∷ ss) = one_has_all k s && each_has_all ks ss
each_has_all ks ss = true

-- each attribute of the element has its member, and what is sent for its children leaves nothing out
abbrev pub full_over : Element-F Full → Full
full_over e =
    let xs = map (λ k. k.part) e.kids in
    record {
      part = child_part e.common.id_short (form_of e.payload xs);
      has_all = λ v. has_attributes (form_of e.payload []) v && each_has_all e.kids (sent e.payload (children xs) v);
    }

unfoldable pub full : Element → Full
full = fold-Element Full full_over

-- each attribute, and each child with a value, has its member, item or entry in v, at every level
abbrev pub HasAllMembers : Element → Data → Type 0
HasAllMembers e v = (full e).has_all v ≡ true
