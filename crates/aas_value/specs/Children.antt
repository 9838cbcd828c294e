-- Values under names and in arrays, as the value form has them of children (IDTA-01001-3-0, the value-only
-- serialisation in JSON).
use Rattle.std.specs.Prelude.{ℕ, List, [], ◌∷◌, Option, Some, option_map}
use Rattle.std.specs.Str.{encode_utf8_all}
use Rattle.std.specs.List.{filter_map}
use Rattle.serde_json.specs.Data.{Data, array, object, no_items, Members, no_members, put}
use Rattle.aas_json_table.specs.Spelled.{onto}

-- a child: its idShort, and its value form where it has one
pub record Child : Type 0 where
  pub name : Option (List ℕ)
  pub form : Option Data

-- a child under its name, where it has a name and a value form
abbrev pub put_child : Option (List ℕ) → Option Data → Members → Members
put_child (Some n) (Some d) ms = put (encode_utf8_all n) d ms
put_child n d ms = ms

-- the children under their names, one after another onto members
abbrev pub put_children : List Child → Members → Members
put_children [] ms = ms
put_children (c ∷ cs) ms = put_children cs (put_child c.name c.form ms)

abbrev pub named : List Child → Data
named cs = object (put_children cs no_members)

-- an array with the value forms of the children that have one, in order
abbrev pub forms_of : List Child → List Data
forms_of cs = filter_map (λ c. c.form) cs

abbrev pub in_order : List Child → Data
in_order cs = array (onto (forms_of cs) no_items)

-- {idShort: value form}
abbrev pub annotation_value : Child → Child
annotation_value c = record c { form = option_map (λ d. named (c ∷ [])) c.form }
