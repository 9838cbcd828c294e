-- The attributes of class V, by the attribute table.
use Rattle.std.specs.Prelude.{◌≡◌, List, [], Option, None, unwrap_or}
use Rattle.std.specs.List.{AllByRecursion}
use Rattle.serde_json.specs.Data.{Data}
use Rattle.aas_json_table.specs.Rows.{find}
use Rattle.aas_json_table.specs.Spelled.{attribute}
use Rattle.aas_json_table.specs.Table.{Class, m, v, Row, kinds}
use Rattle.aas_json_mapping.specs.Elements.{model_type_of, own_attributes}
use Rattle.aas_model.specs.Payload.{kind_of}
use Rattle.aas_model.specs.declared.payload.Payload.{Payload}

-- the rows of a kind's own members
abbrev pub own_rows : Payload → List Row
own_rows p = unwrap_or (find (model_type_of p) kinds) []

-- how an attribute of a kind's own is spelled; there are no children
abbrev pub own_attribute : Payload → Row → Option Data
own_attribute p r = attribute (own_attributes p []) r.name r.member_type

abbrev pub without_class_v : Class → Option Data → Option Data
without_class_v m attribute = attribute
without_class_v v attribute = None

-- w is p without its attributes of class V: it is of the same kind, and has of p's own attributes those of class M
pub record IsWithoutValues (w p : Payload) : Type 0 where
  pub kind : kind_of w ≡ kind_of p
  pub attributes : AllByRecursion (λ r. own_attribute w r ≡ without_class_v r.class (own_attribute p r)) (own_rows p)
