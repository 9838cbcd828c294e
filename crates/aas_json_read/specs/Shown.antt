-- What the metadata form of an element has of its kind's own (IDTA-01002-3-0, content modifier Metadata).
use Rattle.std.specs.Prelude.{◌≡◌, ℕ, List, [], Option, Some, unwrap_or}
use Rattle.serde_json.specs.Data.{Data}
use Rattle.aas_model_names.specs.KindNames.{name_of}
use Rattle.aas_model_names.specs.declared.kind.Kind.{Kind}
use Rattle.aas_json_table.specs.Table.{MemberType, Row, kinds, shown}
use Rattle.aas_json_table.specs.Rows.{find, sorted}
use Rattle.aas_json_table.specs.Canonical.{canonical_object}
use Rattle.aas_json_table.specs.Spelled.{spelled}
use Rattle.aas_json_mapping.specs.Elements.{own_attributes}
use Rattle.aas_json_mapping.specs.Metadata.{without_values}
use Rattle.aas_model.specs.Payload.{kind_of}
use Rattle.aas_model.specs.declared.payload.Payload.{Payload}

-- the rows of a kind's own attributes that are shown
abbrev pub shown_rows : Kind → List Row
shown_rows k = shown (unwrap_or (find (name_of k) kinds) [])

abbrev pub spell_shown : Payload → Data
spell_shown p = spelled (shown_rows (kind_of p)) (own_attributes p [])

-- what an object says by those rows
abbrev pub canonical_shown : Kind → (List ℕ → MemberType → Option Data) → Option Data
canonical_shown k find = canonical_object (Some (sorted (shown_rows k))) find

-- attributes of a kind, without values
pub record IsShown (k : Kind) (x : Payload) : Type 0 where
  pub kind : kind_of x ≡ k
  pub bare : without_values x ≡ x
