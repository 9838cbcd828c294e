-- Members of an object that are put one after another, in byte order of their names.
use Rattle.std.specs.Prelude.{◌≡◌, ℕ, List, [], ◌∷◌, false, map, Option, option_map}
use Rattle.serde_json.specs.Data.{Data}
use Rattle.serde_json.specs.Written.{compact_text}
use Rattle.aas_json_mapping.specs.Elements.{element_attributes, own_attributes}
use Rattle.aas_json_table.specs.Spelled.{attribute}
use Rattle.aas_json_table.specs.Table.{MemberType, Row, text}
use Rattle.aas_model.specs.declared.common.Common.{Common}
use Rattle.aas_model.specs.declared.payload.Payload.{Payload}
use Rattle.aas_json_write_members.specs.Members.{Field, fields_text, later_after}
use Rattle.aas_json_write_members.specs.declared.members.Pen.{Pen}
use Rattle.aas_out.specs.Adds.{Adds}
use Rattle.aas_out.specs.Told.{Told}
use Rattle.aas_out.specs.declared.pouring.Pouring.{Pouring}

-- ---- what is put

-- the members of rows, each as get finds it
abbrev pub fields_by : List Row → (List ℕ → MemberType → Option Data) → List Field
fields_by rows get = map (λ r. (r.name, option_map compact_text (get r.name r.member_type))) rows

-- the members of an element that have these names, without children
abbrev pub element_fields : Common → Payload → List (List ℕ) → List Field
element_fields c x ns = map (λ n. (n, option_map compact_text (attribute (element_attributes c x []) n text))) ns

-- those of a kind's own
abbrev pub own_fields : Payload → List (List ℕ) → List Field
own_fields x ns = map (λ n. (n, option_map compact_text (attribute (own_attributes x []) n text))) ns

-- ---- what a call adds

-- Those of some members that are there were put, behind others.
pub record PutsFields {Kept : Type 0} (old new : Pen) (told told_after : Told Kept) (fields : List Field) : Type 0 where
  pub text : Adds old.state new.state told told_after (fields_text old.later fields)
  pub later : new.later ≡ later_after old.later fields

-- An object was begun, and those of some members that are there were put in it.
pub record BeginsObject {Kept : Type 0} (so_far : Pouring) (new : Pen)
    (told told_after : Told Kept) (fields : List Field) : Type 0 where
  pub text : Adds so_far new.state told told_after (123 ∷ fields_text false fields)
  pub later : new.later ≡ later_after false fields
