-- The attributes of HasSemantics among the members of an object, by a function from a name and a type to what the member says.
use Rattle.std.specs.Prelude.{◌≡◌, ℕ, List, codes, Option, option_map}
use Rattle.serde_json.specs.Data.{Data}
use Rattle.aas_json_table.specs.Table.{MemberType, one, many, reference}
use Rattle.aas_json_table.specs.Spelled.{list_of}
use Rattle.aas_reference.specs.Spelling.{spell_reference}
use Rattle.aas_model.specs.declared.reference.Semantics.{Semantics}

pub record FindsSemantics (find : List ℕ → MemberType → Option Data) (s : Semantics) : Type 0 where
  pub semantic_id : option_map spell_reference s.semantic_id ≡ find (codes "semanticId") (one reference)
  pub supplemental : list_of spell_reference s.supplemental_semantic_ids ≡ find (codes "supplementalSemanticIds") (many reference)
