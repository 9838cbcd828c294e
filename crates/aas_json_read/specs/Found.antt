-- What is found among the members of an object, by a function from a name and a type to what the member says.
use Rattle.std.specs.Prelude.{◌≡◌, ℕ, List, codes, Option, Some, option_map}
use Rattle.serde_json.specs.Data.{Data}
use Rattle.aas_json_table.specs.Table.{MemberType, text, kept, one, many, lang_text, extension, qualifier, administration}
use Rattle.aas_json_table.specs.Spelled.{text_of, list_of}
use Rattle.aas_json_spelling.specs.Kept.{spell_plain}
use Rattle.aas_json_mapping.specs.Parts.{spell_lang_text, spell_extension, spell_qualifier, spell_administration}
use Rattle.aas_json_parts.specs.Semantics.{FindsSemantics}
use Rattle.aas_model.specs.declared.common.Common.{Common}
use Rattle.aas_model.specs.declared.common.Head.{Head}

-- the attributes of every SubmodelElement
pub record FindsCommon (find : List ℕ → MemberType → Option Data) (c : Common) : Type 0 where
  pub category : option_map text_of c.category ≡ find (codes "category") text
  pub description : list_of spell_lang_text c.description ≡ find (codes "description") (many lang_text)
  pub display_name : list_of spell_lang_text c.display_name ≡ find (codes "displayName") (many lang_text)
  pub extensions : list_of spell_extension c.extensions ≡ find (codes "extensions") (many extension)
  pub id_short : option_map text_of c.id_short ≡ find (codes "idShort") text
  pub specifications : list_of spell_plain c.embedded_data_specifications ≡ find (codes "embeddedDataSpecifications") kept
  pub qualifiers : list_of spell_qualifier c.qualifiers ≡ find (codes "qualifiers") (many qualifier)
  pub semantics : FindsSemantics find c.semantics

-- the attributes of every document
pub record FindsHead (find : List ℕ → MemberType → Option Data) (h : Head) : Type 0 where
  pub id : Some (text_of h.id) ≡ find (codes "id") text
  pub administration : option_map spell_administration h.administration ≡ find (codes "administration") (one administration)
  pub category : option_map text_of h.category ≡ find (codes "category") text
  pub description : list_of spell_lang_text h.description ≡ find (codes "description") (many lang_text)
  pub display_name : list_of spell_lang_text h.display_name ≡ find (codes "displayName") (many lang_text)
  pub extensions : list_of spell_extension h.extensions ≡ find (codes "extensions") (many extension)
  pub id_short : option_map text_of h.id_short ≡ find (codes "idShort") text
  pub specifications : list_of spell_plain h.embedded_data_specifications ≡ find (codes "embeddedDataSpecifications") kept
