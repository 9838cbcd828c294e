-- How references are spelled in JSON (IDTA-01001-3-0, classes Reference and Key).
use Rattle.std.specs.Prelude.{[], ◌∷◌, codes, Some}
use Rattle.serde_json.specs.Data.{Data, string}
use Rattle.aas_model_names.specs.KeyTypeNames as key_type
use Rattle.aas_model_names.specs.ReferenceTypeNames as reference_type
use Rattle.aas_json_table.specs.Table.{parts, reference, key}
use Rattle.aas_json_table.specs.Spelled.{Attributes, spelled, text_of, list_of}
use Rattle.aas_model.specs.declared.reference.Key.{Key}
use Rattle.aas_model.specs.declared.reference.Reference.{Reference, fold-Reference}
use Rattle.aas_model.specs.declared.reference.Reference.TheOpen.{Reference-F}

abbrev pub key_attributes : Key → Attributes
key_attributes k =
    (codes "type", Some (string (key_type.name_of k.key_type)))
    ∷ (codes "value", Some (text_of k.value))
    ∷ []

abbrev pub spell_key : Key → Data
spell_key k = spelled (parts key) (key_attributes k)

-- one level of a reference, with the one within it already spelled
abbrev pub reference_attributes : Reference-F Data → Attributes
reference_attributes r =
    (codes "type", Some (string (reference_type.name_of r.ref_type)))
    ∷ (codes "keys", list_of spell_key r.keys)
    ∷ (codes "referredSemanticId", r.referred)
    ∷ []

abbrev pub spell_reference : Reference → Data
spell_reference = fold-Reference Data (λ r. spelled (parts reference) (reference_attributes r))
