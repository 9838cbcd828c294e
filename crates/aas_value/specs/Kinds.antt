-- The parts of each kind's value form (IDTA-01001-3-0, the value-only serialisation in JSON): the value form, which
-- values may be sent, and how they are laid over it follow from them. Which members are always there, what is written
-- as null, and which values are written natively are this profile's own rules: all named members are there, also where
-- the attribute is absent.
use Rattle.std.specs.Prelude.{ℕ, Bool, List, [], ◌∷◌, codes, Option, Some}
use Rattle.serde_json.specs.Data.{Data}
use Rattle.aas_json_mapping.specs.Parts.{spell_specific_asset_id}
use Rattle.aas_model_names.specs.declared.modifiers.Extent.{Extent}
use Rattle.aas_model_names.specs.declared.modifiers.Extent.TheVariants as extent
use Rattle.aas_model.specs.declared.payload.Payload.{Payload}
use Rattle.aas_model.specs.declared.payload.Payload.TheVariants as p
use Rattle.aas_value.specs.Single.{single}
use Rattle.aas_value.specs.Attributes.{array_of, language_value, text_or_null, reference_or_null, entity_type_or_null}
use Rattle.aas_value.specs.Json.{is_single, is_string, is_string_or_null, is_language, is_array_of}
use Rattle.aas_value.specs.Json.{is_reference, is_reference_or_null, is_specific_asset_id, is_entity_type}
use Rattle.aas_value.specs.Parts.{Part, Form, nothing, whole, object_of, list_of, entries_of, value, later}
use Rattle.aas_value.specs.Parts.{lay_form, fits_form}

-- an attribute: its name, its value, and what may be sent for it
abbrev pub own : List ℕ → Data → (Data → Bool) → Part
own n d test = record { child = record { name = Some n; form = Some d }; fits = test; lay = later }

-- a form under a name
abbrev pub part : Option (List ℕ) → Form → Part
part n f = record { child = record { name = n; form = value f }; fits = fits_form f; lay = lay_form f }

-- by the attributes of the kind and the children; a Blob's value is a part only where it is asked for
abbrev pub form_of : Extent → Payload → List Part → Form
form_of x (p.Property t v i) kids = whole (own [] (single t v) (is_single t))
form_of x (p.MultiLanguageProperty v i) kids = whole (own [] (array_of language_value v) (is_array_of is_language))
form_of x (p.Range t min max) kids =
    object_of (own (codes "max") (single t max) (is_single t)
    ∷ own (codes "min") (single t min) (is_single t) ∷ [])
form_of x (p.File t v) kids =
    object_of (own (codes "contentType") (text_or_null t) is_string
    ∷ own (codes "value") (text_or_null v) is_string_or_null ∷ [])
form_of extent.WithBlobValue (p.Blob t v) kids =
    object_of (own (codes "contentType") (text_or_null t) is_string
    ∷ own (codes "value") (text_or_null v) is_string_or_null ∷ [])
form_of extent.WithoutBlobValue (p.Blob t v) kids =
    object_of (own (codes "contentType") (text_or_null t) is_string ∷ [])
form_of x (p.ReferenceElement v) kids = whole (own [] (reference_or_null v) is_reference_or_null)
form_of x (p.RelationshipElement first second) kids =
    object_of (own (codes "first") (reference_or_null first) is_reference
    ∷ own (codes "second") (reference_or_null second) is_reference ∷ [])
form_of x (p.AnnotatedRelationshipElement first second) kids =
    object_of (part (Some (codes "annotations")) (entries_of kids)
    ∷ own (codes "first") (reference_or_null first) is_reference
    ∷ own (codes "second") (reference_or_null second) is_reference ∷ [])
form_of x (p.Entity t g ids) kids =
    object_of (own (codes "entityType") (entity_type_or_null t) is_entity_type
    ∷ own (codes "globalAssetId") (text_or_null g) is_string_or_null
    ∷ own (codes "specificAssetIds") (array_of spell_specific_asset_id ids) (is_array_of is_specific_asset_id)
    ∷ part (Some (codes "statements")) (object_of kids) ∷ [])
form_of x (p.BasicEventElement observed d s topic broker last min max) kids =
    object_of (own (codes "observed") (reference_or_null observed) is_reference ∷ [])
form_of x p.Capability kids = nothing
form_of x p.Operation kids = nothing
form_of x p.SubmodelElementCollection kids = object_of kids
form_of x (p.SubmodelElementList o s t v) kids = list_of kids
