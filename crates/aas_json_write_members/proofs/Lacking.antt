-- Members that a kind doesn't have, and a Blob's value.
use Rattle.std.proofs.Common.{◌≡◌, ℕ, Bool, true, false, List, [], ◌∷◌, map, Option, None, option_map, codes}
use Rattle.std.proofs.Common.{if◌then◌else◌, refl, sym, ap, ◌∙◌, subst}
use Rattle.serde_json.specs.Written.{compact_text}
use Rattle.aas_json_table.specs.Spelled.{text_of}
use Rattle.aas_model_names.specs.declared.enumerations.Direction.{Direction}
use Rattle.aas_model_names.specs.declared.kind.ElementName.{ElementName}
use Rattle.aas_model_names.specs.declared.enumerations.EntityType.{EntityType}
use Rattle.aas_model_names.specs.declared.enumerations.StateOfEvent.{StateOfEvent}
use Rattle.aas_model_names.specs.declared.value_type.ValueType.{ValueType}
use Rattle.aas_model.specs.declared.parts.LangText.{LangText}
use Rattle.aas_model.specs.declared.parts.SpecificAssetId.{SpecificAssetId}
use Rattle.aas_model.specs.declared.payload.Payload.{Payload}
use Rattle.aas_model.specs.declared.payload.Payload.TheVariants as p
use Rattle.aas_model.specs.declared.reference.Reference.{Reference}
use Rattle.aas_json_write_members.specs.Members.{Field, shown_payload}
use Rattle.aas_json_write_members.specs.Puts.{PutsFields, own_fields}
use Rattle.aas_json_write_members.specs.declared.members.Pen.{Pen}
use Rattle.aas_out.specs.Told.{Told}

-- no value for any of these names
abbrev pub nothing_of : List (List ℕ) → List Field
nothing_of ns = map (λ n. (n, None)) ns

pub no_content_type : (x : Payload) → ((a : Option (List ℕ)) (b : Option (List ℕ)) → x ≡ p.File a b → ⊥)
    → ((a : Option (List ℕ)) (b : Option (List ℕ)) → x ≡ p.Blob a b → ⊥)
    → own_fields x (codes "contentType" ∷ []) ≡ nothing_of (codes "contentType" ∷ [])
no_content_type (p.File a b) file blob = absurd (file a b refl)
no_content_type (p.Blob a b) file blob = absurd (blob a b refl)
no_content_type x file blob = refl

pub no_direction : (x : Payload)
    → ((a : Option Reference) (b : Direction) (c : StateOfEvent) (d : Option (List ℕ))
    (e : Option Reference) (f : Option (List ℕ)) (g : Option (List ℕ)) (h : Option (List ℕ))
    → x ≡ p.BasicEventElement a b c d e f g h → ⊥)
    → own_fields x (codes "direction" ∷ []) ≡ nothing_of (codes "direction" ∷ [])
no_direction (p.BasicEventElement a b c d e f g h) event = absurd (event a b c d e f g h refl)
no_direction x event = refl

pub no_entity_type : (x : Payload)
    → ((a : Option EntityType) (b : Option (List ℕ)) (c : List SpecificAssetId) → x ≡ p.Entity a b c → ⊥)
    → own_fields x (codes "entityType" ∷ []) ≡ nothing_of (codes "entityType" ∷ [])
no_entity_type (p.Entity a b c) entity = absurd (entity a b c refl)
no_entity_type x entity = refl

pub no_first : (x : Payload) → ((a : Option Reference) (b : Option Reference) → x ≡ p.RelationshipElement a b → ⊥)
    → ((a : Option Reference) (b : Option Reference) → x ≡ p.AnnotatedRelationshipElement a b → ⊥)
    → ((a : Option EntityType) (b : Option (List ℕ)) (c : List SpecificAssetId) → x ≡ p.Entity a b c → ⊥)
    → own_fields x (codes "first" ∷ codes "globalAssetId" ∷ [])
    ≡ nothing_of (codes "first" ∷ codes "globalAssetId" ∷ [])
no_first (p.RelationshipElement a b) relationship annotated entity = absurd (relationship a b refl)
no_first (p.AnnotatedRelationshipElement a b) relationship annotated entity = absurd (annotated a b refl)
no_first (p.Entity a b c) relationship annotated entity = absurd (entity a b c refl)
no_first x relationship annotated entity = refl

pub no_before_model_type : (x : Payload)
    → ((a : Option Reference) (b : Direction) (c : StateOfEvent) (d : Option (List ℕ))
    (e : Option Reference) (f : Option (List ℕ)) (g : Option (List ℕ)) (h : Option (List ℕ))
    → x ≡ p.BasicEventElement a b c d e f g h → ⊥)
    → ((a : ValueType) (b : Option (List ℕ)) (c : Option (List ℕ)) → x ≡ p.Range a b c → ⊥)
    → own_fields x (codes "lastUpdate" ∷ codes "max" ∷ codes "maxInterval"
    ∷ codes "messageBroker" ∷ codes "messageTopic" ∷ codes "min" ∷ codes "minInterval" ∷ [])
    ≡ nothing_of (codes "lastUpdate" ∷ codes "max" ∷ codes "maxInterval"
    ∷ codes "messageBroker" ∷ codes "messageTopic" ∷ codes "min" ∷ codes "minInterval" ∷ [])
no_before_model_type (p.BasicEventElement a b c d e f g h) event range = absurd (event a b c d e f g h refl)
no_before_model_type (p.Range a b c) event range = absurd (range a b c refl)
no_before_model_type x event range = refl

pub no_before_qualifiers : (x : Payload)
    → ((a : Option Reference) (b : Direction) (c : StateOfEvent) (d : Option (List ℕ))
    (e : Option Reference) (f : Option (List ℕ)) (g : Option (List ℕ)) (h : Option (List ℕ))
    → x ≡ p.BasicEventElement a b c d e f g h → ⊥)
    → ((a : Option Bool) (b : Option Reference) (c : ElementName) (d : Option ValueType)
    → x ≡ p.SubmodelElementList a b c d → ⊥)
    → own_fields x (codes "observed" ∷ codes "orderRelevant" ∷ [])
    ≡ nothing_of (codes "observed" ∷ codes "orderRelevant" ∷ [])
no_before_qualifiers (p.BasicEventElement a b c d e f g h) event list = absurd (event a b c d e f g h refl)
no_before_qualifiers (p.SubmodelElementList a b c d) event list = absurd (list a b c d refl)
no_before_qualifiers x event list = refl

pub no_second : (x : Payload) → ((a : Option Reference) (b : Option Reference) → x ≡ p.RelationshipElement a b → ⊥)
    → ((a : Option Reference) (b : Option Reference) → x ≡ p.AnnotatedRelationshipElement a b → ⊥)
    → own_fields x (codes "second" ∷ []) ≡ nothing_of (codes "second" ∷ [])
no_second (p.RelationshipElement a b) relationship annotated = absurd (relationship a b refl)
no_second (p.AnnotatedRelationshipElement a b) relationship annotated = absurd (annotated a b refl)
no_second x relationship annotated = refl

pub no_behind_semantic_id : (x : Payload)
    → ((a : Option Bool) (b : Option Reference) (c : ElementName) (d : Option ValueType)
    → x ≡ p.SubmodelElementList a b c d → ⊥)
    → ((a : Option EntityType) (b : Option (List ℕ)) (c : List SpecificAssetId) → x ≡ p.Entity a b c → ⊥)
    → ((a : Option Reference) (b : Direction) (c : StateOfEvent) (d : Option (List ℕ))
    (e : Option Reference) (f : Option (List ℕ)) (g : Option (List ℕ)) (h : Option (List ℕ))
    → x ≡ p.BasicEventElement a b c d e f g h → ⊥)
    → own_fields x (codes "semanticIdListElement" ∷ codes "specificAssetIds" ∷ codes "state" ∷ [])
    ≡ nothing_of (codes "semanticIdListElement" ∷ codes "specificAssetIds" ∷ codes "state" ∷ [])
no_behind_semantic_id (p.SubmodelElementList a b c d) list entity event = absurd (list a b c d refl)
no_behind_semantic_id (p.Entity a b c) list entity event = absurd (entity a b c refl)
no_behind_semantic_id (p.BasicEventElement a b c d e f g h) list entity event = absurd (event a b c d e f g h refl)
no_behind_semantic_id x list entity event = refl

pub no_list_type : (x : Payload)
    → ((a : Option Bool) (b : Option Reference) (c : ElementName) (d : Option ValueType)
    → x ≡ p.SubmodelElementList a b c d → ⊥)
    → own_fields x (codes "typeValueListElement" ∷ []) ≡ nothing_of (codes "typeValueListElement" ∷ [])
no_list_type (p.SubmodelElementList a b c d) list = absurd (list a b c d refl)
no_list_type x list = refl

-- ---- the value, as it is shown

abbrev pub is_blob : Payload → Bool
is_blob (p.Blob t v) = true
is_blob x = false

pub shown_unless : (b : Bool) (x : Payload) → is_blob x ≡ false → shown_payload b x ≡ x
shown_unless true x h = refl
shown_unless false (p.Blob t v) h = absurd (cc)
shown_unless false x h = refl

pub no_value : (x : Payload) (b : Bool)
    → ((a : ValueType) (b : Option (List ℕ)) (c : Option Reference) → x ≡ p.Property a b c → ⊥)
    → ((a : List LangText) (b : Option Reference) → x ≡ p.MultiLanguageProperty a b → ⊥)
    → ((a : ValueType) (b : Option (List ℕ)) (c : Option (List ℕ)) → x ≡ p.Range a b c → ⊥)
    → ((a : Option (List ℕ)) (b : Option (List ℕ)) → x ≡ p.File a b → ⊥)
    → ((a : Option (List ℕ)) (b : Option (List ℕ)) → x ≡ p.Blob a b → ⊥)
    → ((a : Option Reference) → x ≡ p.ReferenceElement a → ⊥)
    → ((a : Option Bool) (b : Option Reference) (c : ElementName) (d : Option ValueType)
    → x ≡ p.SubmodelElementList a b c d → ⊥)
    → own_fields (shown_payload b x)
    (codes "value" ∷ codes "valueId" ∷ codes "valueType" ∷ codes "valueTypeListElement" ∷ [])
    ≡ nothing_of (codes "value" ∷ codes "valueId" ∷ codes "valueType" ∷ codes "valueTypeListElement" ∷ [])
no_value (p.Property a c d) b property languages range file blob reference list = absurd (property a c d refl)
no_value (p.MultiLanguageProperty a c) b property languages range file blob reference list = absurd (languages a c refl)
no_value (p.Range a c d) b property languages range file blob reference list = absurd (range a c d refl)
no_value (p.File a c) b property languages range file blob reference list = absurd (file a c refl)
no_value (p.Blob a c) b property languages range file blob reference list = absurd (blob a c refl)
no_value (p.ReferenceElement a) b property languages range file blob reference list = absurd (reference a refl)
no_value (p.SubmodelElementList a c d e) b property languages range file blob reference list =
    absurd (list a c d e refl)
no_value x true property languages range file blob reference list = refl
no_value x false property languages range file blob reference list = refl

-- the value of a kind that is no Blob
pub put_shown : {K : Type 0} {q r : Pen} {a b : Told K} (blobs : Bool) (x : Payload) {y : Payload} (ns : List (List ℕ))
    → x ≡ y → is_blob y ≡ false → PutsFields q r a b (own_fields y ns)
    → PutsFields q r a b (own_fields (shown_payload blobs x) ns)
put_shown {q = q} {r = r} {a = a} {b = b} blobs x {y = y} ns is plain h =
    subst (λ z. PutsFields q r a b (own_fields z ns)) (sym (ap (shown_payload blobs) is ∙ shown_unless blobs y plain)) h

-- that of a Blob
pub put_shown_blob : {K : Type 0} {q r : Pen} {a b : Told K} (blobs : Bool) (x : Payload) (t v : Option (List ℕ))
    → x ≡ p.Blob t v
    → PutsFields q r a b
    ((codes "value", option_map compact_text (option_map text_of (if blobs then v else None)))
    ∷ nothing_of (codes "valueId" ∷ codes "valueType" ∷ codes "valueTypeListElement" ∷ []))
    → PutsFields q r a b
    (own_fields (shown_payload blobs x)
    (codes "value" ∷ codes "valueId" ∷ codes "valueType" ∷ codes "valueTypeListElement" ∷ []))
put_shown_blob {q = q} {r = r} {a = a} {b = b} blobs x t v is h =
    subst (λ z. PutsFields q r a b (own_fields (shown_payload blobs z)
    (codes "value" ∷ codes "valueId" ∷ codes "valueType" ∷ codes "valueTypeListElement" ∷ [])))
    (sym is) (by_blobs blobs h)
  where
    by_blobs : (blobs : Bool)
        → PutsFields q r a b ((codes "value", option_map compact_text (option_map text_of (if blobs then v else None)))
        ∷ nothing_of (codes "valueId" ∷ codes "valueType" ∷ codes "valueTypeListElement" ∷ []))
        → PutsFields q r a b
        (own_fields (shown_payload blobs (p.Blob t v))
        (codes "value" ∷ codes "valueId" ∷ codes "valueType" ∷ codes "valueTypeListElement" ∷ []))
    by_blobs true h = h
    by_blobs false h = h
