-- Attributes with the metadata of others that are alike: kind by kind.
use Rattle.std.proofs.Common.{◌≡◌, List, Some, None, refl}
use Rattle.aas_model.specs.Payload.{kind_of}
use Rattle.aas_model.specs.declared.payload.Payload.{Payload}
use Rattle.aas_model.specs.declared.payload.Payload.TheVariants as p
use Rattle.aas_model_names.specs.declared.modifiers.Extent.{Extent}
use Rattle.aas_model_names.specs.declared.value_type.ValueType.{ValueType}
use Rattle.aas_json_mapping.specs.Metadata.{without_values}
use Rattle.aas_path_trees.specs.Children.{is_list_payload}
use Rattle.aas_value.specs.Kinds.{form_of}
use Rattle.aas_value.specs.Parts.{Part}
use Rattle.aas_meta_update.specs.WithMetadata.{AreAlike, with_shown}

same_type : (t u : ValueType) → Some t ≡ Some u → t ≡ u
same_type t u e = cc

-- What is shown is that of the form.
pub shown_put : (x y : Payload) → AreAlike x y → without_values (with_shown x y) ≡ without_values y
shown_put (p.Property t v i) (p.Property t' v' i') alike = λ j. p.Property (same_type t t' alike.value_type j) None i'
shown_put (p.MultiLanguageProperty v i) (p.MultiLanguageProperty v' i') alike = refl
shown_put (p.Range t min max) (p.Range t' min' max') alike = λ j. p.Range (same_type t t' alike.value_type j) None None
shown_put (p.File t v) (p.File t' v') alike = refl
shown_put (p.Blob t v) (p.Blob t' v') alike = refl
shown_put (p.ReferenceElement v) (p.ReferenceElement v') alike = refl
shown_put (p.RelationshipElement first second) (p.RelationshipElement first' second') alike = refl
shown_put (p.AnnotatedRelationshipElement first second) (p.AnnotatedRelationshipElement first' second') alike = refl
shown_put (p.Entity t g ids) (p.Entity t' g' ids') alike = refl
shown_put (p.BasicEventElement observed d s topic broker last min max) (p.BasicEventElement observed' d' s' topic' broker' last' min' max') alike = refl
shown_put p.Capability p.Capability alike = refl
shown_put p.Operation p.Operation alike = refl
shown_put p.SubmodelElementCollection p.SubmodelElementCollection alike = refl
shown_put (p.SubmodelElementList o s t v) (p.SubmodelElementList o' s' t' v') alike = refl
shown_put x y alike = absurd (other_kinds alike.kind)
  where
    other_kinds : kind_of x ≡ kind_of y → ⊥
    other_kinds e = cc

-- The values are those of the element.
pub values_put : (extent : Extent) (x y : Payload) (kids : List Part) → AreAlike x y
    → form_of extent (with_shown x y) kids ≡ form_of extent x kids
values_put extent (p.Property t v i) y kids alike = refl
values_put extent (p.MultiLanguageProperty v i) y kids alike = refl
values_put extent (p.Range t min max) y kids alike = refl
values_put extent (p.File t v) y kids alike = refl
values_put extent (p.Blob t v) y kids alike = refl
values_put extent (p.ReferenceElement v) y kids alike = refl
values_put extent (p.RelationshipElement first second) y kids alike = refl
values_put extent (p.AnnotatedRelationshipElement first second) y kids alike = refl
values_put extent (p.Entity t g ids) y kids alike = refl
values_put extent (p.BasicEventElement observed d s topic broker last min max) (p.BasicEventElement observed' d' s' topic' broker' last' min' max') kids alike = refl
values_put extent p.Capability y kids alike = refl
values_put extent p.Operation y kids alike = refl
values_put extent p.SubmodelElementCollection y kids alike = refl
values_put extent (p.SubmodelElementList o s t v) (p.SubmodelElementList o' s' t' v') kids alike = refl
values_put extent x y kids alike = absurd (other_kinds alike.kind)
  where
    other_kinds : kind_of x ≡ kind_of y → ⊥
    other_kinds e = cc

-- A list stays one, and nothing else becomes one.
pub list_put : (x y : Payload) → AreAlike x y → is_list_payload (with_shown x y) ≡ is_list_payload x
list_put (p.Property t v i) y alike = refl
list_put (p.MultiLanguageProperty v i) y alike = refl
list_put (p.Range t min max) y alike = refl
list_put (p.File t v) y alike = refl
list_put (p.Blob t v) y alike = refl
list_put (p.ReferenceElement v) y alike = refl
list_put (p.RelationshipElement first second) y alike = refl
list_put (p.AnnotatedRelationshipElement first second) y alike = refl
list_put (p.Entity t g ids) y alike = refl
list_put (p.BasicEventElement observed d s topic broker last min max) (p.BasicEventElement observed' d' s' topic' broker' last' min' max') alike = refl
list_put p.Capability y alike = refl
list_put p.Operation y alike = refl
list_put p.SubmodelElementCollection y alike = refl
list_put (p.SubmodelElementList o s t v) (p.SubmodelElementList o' s' t' v') alike = refl
list_put x y alike = absurd (other_kinds alike.kind)
  where
    other_kinds : kind_of x ≡ kind_of y → ⊥
    other_kinds e = cc
