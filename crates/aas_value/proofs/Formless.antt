-- Which kinds have a value form.
use Rattle.std.proofs.Common.{◌≡◌, ◌≢◌, Bool, true, false, List, map, refl, ap, ◌∙◌}
use Rattle.std.specs.Prelude.{is_some}
use Rattle.aas_model_names.specs.declared.kind.Kind.{Kind}
use Rattle.aas_model_names.specs.declared.kind.Kind.TheVariants as kind
use Rattle.aas_model_names.specs.declared.modifiers.Extent.{Extent}
use Rattle.aas_model_names.specs.declared.modifiers.Extent.TheVariants as extent
use Rattle.aas_model.specs.Element.{kind_of}
use Rattle.aas_model.specs.Payload as payload
use Rattle.aas_model.specs.declared.element.Element.{Element, out-Element}
use Rattle.aas_model.specs.declared.payload.Payload.{Payload}
use Rattle.aas_model.specs.declared.payload.Payload.TheVariants as p
use Rattle.aas_value.specs.Kinds.{form_of}
use Rattle.aas_value.specs.Parts.{Part, value}
use Rattle.aas_value.specs.ValueForm.{part_of, value_form}
use Rattle.aas_value.proofs.Forms.{form_out}

abbrev pub has_form : Kind → Bool
has_form kind.Capability = false
has_form kind.Operation = false
has_form _ = true

over : (x : Extent) (own : Payload) (kids : List Part)
    → is_some (value (form_of x own kids)) ≡ has_form (payload.kind_of own)
over x (p.Property t v i) kids = refl
over x (p.MultiLanguageProperty v i) kids = refl
over x (p.Range t min max) kids = refl
over x (p.File t v) kids = refl
over extent.WithBlobValue (p.Blob t v) kids = refl
over extent.WithoutBlobValue (p.Blob t v) kids = refl
over x (p.ReferenceElement v) kids = refl
over x (p.RelationshipElement first second) kids = refl
over x (p.AnnotatedRelationshipElement first second) kids = refl
over x (p.Entity t g ids) kids = refl
over x (p.BasicEventElement observed d s topic broker last min max) kids = refl
over x p.Capability kids = refl
over x p.Operation kids = refl
over x p.SubmodelElementCollection kids = refl
over x (p.SubmodelElementList o s t v) kids = refl

pub by_kind : (x : Extent) (e : Element) (k : Kind) → kind_of e ≡ k → is_some (value_form x e) ≡ has_form k
by_kind x e k is =
    ap is_some (form_out x e) ∙ over x (out-Element e).payload (map (part_of x) (out-Element e).kids) ∙ ap has_form is

pub other_kinds : (k : Kind) → k ≢ kind.Capability → k ≢ kind.Operation → has_form k ≡ true
other_kinds kind.Capability a b = absurd (a refl)
other_kinds kind.Operation a b = absurd (b refl)
other_kinds _ a b = refl
