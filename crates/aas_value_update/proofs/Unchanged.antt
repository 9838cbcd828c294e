-- Updates that change nothing: by the own value form, and by an object without members.
use Rattle.std.proofs.Common.{◌≡◌, ℕ, List, map, Option, Some, None, option_map, refl, sym, ap, ◌∙◌}
use Rattle.std.specs.Str.{encode_utf8_all}
use Rattle.serde_json.specs.Data.{Data, object, Members, no_members}
use Rattle.aas_model_names.specs.declared.value_type.ValueType.{ValueType}
use Rattle.aas_model_names.specs.declared.kind.Kind.TheVariants as kind
use Rattle.aas_lexical.specs.Natives.{native_of}
use Rattle.aas_lexical.specs.declared.natives.Native.{Native}
use Rattle.aas_lexical.specs.declared.natives.Native.TheVariants as native
use Rattle.aas_value.specs.Single.{native_or_text, single}
use Rattle.aas_model.specs.Payload.{kind_of}
use Rattle.aas_model.specs.declared.element.Element.{out-Element}
use Rattle.aas_model.specs.declared.payload.Payload.{Payload}
use Rattle.aas_model.specs.declared.payload.Payload.TheVariants as p
use Rattle.aas_value.specs.Parts.{Part, value, lay_form}
use Rattle.aas_value_update.specs.Forms.{form_of, part_of}
use Rattle.aas_value_update.specs.Laws.{OwnFormStays, NoMembersChangeNothing}
use Rattle.aas_value_update.proofs.Elements.{part_out}
use Rattle.aas_value_update.proofs.OneForm.{one_form}
use Rattle.aas_value_update.proofs.Replaced.{whole_form_makes_element}

pub own_form_stays : OwnFormStays
own_form_stays e u v order is a = ((whole_form_makes_element e e u v order refl refl is).0 a).1

-- ---- an object without members

no_object : (n : Option Native) (s : List ℕ) (ms : Members)
    → ◌≡◌ {A = Option Data} (Some (native_or_text n s)) (Some (object ms)) → ⊥
no_object None s ms e = cc
no_object (Some (native.Bool b)) s ms e = cc
no_object (Some (native.Whole z)) s ms e = cc

no_single_object : (t : ValueType) (v : Option (List ℕ)) (ms : Members)
    → ◌≡◌ {A = Option Data} (Some (single t v)) (Some (object ms)) → ⊥
no_single_object t None ms e = cc
no_single_object t (Some s) ms e = no_object (native_of t (encode_utf8_all s)) s ms e

nothing_laid : (x : Payload) (xs : List Part) (ms : Members) → ¬ (kind_of x ≡ kind.ReferenceElement)
    → value (form_of x xs) ≡ Some (object ms)
    → lay_form (form_of x xs) (object ms) (object no_members) ≡ object ms
nothing_laid (p.Property t v i) xs ms other e = absurd (no_single_object t v ms e)
nothing_laid (p.MultiLanguageProperty v i) xs ms other e = absurd (cc)
nothing_laid (p.Range t min max) xs ms other e = refl
nothing_laid (p.File t v) xs ms other e = refl
nothing_laid (p.Blob t v) xs ms other e = refl
nothing_laid (p.ReferenceElement v) xs ms other e = absurd (other refl)
nothing_laid (p.RelationshipElement first second) xs ms other e = refl
nothing_laid (p.AnnotatedRelationshipElement first second) xs ms other e = refl
nothing_laid (p.Entity t g ids) xs ms other e = refl
nothing_laid (p.BasicEventElement observed d s topic broker last min max) xs ms other e = refl
nothing_laid p.Capability xs ms other e = absurd (cc)
nothing_laid p.Operation xs ms other e = absurd (cc)
nothing_laid p.SubmodelElementCollection xs ms other e = refl
nothing_laid (p.SubmodelElementList o s t v) xs ms other e = absurd (cc)

pub no_members_change_nothing : NoMembersChangeNothing
no_members_change_nothing e u ms order other is a =
    let x = out-Element e in
    let forms : value (form_of x.payload (map part_of x.kids)) ≡ Some (object ms) =
    sym (ap (λ (y : Part). y.child.form) (part_out e)) ∙ is in
    let laid : (part_of e).lay (object ms) (object no_members) ≡ object ms =
    ap (λ (y : Part). y.lay (object ms) (object no_members)) (part_out e)
    ∙ nothing_laid x.payload (map part_of x.kids) ms other forms in
    one_form e u order a.metadata a.operations
    (a.form ∙ ap (option_map (λ w. (part_of e).lay w (object no_members))) is ∙ ap (λ (d : Data). Some d) laid ∙ sym is)
