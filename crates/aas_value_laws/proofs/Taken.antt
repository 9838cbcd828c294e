-- The attributes of an element after an update by a value that fits, where its children took what the value sends for
-- them.
use Rattle.std.proofs.Common.{◌≡◌, ℕ, Bool, true, List, [], ◌∷◌, map, codes, Option, Some, None, unwrap_or, refl, sym}
use Rattle.std.proofs.Common.{ap, ap₂, ◌∙◌, true≢false}
use Rattle.serde_json.specs.Data.{Data, array, object}
use Rattle.serde_json.specs.Find.{get}
use Rattle.aas_constraint_laws.specs.Values.{without_values}
use Rattle.aas_model.specs.declared.payload.Payload.{Payload}
use Rattle.aas_model.specs.declared.payload.Payload.TheVariants as p
use Rattle.aas_value.specs.Children.{Child, named, in_order, annotation_value}
use Rattle.aas_value.specs.Json.{is_single, is_string, is_string_or_null, is_array_of, is_reference}
use Rattle.aas_value.specs.Json.{is_specific_asset_id, is_entity_type}
use Rattle.aas_value.specs.Kinds.{own, part}
use Rattle.aas_value_update.specs.Forms.{form_of}
use Rattle.aas_value.specs.Parts.{Part, Form, object_of, list_of, entries_of, children, value, over, lay_form, fits_if}
use Rattle.aas_value.specs.Parts.{fits_form}
use Rattle.aas_value_update.specs.Shape.{by_names, in_turn, by_entries, items_in, nothing_sent, if_sent, sent}
use Rattle.aas_value_update.specs.Took.{TookOne, Took, AreNamed, NamedIn}
use Rattle.aas_value_update.proofs.Laid.{over_none, named_laid, items_laid, entries_laid}
use Rattle.aas_value_update.proofs.WholeOwn.{parts_in}
use Rattle.aas_value_laws.proofs.Read.{single_read, reference_or_null_read, languages_read, found_fits, find_single}
use Rattle.aas_value_laws.proofs.Read.{find_text, find_text_or_null, find_entity_type, find_reference}
use Rattle.aas_value_laws.proofs.Read.{find_specific_ids}
use Rattle.aas_value_laws.proofs.Sendable.{IsSendable}

-- ---- forms

-- the form of the parts ys is v laid over that of the parts xs
abbrev IsLaid : (List Part → Form) → List Part → Data → List Part → Type 0
IsLaid f xs v ys = value (f ys) ≡ over (lay_form (f xs)) (value (f xs)) (Some v)

object_laid : (xs ys : List Part) (v : Data) → fits_form (object_of xs) v ≡ true → Took xs (by_names (children xs) v) ys
    → IsLaid object_of xs v ys
object_laid xs ys (object ms) fits took = ap (λ (d : Data). Some d) (named_laid xs ys ms fits took)
object_laid xs ys v fits took = absurd (true≢false (sym fits))

list_laid : (xs ys : List Part) (v : Data) → fits_form (list_of xs) v ≡ true
    → Took xs (in_turn (children xs) (items_in v)) ys
    → IsLaid list_of xs v ys
list_laid xs ys (array ds) fits took = ap (λ ds. Some (array ds)) (items_laid xs ys ds fits took)
list_laid xs ys v fits took = absurd (true≢false (sym fits))

annotations_laid : (xs ys : List Part) (v : Data) → AreNamed xs → fits_form (entries_of xs) v ≡ true
    → Took xs (by_entries (children xs) (items_in v)) ys → IsLaid entries_of xs v ys
annotations_laid xs ys (array ds) names fits took = ap (λ ds. Some (array ds)) (entries_laid xs ys ds names fits took)
annotations_laid xs ys v names fits took = absurd (true≢false (sym fits))

-- ---- parts

own_took : (n : List ℕ) (w u : Data) (t : Data → Bool) (s : Option Data) → u ≡ unwrap_or s w
    → TookOne (own n w t) s (own n u t)
own_took n w u t None e = ap (λ (d : Data). record { name = Some n; form = Some d }) e
own_took n w u t (Some v) e = ap (λ (d : Data). record { name = Some n; form = Some d }) e

nothing_took : (xs ys : List Part) → Took xs (nothing_sent (children xs)) ys → children ys ≡ children xs
nothing_took [] [] took = refl
nothing_took [] (y ∷ ys) took = absurd took
nothing_took (x ∷ xs) [] took = absurd took
nothing_took (x ∷ xs) (y ∷ ys) took =
    let same = took.0 ∙ ap (λ (f : Option Data). record x.child { form = f }) (sym (over_none x.lay x.child.form)) in
    ap₂ (λ c cs. c ∷ cs) same (nothing_took xs ys took.1)

statements_took : (n : List ℕ) (xs ys : List Part) (s : Option Data) → fits_if (fits_form (object_of xs)) s ≡ true
    → Took xs (if_sent (by_names (children xs)) (children xs) s) ys
    → TookOne (part (Some n) (object_of xs)) s (part (Some n) (object_of ys))
statements_took n xs ys None fits took =
    ap (λ (cs : List Child). record { name = Some n; form = Some (named cs) }) (nothing_took xs ys took)
statements_took n xs ys (Some d) fits took =
    ap (λ (f : Option Data). record { name = Some n; form = f }) (object_laid xs ys d fits took)

annotations_took : (n : List ℕ) (xs ys : List Part) (s : Option Data) → AreNamed xs
    → fits_if (fits_form (entries_of xs)) s ≡ true
    → Took xs (if_sent (λ d. by_entries (children xs) (items_in d)) (children xs) s) ys
    → TookOne (part (Some n) (entries_of xs)) s (part (Some n) (entries_of ys))
annotations_took n xs ys None names fits took =
    ap (λ (cs : List Child). record { name = Some n; form = Some (in_order (map annotation_value cs)) })
    (nothing_took xs ys took)
annotations_took n xs ys (Some d) names fits took =
    ap (λ (f : Option Data). record { name = Some n; form = f }) (annotations_laid xs ys d names fits took)

-- ---- kinds

-- attributes that differ from x in values alone, and with the children ys make v laid over the form of x
pub record Taken (x : Payload) (xs ys : List Part) (v : Data) : Type 0 where
  pub payload : Payload
  pub rest : without_values payload ≡ without_values x
  pub form : value (form_of payload ys) ≡ over (lay_form (form_of x xs)) (value (form_of x xs)) (Some v)

pub taken : (x : Payload) (xs ys : List Part) (v : Data) → IsSendable v → fits_form (form_of x xs) v ≡ true
    → NamedIn x xs
    → Took xs (sent x (children xs) v) ys → Taken x xs ys v
unfolding lib.Utf8.encode
taken (p.Property t a i) xs ys v good fits names took =
    let b = single_read t v good fits in
    record { payload = p.Property t b.0 i; rest = refl; form = ap (λ (d : Data). Some d) b.1 }
taken (p.MultiLanguageProperty a i) xs ys v good fits names took =
    let b = languages_read v good fits in
    record { payload = p.MultiLanguageProperty b.0 i; rest = refl; form = ap (λ (d : Data). Some d) b.1 }
taken (p.Range t a b) xs ys v good fits names took =
    let old = parts_in (form_of (p.Range t a b) xs) in
    let max = find_single t (codes "max") old v good fits refl b in
    let min = find_single t (codes "min") old v good fits refl a in record {
      payload = p.Range t min.0 max.0;
      rest = refl;
      form = object_laid old (parts_in (form_of (p.Range t min.0 max.0) ys)) v fits (
        own_took (codes "max") _ _ (is_single t) (get (codes "max") v) max.1,
        (own_took (codes "min") _ _ (is_single t) (get (codes "min") v) min.1, tt),
      );
    }
taken (p.File t a) xs ys v good fits names took =
    let old = parts_in (form_of (p.File t a) xs) in
    let content = find_text (codes "contentType") old v good fits refl t in
    let text = find_text_or_null (codes "value") old v good fits refl a in record {
      payload = p.File content.0 text.0;
      rest = refl;
      form = object_laid old (parts_in (form_of (p.File content.0 text.0) ys)) v fits (
        own_took (codes "contentType") _ _ is_string (get (codes "contentType") v) content.1,
        (own_took (codes "value") _ _ is_string_or_null (get (codes "value") v) text.1, tt),
      );
    }
taken (p.Blob t a) xs ys v good fits names took =
    let old = parts_in (form_of (p.Blob t a) xs) in
    let content = find_text (codes "contentType") old v good fits refl t in
    let text = find_text_or_null (codes "value") old v good fits refl a in record {
      payload = p.Blob content.0 text.0;
      rest = refl;
      form = object_laid old (parts_in (form_of (p.Blob content.0 text.0) ys)) v fits (
        own_took (codes "contentType") _ _ is_string (get (codes "contentType") v) content.1,
        (own_took (codes "value") _ _ is_string_or_null (get (codes "value") v) text.1, tt),
      );
    }
taken (p.ReferenceElement a) xs ys v good fits names took =
    let b = reference_or_null_read v good fits in
    record { payload = p.ReferenceElement b.0; rest = refl; form = ap (λ (d : Data). Some d) b.1 }
taken (p.RelationshipElement a b) xs ys v good fits names took =
    let old = parts_in (form_of (p.RelationshipElement a b) xs) in
    let first = find_reference (codes "first") old v good fits refl a in
    let second = find_reference (codes "second") old v good fits refl b in record {
      payload = p.RelationshipElement first.0 second.0;
      rest = refl;
      form = object_laid old (parts_in (form_of (p.RelationshipElement first.0 second.0) ys)) v fits (
        own_took (codes "first") _ _ is_reference (get (codes "first") v) first.1,
        (own_took (codes "second") _ _ is_reference (get (codes "second") v) second.1, tt),
      );
    }
taken (p.AnnotatedRelationshipElement a b) xs ys v good fits names took =
    let old = parts_in (form_of (p.AnnotatedRelationshipElement a b) xs) in
    let first = find_reference (codes "first") old v good fits refl a in
    let second = find_reference (codes "second") old v good fits refl b in record {
      payload = p.AnnotatedRelationshipElement first.0 second.0;
      rest = refl;
      form = object_laid old (parts_in (form_of (p.AnnotatedRelationshipElement first.0 second.0) ys)) v fits (
        annotations_took (codes "annotations") xs ys (get (codes "annotations") v) names
            (found_fits (codes "annotations") old v fits) took,
        (
          own_took (codes "first") _ _ is_reference (get (codes "first") v) first.1,
          (own_took (codes "second") _ _ is_reference (get (codes "second") v) second.1, tt),
        ),
      );
    }
taken (p.Entity t g ids) xs ys v good fits names took =
    let old = parts_in (form_of (p.Entity t g ids) xs) in
    let type = find_entity_type (codes "entityType") old v good fits refl t in
    let global = find_text_or_null (codes "globalAssetId") old v good fits refl g in
    let specific = find_specific_ids (codes "specificAssetIds") old v good fits refl ids in record {
      payload = p.Entity type.0 global.0 specific.0;
      rest = refl;
      form = object_laid old (parts_in (form_of (p.Entity type.0 global.0 specific.0) ys)) v fits (
        own_took (codes "entityType") _ _ is_entity_type (get (codes "entityType") v) type.1,
        (
          own_took (codes "globalAssetId") _ _ is_string_or_null (get (codes "globalAssetId") v) global.1,
          (
            own_took (codes "specificAssetIds") _ _ (is_array_of is_specific_asset_id)
                (get (codes "specificAssetIds") v) specific.1,
            (
              statements_took (codes "statements") xs ys (get (codes "statements") v)
                  (found_fits (codes "statements") old v fits) took,
              tt,
            ),
          ),
        ),
      );
    }
taken (p.BasicEventElement o d s t b l m n) xs ys v good fits names took =
    let old = parts_in (form_of (p.BasicEventElement o d s t b l m n) xs) in
    let observed = find_reference (codes "observed") old v good fits refl o in record {
      payload = p.BasicEventElement observed.0 d s t b l m n;
      rest = refl;
      form = object_laid old (parts_in (form_of (p.BasicEventElement observed.0 d s t b l m n) ys)) v fits
          (own_took (codes "observed") _ _ is_reference (get (codes "observed") v) observed.1, tt);
    }
taken p.Capability xs ys v good fits names took = absurd (true≢false (sym fits))
taken p.Operation xs ys v good fits names took = absurd (true≢false (sym fits))
taken p.SubmodelElementCollection xs ys v good fits names took =
    record { payload = p.SubmodelElementCollection; rest = refl; form = object_laid xs ys v fits took }
taken (p.SubmodelElementList o s t a) xs ys v good fits names took =
    record { payload = p.SubmodelElementList o s t a; rest = refl; form = list_laid xs ys v fits took }
