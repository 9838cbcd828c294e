-- What the update of a kind's own members makes of its value form.
use Rattle.std.proofs.Common.{◌≡◌, ℕ, ◌+◌, ◌==◌, ◌&&◌, Bool, true, false, List, [], ◌∷◌, map, codes, Option, Some, None}
use Rattle.std.proofs.Common.{unwrap_or, refl, sym, ap, ap₂, ◌∙◌, subst, true≢false, Result, Ok, Err, MatchResult}
use Rattle.std.specs.Result.{IsErr, IsErrAnd}
use denote.Ref.{Bor}
use Rattle.std.specs.Prelude.{bytes_eq}
use Rattle.std.specs.Str.{encode_utf8_all}
use Rattle.std.proofs.Math.Bool.{and-false}
use lib.Utf8.{encode}
use Rattle.serde_json.specs.Data.{Data, null, boolean, number, string, object, array, Items, Members}
use Rattle.serde_json.specs.Events.{members_len}
use Rattle.serde_json.specs.Find.{get_member}
use Rattle.serde_json.specs.View.{items_view}
use Rattle.serde_json.specs.declared.value.Value.{Value}
use Rattle.aas_json_mapping.specs.Parts.{spell_specific_asset_id}
use Rattle.aas_json_spelling.specs.Values.{HasOrder}
use Rattle.aas_model.specs.declared.parts.SpecificAssetId.{SpecificAssetId}
use Rattle.aas_model.specs.declared.payload.Payload.{Payload}
use Rattle.aas_model.specs.declared.payload.Payload.TheVariants as p
use Rattle.aas_model.specs.declared.reference.Reference.{Reference}
use Rattle.aas_model_names.specs.declared.enumerations.Direction.{Direction}
use Rattle.aas_model_names.specs.declared.kind.ElementName.{ElementName}
use Rattle.aas_model_names.specs.declared.enumerations.EntityType.{EntityType}
use Rattle.aas_model_names.specs.declared.enumerations.StateOfEvent.{StateOfEvent}
use Rattle.aas_model_names.specs.declared.value_type.ValueType.{ValueType}
use Rattle.aas_value.specs.Single.{single}
use Rattle.aas_value.specs.Children.{Child, named, in_order, annotation_value}
use Rattle.aas_value.specs.Attributes.{array_of, text_or_null, reference_or_null, entity_type_or_null}
use Rattle.aas_value.specs.Json.{is_single, is_string, is_string_or_null, is_reference, is_entity_type, is_array_of}
use Rattle.aas_value.specs.Json.{is_specific_asset_id}
use Rattle.aas_value.specs.Kinds.{own, part}
use Rattle.aas_value_update.specs.Forms.{form_of}
use Rattle.aas_value.specs.Parts.{Part, object_of, entries_of, value, children, by_name, over, lay_form, members_fit}
use Rattle.aas_value.specs.Parts.{items_fit, fits_form, fits_if}
use Rattle.aas_value_update.specs.Shape.{under_name, by_names, by_entries, items_in, nothing_sent, if_sent}
use Rattle.aas_value_update.specs.Took.{TookOne, Took, AreNamed}
use Rattle.aas_value_update.proofs.Canonical.{order_rises}
use Rattle.aas_value_update.proofs.Laid.{named_laid, items_laid, entries_laid, sent_fits, over_none}
use Rattle.aas_value_update.proofs.Members.{name_itself}
use Rattle.aas_value_patch.specs.Counted.{one_if_some}
use Rattle.aas_value_patch.specs.Faults.{Refuses}
use Rattle.aas_value_patch.specs.Steps.{IsStep, Stepped, TakesContent, RefusesContent}
use Rattle.aas_value_patch.specs.Takes.{Takes}
use Rattle.aas_value_patch.specs.declared.fault.Misfit.{Misfit}
use Rattle.aas_value_patch.specs.declared.fault.Misfit.TheVariants as misfit
use Rattle.aas_value_patch.specs.declared.sent.Sent.TheVariants as to
use Rattle.aas_value_patch.specs.declared.step.Step.{Step}
use Rattle.aas_path_trees.specs.Children.{is_list_payload}
use Rattle.aas_value_patch.proofs.Counted.{counted}

-- ---- parts

pub own_took : (n : List ℕ) (w u : Data) (t : Data → Bool) (s : Option Data)
    → u ≡ unwrap_or s w → TookOne (own n w t) s (own n u t)
own_took n w u t None e = ap (λ (d : Data). record { name = Some n; form = Some d }) e
own_took n w u t (Some v) e = ap (λ (d : Data). record { name = Some n; form = Some d }) e

pub object_took : (xs ys : List Part) (ms : Members)
    → members_fit xs ms ≡ true → Took xs (map (under_name (object ms)) (children xs)) ys
    → value (object_of ys) ≡ over (lay_form (object_of xs)) (value (object_of xs)) (Some (object ms))
object_took xs ys ms fits took = ap (λ (d : Data). Some d) (named_laid xs ys ms fits took)

-- ---- members that are one's own

differ : (n m : List ℕ) → bytes_eq n m ≡ false → Some m ≡ Some n → ⊥
differ n m e same = let is : m ≡ n = cc in true≢false (sym (name_itself n) ∙ ap (bytes_eq n) (sym is) ∙ e)

pub one_fits : (n : List ℕ) (d : Data) (t : Data → Bool) (ms : Members) → HasOrder ms
    → members_fit (own n d t ∷ []) ms ≡ (fits_if t (get_member (encode_utf8_all n) ms) && true) && (one_if_some
    (get_member (encode_utf8_all n) ms) + 0 == members_len ms)
one_fits n d t ms order = counted (own n d t ∷ []) ms ((n, refl, tt), tt) (order_rises ms order)

pub two_fit : (n m : List ℕ) (d e : Data) (t u : Data → Bool) (ms : Members) → bytes_eq n m ≡ false → HasOrder ms
    → members_fit (own n d t ∷ own m e u ∷ []) ms
    ≡ (fits_if t (get_member (encode_utf8_all n) ms) && (fits_if u (get_member (encode_utf8_all m) ms) && true))
    && (one_if_some (get_member (encode_utf8_all n) ms) + (one_if_some (get_member (encode_utf8_all m) ms) + 0)
    == members_len ms)
two_fit n m d e t u ms nm order =
    counted (own n d t ∷ own m e u ∷ []) ms ((n, refl, (differ n m nm, tt)), ((m, refl, tt), tt)) (order_rises ms order)

-- ---- when all of them fit

pub record OneFits (f h whole : Bool) : Type 0 where
  pub first : f ≡ false → whole ≡ false
  pub only : h ≡ false → whole ≡ false
  pub all : f ≡ true → h ≡ true → whole ≡ true

one : (f h w : Bool) → w ≡ (f && true) && h → OneFits f h w
one f h w e = record {
  first = λ a. e ∙ ap (λ b. (b && true) && h) a;
  only = λ a. e ∙ ap (λ b. (f && true) && b) a ∙ and-false (f && true);
  all = λ a b. e ∙ ap₂ (λ x y. (x && true) && y) a b;
}

pub record TwoFit (f g h whole : Bool) : Type 0 where
  pub first : f ≡ false → whole ≡ false
  pub second : g ≡ false → whole ≡ false
  pub only : h ≡ false → whole ≡ false
  pub all : f ≡ true → g ≡ true → h ≡ true → whole ≡ true

two : (f g h w : Bool) → w ≡ (f && (g && true)) && h → TwoFit f g h w
two f g h w e = record {
  first = λ a. e ∙ ap (λ b. (b && (g && true)) && h) a;
  second = λ a. e ∙ ap (λ b. (f && (b && true)) && h) a ∙ ap (λ b. b && h) (and-false f);
  only = λ a. e ∙ ap (λ b. (f && (g && true)) && b) a ∙ and-false (f && (g && true));
  all = λ a b c. e ∙ ap₂ (λ x y. (x && (y && true)) && h) a b ∙ c;
}

-- a refusal of a part is one of the whole
by_misfit : (m : Misfit) (f g : Bool) → Refuses m f → (f ≡ false → g ≡ false) → Refuses m g
by_misfit misfit.Shape f g h more = more h
by_misfit misfit.NoMemory f g h more = tt

pub refused : (r : Result Step Misfit) (m : Misfit) (x : Payload) (xs : List Part) (v : Data) (f : Bool)
    → IsErr r → IsErrAnd r (λ e. e ≡ m) → Refuses m f
    → (f ≡ false → fits_form (form_of x xs) v ≡ false) → Stepped r x xs v
refused (Ok s) m x xs v f err and h more = absurd (cc)
refused (Err e) m x xs v f err and h more =
    subst (λ e. Refuses e (fits_form (form_of x xs) v)) (sym and) (by_misfit m f (fits_form (form_of x xs) v) h more)

pub content_refused : (r : Result (Option (List ℕ) × Option (List ℕ)) Misfit) (m : Misfit) (t u : Option (List ℕ))
    (v : Data) (f : Bool) → IsErr r → IsErrAnd r (λ e. e ≡ m) → Refuses m f
    → ((xs : List Part) → f ≡ false → fits_form (form_of (p.File t u) xs) v ≡ false)
    → MatchResult r (λ found. TakesContent t u v found.0 found.1) (RefusesContent t u v)
content_refused (Ok found) m t u v f err and h more = absurd (cc)
content_refused (Err e) m t u v f err and h more =
    subst (RefusesContent t u v) (sym and) (λ xs. by_misfit m f (fits_form (form_of (p.File t u) xs) v) h (more xs))

pub record ThreeFit (f g h only whole : Bool) : Type 0 where
  pub first : f ≡ false → whole ≡ false
  pub second : g ≡ false → whole ≡ false
  pub third : h ≡ false → whole ≡ false
  pub only_these : only ≡ false → whole ≡ false
  pub all : f ≡ true → g ≡ true → h ≡ true → only ≡ true → whole ≡ true

three : (f g h o w : Bool) → w ≡ (f && (g && (h && true))) && o → ThreeFit f g h o w
three f g h o w e = record {
  first = λ a. e ∙ ap (λ b. (b && (g && (h && true))) && o) a;
  second = λ a. e ∙ ap (λ b. (f && (b && (h && true))) && o) a ∙ ap (λ b. b && o) (and-false f);
  third = λ a.
      e ∙ ap (λ b. (f && (g && (b && true))) && o) a
      ∙ ap (λ b. (f && b) && o) (and-false g) ∙ ap (λ b. b && o) (and-false f);
  only_these = λ a. e ∙ ap (λ b. (f && (g && (h && true))) && b) a ∙ and-false (f && (g && (h && true)));
  all = λ a b c d. e ∙ ap₂ (λ x y. (x && (y && (h && true))) && o) a b ∙ ap₂ (λ x y. (x && true) && y) c d;
}

pub record FourFit (f g h i only whole : Bool) : Type 0 where
  pub first : f ≡ false → whole ≡ false
  pub second : g ≡ false → whole ≡ false
  pub third : h ≡ false → whole ≡ false
  pub fourth : i ≡ false → whole ≡ false
  pub only_these : only ≡ false → whole ≡ false
  pub all : f ≡ true → g ≡ true → h ≡ true → i ≡ true → only ≡ true → whole ≡ true

four : (f g h i o w : Bool) → w ≡ (f && (g && (h && (i && true)))) && o → FourFit f g h i o w
four f g h i o w e = record {
  first = λ a. e ∙ ap (λ b. (b && (g && (h && (i && true)))) && o) a;
  second = λ a. e ∙ ap (λ b. (f && (b && (h && (i && true)))) && o) a ∙ ap (λ b. b && o) (and-false f);
  third = λ a.
      e ∙ ap (λ b. (f && (g && (b && (i && true)))) && o) a
      ∙ ap (λ b. (f && b) && o) (and-false g) ∙ ap (λ b. b && o) (and-false f);
  fourth = λ a.
      e ∙ ap (λ b. (f && (g && (h && (b && true)))) && o) a
      ∙ ap (λ b. (f && (g && b)) && o) (and-false h) ∙ ap (λ b. (f && b) && o) (and-false g)
      ∙ ap (λ b. b && o) (and-false f);
  only_these = λ a. e ∙ ap (λ b. (f && (g && (h && (i && true)))) && b) a ∙ and-false (f && (g && (h && (i && true))));
  all = λ a b c d x.
      e ∙ ap₂ (λ x y. (x && (y && (h && (i && true)))) && o) a b ∙ ap₂ (λ x y. (x && (y && true)) && o) c d ∙ x;
}

-- ---- kinds

pub range_takes : (t : ValueType) (min max min' max' : Option (List ℕ)) (ms : Members)
    → single t max' ≡ unwrap_or (get_member (codes "max") ms) (single t max)
    → single t min' ≡ unwrap_or (get_member (codes "min") ms) (single t min)
    → Takes (p.Range t min max) (object ms) (p.Range t min' max')
unfolding encode
range_takes t min max min' max' ms a b = record {
  rest = refl;
  form = λ xs ys fits named took.
      object_took (own (codes "max") (single t max) (is_single t) ∷ own (codes "min") (single t min) (is_single t) ∷ [])
      (own (codes "max") (single t max') (is_single t) ∷ own (codes "min") (single t min') (is_single t) ∷ []) ms fits (
        own_took (codes "max") (single t max) (single t max') (is_single t) (get_member (codes "max") ms) a,
        (own_took (codes "min") (single t min) (single t min') (is_single t) (get_member (codes "min") ms) b, tt),
      );
}

pub range_fits : (t : ValueType) (min max : Option (List ℕ)) (xs : List Part) (ms : Members) → HasOrder ms
    → TwoFit (fits_if (is_single t) (get_member (codes "max") ms)) (fits_if (is_single t) (get_member (codes "min") ms))
    (one_if_some (get_member (codes "max") ms) + (one_if_some (get_member (codes "min") ms) + 0) == members_len ms)
    (fits_form (form_of (p.Range t min max) xs) (object ms))
unfolding encode
range_fits t min max xs ms order =
    two (fits_if (is_single t) (get_member (codes "max") ms)) (fits_if (is_single t) (get_member (codes "min") ms))
    (one_if_some (get_member (codes "max") ms) + (one_if_some (get_member (codes "min") ms) + 0) == members_len ms)
    (fits_form (form_of (p.Range t min max) xs) (object ms))
    (two_fit (codes "max") (codes "min") (single t max) (single t min) (is_single t) (is_single t) ms refl order)

pub file_fits : (t v : Option (List ℕ)) (xs : List Part) (ms : Members) → HasOrder ms
    → TwoFit (fits_if is_string (get_member (codes "contentType") ms))
    (fits_if is_string_or_null (get_member (codes "value") ms))
    (one_if_some (get_member (codes "contentType") ms) + (one_if_some (get_member (codes "value") ms) + 0)
    == members_len ms)
    (fits_form (form_of (p.File t v) xs) (object ms))
unfolding encode
file_fits t v xs ms order =
    two (fits_if is_string (get_member (codes "contentType") ms))
    (fits_if is_string_or_null (get_member (codes "value") ms))
    (one_if_some (get_member (codes "contentType") ms) + (one_if_some (get_member (codes "value") ms) + 0)
    == members_len ms)
    (fits_form (form_of (p.File t v) xs) (object ms))
    (two_fit (codes "contentType") (codes "value") (text_or_null t)
    (text_or_null v) is_string is_string_or_null ms refl order)

pub file_takes : (t v t' v' : Option (List ℕ)) (ms : Members)
    → text_or_null t' ≡ unwrap_or (get_member (codes "contentType") ms) (text_or_null t)
    → text_or_null v' ≡ unwrap_or (get_member (codes "value") ms) (text_or_null v)
    → Takes (p.File t v) (object ms) (p.File t' v')
unfolding encode
file_takes t v t' v' ms a b = record {
  rest = refl;
  form = λ xs ys fits named took.
      object_took (own (codes "contentType") (text_or_null t) is_string
      ∷ own (codes "value") (text_or_null v) is_string_or_null ∷ [])
      (own (codes "contentType") (text_or_null t') is_string
      ∷ own (codes "value") (text_or_null v') is_string_or_null ∷ [])
      ms fits (
        own_took (codes "contentType") (text_or_null t)
            (text_or_null t') is_string (get_member (codes "contentType") ms) a,
        (
          own_took (codes "value") (text_or_null v)
              (text_or_null v') is_string_or_null (get_member (codes "value") ms) b,
          tt,
        ),
      );
}

-- a Blob has the form of a File
pub blob_takes : (t v t' v' : Option (List ℕ)) (d : Data)
    → Takes (p.File t v) d (p.File t' v') → Takes (p.Blob t v) d (p.Blob t' v')
blob_takes t v t' v' d takes = record { rest = refl; form = takes.form }

pub relationship_fits : (a b : Option Reference) (xs : List Part) (ms : Members) → HasOrder ms
    → TwoFit (fits_if is_reference (get_member (codes "first") ms))
    (fits_if is_reference (get_member (codes "second") ms))
    (one_if_some (get_member (codes "first") ms) + (one_if_some (get_member (codes "second") ms) + 0) == members_len ms)
    (fits_form (form_of (p.RelationshipElement a b) xs) (object ms))
unfolding encode
relationship_fits a b xs ms order =
    two (fits_if is_reference (get_member (codes "first") ms)) (fits_if is_reference (get_member (codes "second") ms))
    (one_if_some (get_member (codes "first") ms) + (one_if_some (get_member (codes "second") ms) + 0) == members_len ms)
    (fits_form (form_of (p.RelationshipElement a b) xs) (object ms))
    (two_fit (codes "first") (codes "second") (reference_or_null a)
    (reference_or_null b) is_reference is_reference ms refl order)

pub relationship_takes : (f s f' s' : Option Reference) (ms : Members)
    → reference_or_null f' ≡ unwrap_or (get_member (codes "first") ms) (reference_or_null f)
    → reference_or_null s' ≡ unwrap_or (get_member (codes "second") ms) (reference_or_null s)
    → Takes (p.RelationshipElement f s) (object ms) (p.RelationshipElement f' s')
unfolding encode
relationship_takes f s f' s' ms a b = record {
  rest = refl;
  form = λ xs ys fits named took.
      object_took (own (codes "first") (reference_or_null f) is_reference
      ∷ own (codes "second") (reference_or_null s) is_reference ∷ [])
      (own (codes "first") (reference_or_null f') is_reference
      ∷ own (codes "second") (reference_or_null s') is_reference ∷ [])
      ms fits (
        own_took (codes "first") (reference_or_null f)
            (reference_or_null f') is_reference (get_member (codes "first") ms) a,
        (
          own_took (codes "second") (reference_or_null s)
              (reference_or_null s') is_reference (get_member (codes "second") ms) b,
          tt,
        ),
      );
}

-- ---- kinds with children

unsent_same : (xs ys : List Part) → Took xs (nothing_sent (children xs)) ys → children ys ≡ children xs
unsent_same [] [] t = refl
unsent_same [] (y ∷ ys) t = absurd t
unsent_same (x ∷ xs) [] t = absurd t
unsent_same (x ∷ xs) (y ∷ ys) t =
    ap₂ (λ c cs. c ∷ cs)
    (t.0 ∙ ap (λ (f : Option Data). record x.child { form = f }) (sym (over_none x.lay x.child.form)))
    (unsent_same xs ys t.1)

pub collection_takes : (ms : Members) → Takes p.SubmodelElementCollection (object ms) p.SubmodelElementCollection
collection_takes ms = record { rest = refl; form = λ xs ys fits named took. object_took xs ys ms fits took }

pub body_takes : (v : Data) (xs : List Part)
    → fits_form (object_of xs) v ≡ true → Takes p.SubmodelElementCollection v p.SubmodelElementCollection
body_takes (object ms) xs fits = collection_takes ms
body_takes null xs fits = absurd (true≢false (sym fits))
body_takes (boolean b) xs fits = absurd (true≢false (sym fits))
body_takes (number n) xs fits = absurd (true≢false (sym fits))
body_takes (string s) xs fits = absurd (true≢false (sym fits))
body_takes (array ds) xs fits = absurd (true≢false (sym fits))

pub list_takes : (o : Option Bool) (s : Option Reference) (t : ElementName) (v : Option ValueType) (ds : Items)
    → Takes (p.SubmodelElementList o s t v) (array ds) (p.SubmodelElementList o s t v)
list_takes o s t v ds = record {
  rest = refl;
  form = λ xs ys fits named took. ap (λ (es : Items). Some (array es)) (items_laid xs ys ds fits took);
}

pub list_is : (x y : Payload) (xs : List Part) (vs : Bor (List Value))
    → is_list_payload x ≡ true → y ≡ x → items_fit xs (items_view vs.now) ≡ true
    → IsStep x xs (array (items_view vs.now)) (record { payload = y; kids = to.InTurn vs })
list_is (p.SubmodelElementList o s t v) y xs vs list same fits = record {
  fits = fits;
  takes =
      subst (Takes (p.SubmodelElementList o s t v) (array (items_view vs.now)))
      (sym same) (list_takes o s t v (items_view vs.now));
  kids = refl;
}
list_is x y xs vs list same fits = absurd (cc)

statements_took : (n : List ℕ) (xs ys : List Part) (s : Option Data) → fits_if (fits_form (object_of xs)) s ≡ true
    → Took xs (if_sent (by_names (children xs)) (children xs) s) ys
    → TookOne (part (Some n) (object_of xs)) s (part (Some n) (object_of ys))
statements_took n xs ys None fits took =
    ap (λ (cs : List Child). record { name = Some n; form = Some (named cs) }) (unsent_same xs ys took)
statements_took n xs ys (Some (object ms)) fits took =
    ap (λ (f : Option Data). record { name = Some n; form = f }) (object_took xs ys ms fits took)
statements_took n xs ys (Some null) fits took = absurd (true≢false (sym fits))
statements_took n xs ys (Some (boolean b)) fits took = absurd (true≢false (sym fits))
statements_took n xs ys (Some (number m)) fits took = absurd (true≢false (sym fits))
statements_took n xs ys (Some (string t)) fits took = absurd (true≢false (sym fits))
statements_took n xs ys (Some (array ds)) fits took = absurd (true≢false (sym fits))

annotations_took : (n : List ℕ) (xs ys : List Part) (s : Option Data)
    → AreNamed xs → fits_if (fits_form (entries_of xs)) s ≡ true
    → Took xs (if_sent (λ d. by_entries (children xs) (items_in d)) (children xs) s) ys
    → TookOne (part (Some n) (entries_of xs)) s (part (Some n) (entries_of ys))
annotations_took n xs ys None names fits took =
    ap (λ (cs : List Child). record { name = Some n; form = Some (in_order (map annotation_value cs)) })
    (unsent_same xs ys took)
annotations_took n xs ys (Some (array ds)) names fits took =
    ap (λ (es : Items). record { name = Some n; form = Some (array es) }) (entries_laid xs ys ds names fits took)
annotations_took n xs ys (Some (object ms)) names fits took = absurd (true≢false (sym fits))
annotations_took n xs ys (Some null) names fits took = absurd (true≢false (sym fits))
annotations_took n xs ys (Some (boolean b)) names fits took = absurd (true≢false (sym fits))
annotations_took n xs ys (Some (number m)) names fits took = absurd (true≢false (sym fits))
annotations_took n xs ys (Some (string t)) names fits took = absurd (true≢false (sym fits))

-- what is sent for a part fits it
sent_if : (n : List ℕ) (xs : List Part) (ms : Members) (t : Data → Bool)
    → members_fit xs ms ≡ true → by_name n (λ x. x.fits) xs (λ e. false) ≡ t
    → fits_if t (get_member n ms) ≡ true
sent_if n xs ms t fits is = by_sent (get_member n ms) refl
  where
    by_sent : (o : Option Data) → get_member n ms ≡ o → fits_if t o ≡ true
    by_sent None e = refl
    by_sent (Some d) e = ap (λ (f : Data → Bool). f d) (sym is) ∙ sent_fits n xs ms d fits e

entity_parts : Option EntityType → Option (List ℕ) → List SpecificAssetId → List Part → List Part
entity_parts t g ids xs =
    own (codes "entityType") (entity_type_or_null t) is_entity_type
    ∷ own (codes "globalAssetId") (text_or_null g) is_string_or_null
    ∷ own (codes "specificAssetIds") (array_of spell_specific_asset_id ids) (is_array_of is_specific_asset_id)
    ∷ part (Some (codes "statements")) (object_of xs) ∷ []

pub entity_takes : (t u : Option EntityType) (g h : Option (List ℕ)) (ids jds : List SpecificAssetId) (ms : Members)
    → entity_type_or_null u ≡ unwrap_or (get_member (codes "entityType") ms) (entity_type_or_null t)
    → text_or_null h ≡ unwrap_or (get_member (codes "globalAssetId") ms) (text_or_null g)
    → array_of spell_specific_asset_id jds
    ≡ unwrap_or (get_member (codes "specificAssetIds") ms) (array_of spell_specific_asset_id ids)
    → Takes (p.Entity t g ids) (object ms) (p.Entity u h jds)
unfolding encode entity_parts
entity_takes t u g h ids jds ms a b c = record {
  rest = refl;
  form = λ xs ys fits named took.
      object_took (entity_parts t g ids xs) (entity_parts u h jds ys) ms fits (
        own_took (codes "entityType") (entity_type_or_null t)
            (entity_type_or_null u) is_entity_type (get_member (codes "entityType") ms) a,
        (
          own_took (codes "globalAssetId") (text_or_null g)
              (text_or_null h) is_string_or_null (get_member (codes "globalAssetId") ms) b,
          (
            own_took (codes "specificAssetIds") (array_of spell_specific_asset_id ids)
                (array_of spell_specific_asset_id jds)
                (is_array_of is_specific_asset_id) (get_member (codes "specificAssetIds") ms) c,
            (
              statements_took (codes "statements") xs ys (get_member (codes "statements") ms)
                  (sent_if (codes "statements") (entity_parts t g ids xs) ms (fits_form (object_of xs)) fits refl) took,
              tt,
            ),
          ),
        ),
      );
}

annotated_parts : Option Reference → Option Reference → List Part → List Part
annotated_parts f s xs =
    part (Some (codes "annotations")) (entries_of xs)
    ∷ own (codes "first") (reference_or_null f) is_reference
    ∷ own (codes "second") (reference_or_null s) is_reference ∷ []

pub annotated_takes : (f s f' s' : Option Reference) (ms : Members)
    → reference_or_null f' ≡ unwrap_or (get_member (codes "first") ms) (reference_or_null f)
    → reference_or_null s' ≡ unwrap_or (get_member (codes "second") ms) (reference_or_null s)
    → Takes (p.AnnotatedRelationshipElement f s) (object ms) (p.AnnotatedRelationshipElement f' s')
unfolding encode annotated_parts
annotated_takes f s f' s' ms a b = record {
  rest = refl;
  form = λ xs ys fits named took.
      object_took (annotated_parts f s xs) (annotated_parts f' s' ys) ms fits (
        annotations_took (codes "annotations") xs ys (get_member (codes "annotations") ms) named
            (sent_if (codes "annotations") (annotated_parts f s xs) ms (fits_form (entries_of xs)) fits refl) took,
        (
          own_took (codes "first") (reference_or_null f)
              (reference_or_null f') is_reference (get_member (codes "first") ms) a,
          (
            own_took (codes "second") (reference_or_null s)
                (reference_or_null s') is_reference (get_member (codes "second") ms) b,
            tt,
          ),
        ),
      );
}

pub entity_fits : (t : Option EntityType) (g : Option (List ℕ))
    (ids : List SpecificAssetId) (xs : List Part) (ms : Members)
    → HasOrder ms
    → FourFit (fits_if is_entity_type (get_member (codes "entityType") ms))
    (fits_if is_string_or_null (get_member (codes "globalAssetId") ms))
    (fits_if (is_array_of is_specific_asset_id) (get_member (codes "specificAssetIds") ms))
    (fits_if (fits_form (object_of xs)) (get_member (codes "statements") ms))
    (one_if_some (get_member (codes "entityType") ms) + (one_if_some (get_member (codes "globalAssetId") ms)
    + (one_if_some (get_member (codes "specificAssetIds") ms) + (one_if_some (get_member (codes "statements") ms) + 0)))
    == members_len ms)
    (fits_form (form_of (p.Entity t g ids) xs) (object ms))
unfolding encode entity_parts
entity_fits t g ids xs ms order =
    four _ _ _ _ _ _
    (counted (entity_parts t g ids xs) ms (
      (
        codes "entityType",
        refl,
        (
          differ (codes "entityType") (codes "globalAssetId") refl,
          (
            differ (codes "entityType") (codes "specificAssetIds") refl,
            (differ (codes "entityType") (codes "statements") refl, tt),
          ),
        ),
      ),
      (
        (
          codes "globalAssetId",
          refl,
          (
            differ (codes "globalAssetId") (codes "specificAssetIds") refl,
            (differ (codes "globalAssetId") (codes "statements") refl, tt),
          ),
        ),
        (
          (codes "specificAssetIds", refl, (differ (codes "specificAssetIds") (codes "statements") refl, tt)),
          ((codes "statements", refl, tt), tt),
        ),
      ),
    ) (order_rises ms order))

pub annotated_fits : (f s : Option Reference) (xs : List Part) (ms : Members) → HasOrder ms
    → ThreeFit (fits_if (fits_form (entries_of xs)) (get_member (codes "annotations") ms))
    (fits_if is_reference (get_member (codes "first") ms))
    (fits_if is_reference (get_member (codes "second") ms))
    (one_if_some (get_member (codes "annotations") ms) + (one_if_some
    (get_member (codes "first") ms) + (one_if_some (get_member (codes "second") ms) + 0)) == members_len ms)
    (fits_form (form_of (p.AnnotatedRelationshipElement f s) xs) (object ms))
unfolding encode annotated_parts
annotated_fits f s xs ms order =
    three _ _ _ _ _
    (counted (annotated_parts f s xs) ms (
      (
        codes "annotations",
        refl,
        (differ (codes "annotations") (codes "first") refl, (differ (codes "annotations") (codes "second") refl, tt)),
      ),
      (
        (codes "first", refl, (differ (codes "first") (codes "second") refl, tt)),
        ((codes "second", refl, tt), tt),
      ),
    ) (order_rises ms order))

-- ---- the event

pub event_fits : (o : Option Reference) (d : Direction) (s : StateOfEvent)
    (t : Option (List ℕ)) (b : Option Reference) (l m n : Option (List ℕ))
    (xs : List Part) (ms : Members) → HasOrder ms
    → OneFits (fits_if is_reference (get_member (codes "observed") ms))
    (one_if_some (get_member (codes "observed") ms) + 0 == members_len ms)
    (fits_form (form_of (p.BasicEventElement o d s t b l m n) xs) (object ms))
unfolding encode
event_fits o d s t b l m n xs ms order =
    one _ _ _ (one_fits (codes "observed") (reference_or_null o) is_reference ms order)

pub event_takes : (o u : Option Reference) (d : Direction) (s : StateOfEvent)
    (t : Option (List ℕ)) (b : Option Reference) (l m n : Option (List ℕ))
    (ms : Members)
    → reference_or_null u ≡ unwrap_or (get_member (codes "observed") ms) (reference_or_null o)
    → Takes (p.BasicEventElement o d s t b l m n) (object ms) (p.BasicEventElement u d s t b l m n)
unfolding encode
event_takes o u d s t b l m n ms a = record {
  rest = refl;
  form = λ xs ys fits named took.
      object_took (own (codes "observed") (reference_or_null o) is_reference ∷ [])
      (own (codes "observed") (reference_or_null u) is_reference ∷ []) ms fits (
        own_took (codes "observed") (reference_or_null o)
            (reference_or_null u) is_reference (get_member (codes "observed") ms) a,
        tt,
      );
}

-- an event with copies of what an update doesn't take
pub event_is : (x : Payload) (o u : Option Reference) (d : Direction)
    (s : StateOfEvent) (t t' : Option (List ℕ)) (b b' : Option Reference)
    (l l' m m' n n' : Option (List ℕ)) (xs : List Part) (ms : Members)
    → x ≡ p.BasicEventElement o d s t b l m n → t' ≡ t → b' ≡ b → l' ≡ l → m' ≡ m → n' ≡ n → HasOrder ms
    → fits_if is_reference (get_member (codes "observed") ms) ≡ true
    → (one_if_some (get_member (codes "observed") ms) + 0 == members_len ms) ≡ true
    → reference_or_null u ≡ unwrap_or (get_member (codes "observed") ms) (reference_or_null o)
    → IsStep x xs (object ms) (record { payload = p.BasicEventElement u d s t' b' l' m' n'; kids = to.Nothing })
event_is x o u d s t t' b b' l l' m m' n n' xs ms is t1 b1 l1 m1 n1 order fit only taken =
    let old = p.BasicEventElement o d s t b l m n in
    let new : p.BasicEventElement u d s t b l m n ≡ p.BasicEventElement u d s t' b' l' m' n' = λ i.
    p.BasicEventElement u d s (sym t1 i) (sym b1 i)
    (sym l1 i) (sym m1 i) (sym n1 i) in
    subst (λ (z : Payload).
    IsStep z xs (object ms) (record { payload = p.BasicEventElement u d s t' b' l' m' n'; kids = to.Nothing }))
    (sym is)
    (record {
      fits = (event_fits o d s t b l m n xs ms order).all fit only;
      takes = subst (Takes old (object ms)) new (event_takes o u d s t b l m n ms taken);
      kids = refl;
    })
