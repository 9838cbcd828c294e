-- Attributes with the same value form are the same.
use Rattle.std.proofs.Common.{◌≡◌, ℕ, ℤ, pos, negsuc, Bool, true, false, List, [], ◌∷◌, map, codes, Option, Some, None}
use Rattle.std.proofs.Common.{option_map, refl, sym, ap, ap₂, ◌∙◌}
use Rattle.std.specs.Str.{encode_utf8_all}
use Rattle.std.specs.Fmt.{signed_decimal}
use Rattle.std.proofs.lemmas.Str.{encodes_same}
use Rattle.serde_json.specs.Data.{Data, null, no_items}
use Rattle.serde_json.specs.Find.{of_integer}
use Rattle.aas_model_names.specs.EntityTypeNames as entity_type
use Rattle.aas_model_names.specs.declared.enumerations.EntityType.{EntityType}
use Rattle.aas_model_names.specs.declared.value_type.ValueType.{ValueType}
use Rattle.aas_lexical.specs.Natives.{native_of, IsNative}
use Rattle.aas_lexical.specs.declared.natives.Native.{Native}
use Rattle.aas_lexical.specs.declared.natives.Native.TheVariants as native
use Rattle.aas_lexical.proofs.NativesExact.{native_some}
use Rattle.aas_json_table.specs.Spelled.{text_of, onto, spelled}
use Rattle.aas_json_table.specs.Table.{parts, reference}
use Rattle.aas_model.specs.declared.parts.LangText.{LangText}
use Rattle.aas_model.specs.declared.reference.Reference.{Reference, out-Reference}
use Rattle.aas_reference.specs.Spelling.{spell_reference}
use Rattle.aas_reference.proofs.Levels.{made_out, attributes_at, spell_at}
use Rattle.aas_reference.proofs.Spelled.{same_reference}
use Rattle.aas_json_spelling.proofs.MemberTypes.{same_words}
use Rattle.aas_value.specs.Single.{native_or_text, single}
use Rattle.aas_value.specs.Attributes.{array_of, language_value, text_or_null, reference_or_null, entity_type_or_null}

pub same_text : (a b : List ℕ) → text_of a ≡ text_of b → a ≡ b
same_text a b e = let same : encode_utf8_all a ≡ encode_utf8_all b = cc in encodes_same a b same

pub same_text_or_null : (a b : Option (List ℕ)) → text_or_null a ≡ text_or_null b → a ≡ b
same_text_or_null None None e = refl
same_text_or_null None (Some b) e = cc
same_text_or_null (Some a) None e = cc
same_text_or_null (Some a) (Some b) e = ap (λ (x : List ℕ). Some x) (same_text a b e)

pub same_entity_type : (a b : Option EntityType) → entity_type_or_null a ≡ entity_type_or_null b → a ≡ b
same_entity_type None None e = refl
same_entity_type None (Some b) e = cc
same_entity_type (Some a) None e = cc
same_entity_type (Some a) (Some b) e =
    ap (λ (x : EntityType). Some x)
    (same_words entity_type.name_of entity_type.all entity_type.found a b (ap (λ (d : Data). Some d) e))

same_integer : (y z : ℤ) → of_integer y ≡ of_integer z → y ≡ z
same_integer (pos a) (pos b) e = cc
same_integer (pos a) (negsuc b) e = cc
same_integer (negsuc a) (pos b) e = cc
same_integer (negsuc a) (negsuc b) e = cc

word : Bool → List ℕ
word true = codes "true"
word false = codes "false"

native_word : (t : ValueType) (b : Bool) (s : List ℕ) → IsNative t (native.Bool b) s → s ≡ word b
unfolding word
native_word t true s h = h.1
native_word t false s h = h.1

-- what is written natively as the same value is the same text
same_native : (t : ValueType) (m n : Option Native) (a b : List ℕ)
    → native_of t (encode_utf8_all a) ≡ m → native_of t (encode_utf8_all b) ≡ n
    → native_or_text m a ≡ native_or_text n b → encode_utf8_all a ≡ encode_utf8_all b
same_native t None None a b i j e = cc
same_native t None (Some (native.Bool y)) a b i j e = cc
same_native t None (Some (native.Whole y)) a b i j e = cc
same_native t (Some (native.Bool x)) None a b i j e = cc
same_native t (Some (native.Whole x)) None a b i j e = cc
same_native t (Some (native.Bool x)) (Some (native.Whole y)) a b i j e = cc
same_native t (Some (native.Whole x)) (Some (native.Bool y)) a b i j e = cc
same_native t (Some (native.Bool x)) (Some (native.Bool y)) a b i j e =
    let same : x ≡ y = cc in
    native_word t x _ (native_some t _ (native.Bool x) i) ∙ ap word same
    ∙ sym (native_word t y _ (native_some t _ (native.Bool y) j))
same_native t (Some (native.Whole x)) (Some (native.Whole y)) a b i j e =
    let numbers : of_integer x ≡ of_integer y = cc in
    (native_some t _ (native.Whole x) i).1 ∙ ap signed_decimal (same_integer x y numbers)
    ∙ sym (native_some t _ (native.Whole y) j).1

not_null : (n : Option Native) (s : List ℕ) → null ≡ native_or_text n s → ⊥
not_null None s e = cc
not_null (Some (native.Bool b)) s e = cc
not_null (Some (native.Whole z)) s e = cc

pub same_single : (t : ValueType) (a b : Option (List ℕ)) → single t a ≡ single t b → a ≡ b
same_single t None None e = refl
same_single t None (Some b) e = absurd (not_null _ b e)
same_single t (Some a) None e = absurd (not_null _ a (sym e))
same_single t (Some a) (Some b) e = ap (λ (x : List ℕ). Some x) (encodes_same a b (same_native t _ _ a b refl refl e))

-- ---- references

never_null : (r : Reference) → null ≡ spell_reference r → ⊥
never_null r e =
    let x = out-Reference r in
    let same : null
    ≡ spelled (parts reference) (attributes_at x.ref_type x.keys (option_map spell_reference x.referred)) =
    e ∙ ap spell_reference (sym (made_out r)) ∙ spell_at x.ref_type x.keys x.referred in
    absurd (cc)

pub same_reference_or_null : (a b : Option Reference) → reference_or_null a ≡ reference_or_null b → a ≡ b
same_reference_or_null None None e = refl
same_reference_or_null None (Some b) e = absurd (never_null b e)
same_reference_or_null (Some a) None e = absurd (never_null a (sym e))
same_reference_or_null (Some a) (Some b) e = ap (λ (x : Reference). Some x) (same_reference a b e)

-- ---- lists

pub same_list : {A : Type 0} (spell : A → Data) → ((x y : A) → spell x ≡ spell y → x ≡ y) → (xs ys : List A)
    → onto (map spell xs) no_items ≡ onto (map spell ys) no_items → xs ≡ ys
same_list spell same [] [] e = refl
same_list spell same [] (y ∷ ys) e = cc
same_list spell same (x ∷ xs) [] e = cc
same_list spell same (x ∷ xs) (y ∷ ys) e =
    let head : spell x ≡ spell y = cc in
    let tail : onto (map spell xs) no_items ≡ onto (map spell ys) no_items = cc in
    ap₂ (λ z zs. z ∷ zs) (same x y head) (same_list spell same xs ys tail)

pub same_array : {A : Type 0} (spell : A → Data) → ((x y : A) → spell x ≡ spell y → x ≡ y) → (xs ys : List A)
    → array_of spell xs ≡ array_of spell ys → xs ≡ ys
same_array spell same xs ys e =
    let items : onto (map spell xs) no_items ≡ onto (map spell ys) no_items = cc in
    same_list spell same xs ys items

pub same_language : (a b : LangText) → language_value a ≡ language_value b → a ≡ b
same_language a b e =
    let ls : encode_utf8_all a.language ≡ encode_utf8_all b.language = cc in
    let ts : text_of a.text ≡ text_of b.text = cc in
    let l = encodes_same a.language b.language ls in
    let t = same_text a.text b.text ts in
    λ i. record { language = l i; text = t i }
