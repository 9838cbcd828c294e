-- A kind's own members, by its value form.
use Rattle.std.proofs.Common.{◌≡◌, ℕ, true, false, List, [], ◌∷◌, map, Option, Some, None, is_some, option_map, refl}
use Rattle.std.proofs.Common.{sym, ap, ap₂, ◌∙◌}
use Rattle.std.specs.List.{cons_option}
use lib.Utf8.{encode}
use Rattle.serde_json.specs.Data.{Data, no_items}
use Rattle.aas_json_mapping.specs.Parts.{spell_specific_asset_id}
use Rattle.aas_json_mapping.proofs.Parts.{specific_asset_id_facts}
use Rattle.aas_json_table.specs.Spelled.{onto}
use Rattle.aas_model.specs.declared.payload.Payload.{Payload}
use Rattle.aas_model.specs.declared.payload.Payload.TheVariants as p
use Rattle.aas_constraint_laws.specs.Values.{without_values}
use Rattle.aas_value.specs.Single.{single}
use Rattle.aas_value.specs.Children.{Child, named, in_order, forms_of, annotation_value}
use Rattle.aas_value.specs.Parts.{Part, children, value}
use Rattle.aas_value.specs.ValueForm.{shows_children}
use Rattle.aas_value_update.specs.Forms.{form_of}
use Rattle.aas_value.specs.Attributes.{array_of, language_value, text_or_null, reference_or_null, entity_type_or_null}
use Rattle.aas_value_update.proofs.Named.{Apart, Alike, same_named}
use Rattle.aas_value_update.proofs.Slots.{same_text_or_null, same_entity_type, same_single, same_reference_or_null}
use Rattle.aas_value_update.proofs.Slots.{same_array, same_language}

-- ---- kinds without children in their form

pub same_own : (x y : Payload) (xs ys : List Part) → shows_children x ≡ false → without_values x ≡ without_values y
    → value (form_of x xs) ≡ value (form_of y ys) → x ≡ y
unfolding encode
same_own (p.Property t v i) (p.Property u w j) xs ys s r e =
    let ts : t ≡ u = cc in
    let is : i ≡ j = cc in
    let forms : single t v ≡ single u w = cc in
    let vs = same_single t v w (forms ∙ ap (λ a. single a w) (sym ts)) in
    λ k. p.Property (ts k) (vs k) (is k)
same_own (p.MultiLanguageProperty v i) (p.MultiLanguageProperty w j) xs ys s r e =
    let is : i ≡ j = cc in
    let forms : array_of language_value v ≡ array_of language_value w = cc in
    let vs = same_array language_value same_language v w forms in
    λ k. p.MultiLanguageProperty (vs k) (is k)
same_own (p.Range t a b) (p.Range u c d) xs ys s r e =
    let ts : t ≡ u = cc in
    let highs : single t b ≡ single u d = cc in
    let lows : single t a ≡ single u c = cc in
    let bs = same_single t b d (highs ∙ ap (λ z. single z d) (sym ts)) in
    let as_ = same_single t a c (lows ∙ ap (λ z. single z c) (sym ts)) in
    λ k. p.Range (ts k) (as_ k) (bs k)
same_own (p.File t v) (p.File u w) xs ys s r e =
    let types : text_or_null t ≡ text_or_null u = cc in
    let values : text_or_null v ≡ text_or_null w = cc in
    ap₂ p.File (same_text_or_null t u types) (same_text_or_null v w values)
same_own (p.Blob t v) (p.Blob u w) xs ys s r e =
    let types : text_or_null t ≡ text_or_null u = cc in
    let values : text_or_null v ≡ text_or_null w = cc in
    ap₂ p.Blob (same_text_or_null t u types) (same_text_or_null v w values)
same_own (p.ReferenceElement v) (p.ReferenceElement w) xs ys s r e =
    let values : reference_or_null v ≡ reference_or_null w = cc in
    ap p.ReferenceElement (same_reference_or_null v w values)
same_own (p.RelationshipElement a b) (p.RelationshipElement c d) xs ys s r e =
    let firsts : reference_or_null a ≡ reference_or_null c = cc in
    let seconds : reference_or_null b ≡ reference_or_null d = cc in
    ap₂ p.RelationshipElement (same_reference_or_null a c firsts) (same_reference_or_null b d seconds)
same_own (p.BasicEventElement o d s t b l m n) (p.BasicEventElement o' d' s' t' b' l' m' n') xs ys f r e =
    let os : reference_or_null o ≡ reference_or_null o' = cc in
    let ops = same_reference_or_null o o' os in
    let d1 : d ≡ d' = cc in
    let s1 : s ≡ s' = cc in
    let t1 : t ≡ t' = cc in
    let b1 : b ≡ b' = cc in
    let l1 : l ≡ l' = cc in
    let m1 : m ≡ m' = cc in
    let n1 : n ≡ n' = cc in
    λ k. p.BasicEventElement (ops k) (d1 k) (s1 k) (t1 k) (b1 k) (l1 k) (m1 k) (n1 k)
same_own p.Capability p.Capability xs ys s r e = refl
same_own p.Operation p.Operation xs ys s r e = refl
same_own x y xs ys s r e = absurd (cc)

-- ---- children in an array

first_item : (f g : Option Data) (xs ys : List Data)
    → is_some f ≡ is_some g → onto (cons_option f xs) no_items ≡ onto (cons_option g ys) no_items
    → (f ≡ g) × (onto xs no_items ≡ onto ys no_items)
first_item None None xs ys s e = (refl, e)
first_item None (Some d) xs ys s e = absurd (cc)
first_item (Some c) None xs ys s e = absurd (cc)
first_item (Some c) (Some d) xs ys s e =
    let head : Some c ≡ Some d = cc in
    let tail : onto xs no_items ≡ onto ys no_items = cc in (head, tail)

same_forms : (cs ds : List Child) → Alike cs ds → onto (forms_of cs) no_items ≡ onto (forms_of ds) no_items → cs ≡ ds
same_forms [] [] h e = refl
same_forms [] (d ∷ ds) h e = absurd h
same_forms (c ∷ cs) [] h e = absurd h
same_forms (c ∷ cs) (d ∷ ds) h e =
    let both = first_item c.form d.form (forms_of cs) (forms_of ds) h.0.1 e in
    let names = h.0.0 in
    let forms = both.0 in
    ap₂ (λ x xs. x ∷ xs) (λ i. record { name = names i; form = forms i }) (same_forms cs ds h.1 both.1)

same_in_order : (cs ds : List Child) → Alike cs ds → in_order cs ≡ in_order ds → cs ≡ ds
same_in_order cs ds h e =
    let items : onto (forms_of cs) no_items ≡ onto (forms_of ds) no_items = cc in
    same_forms cs ds h items

entry_is_some : (c : Child) (f : Option Data) → is_some (option_map (λ (d : Data). named (c ∷ [])) f) ≡ is_some f
entry_is_some c None = refl
entry_is_some c (Some d) = refl

alike_entries : (cs ds : List Child) → Alike cs ds → Alike (map annotation_value cs) (map annotation_value ds)
alike_entries [] [] h = tt
alike_entries [] (d ∷ ds) h = absurd h
alike_entries (c ∷ cs) [] h = absurd h
alike_entries (c ∷ cs) (d ∷ ds) h =
    ((h.0.0, entry_is_some c c.form ∙ h.0.1 ∙ sym (entry_is_some d d.form)), alike_entries cs ds h.1)

same_entry : (n : List ℕ) (o q : Option (List ℕ)) (f g : Option Data) → o ≡ Some n → o ≡ q → is_some f ≡ is_some g
    → option_map (λ (d : Data). named (record { name = o; form = f } ∷ [])) f
    ≡ option_map (λ (d : Data). named (record { name = q; form = g } ∷ [])) g
    → f ≡ g
same_entry n None q f g i j s e = cc
same_entry n (Some m) None f g i j s e = cc
same_entry n (Some m) (Some l) None None i j s e = refl
same_entry n (Some m) (Some l) None (Some d) i j s e = cc
same_entry n (Some m) (Some l) (Some c) None i j s e = cc
same_entry n (Some m) (Some l) (Some c) (Some d) i j s e = cc

same_entries : (cs ds : List Child)
    → Apart cs → Alike cs ds → map annotation_value cs ≡ map annotation_value ds → cs ≡ ds
same_entries [] [] a h e = refl
same_entries [] (d ∷ ds) a h e = absurd h
same_entries (c ∷ cs) [] a h e = absurd h
same_entries (c ∷ cs) (d ∷ ds) a h e =
    let head : annotation_value c ≡ annotation_value d = cc in
    let tail : map annotation_value cs ≡ map annotation_value ds = cc in
    let names = h.0.0 in
    let forms = same_entry a.0.0 c.name d.name c.form d.form a.0.1 names h.0.1 (ap (λ x. x.form) head) in
    ap₂ (λ x xs. x ∷ xs) (λ i. record { name = names i; form = forms i }) (same_entries cs ds a.1 h.1 tail)

-- ---- kinds with children in their form

-- children that a value form shows differ in names, everywhere but in lists
abbrev pub ApartIn : Payload → List Child → Type 0
ApartIn (p.AnnotatedRelationshipElement a b) cs = Apart cs
ApartIn (p.Entity t g ids) cs = Apart cs
ApartIn p.SubmodelElementCollection cs = Apart cs
ApartIn _ cs = Unit {0}

pub same_with_children : (x y : Payload) (xs ys : List Part) → shows_children x ≡ true
    → without_values x ≡ without_values y → ApartIn x (children xs) → Alike (children xs) (children ys)
    → value (form_of x xs) ≡ value (form_of y ys) → (x ≡ y) × (children xs ≡ children ys)
unfolding encode
same_with_children (p.AnnotatedRelationshipElement a b) (p.AnnotatedRelationshipElement c d) xs ys s r apart h e =
    let cs = children xs in
    let ds = children ys in
    let entries : in_order (map annotation_value cs) ≡ in_order (map annotation_value ds) = cc in
    let firsts : reference_or_null a ≡ reference_or_null c = cc in
    let seconds : reference_or_null b ≡ reference_or_null d = cc in (
      ap₂ p.AnnotatedRelationshipElement (same_reference_or_null a c firsts) (same_reference_or_null b d seconds),
      same_entries cs ds apart h (same_in_order _ _ (alike_entries cs ds h) entries),
    )
same_with_children (p.Entity t g ids) (p.Entity u k jds) xs ys s r apart h e =
    let types : entity_type_or_null t ≡ entity_type_or_null u = cc in
    let globals : text_or_null g ≡ text_or_null k = cc in
    let specifics : array_of spell_specific_asset_id ids ≡ array_of spell_specific_asset_id jds = cc in
    let statements : named (children xs) ≡ named (children ys) = cc in
    let ts = same_entity_type t u types in
    let gs = same_text_or_null g k globals in
    let is = same_array spell_specific_asset_id specific_asset_id_facts.same ids jds specifics in
    ((λ i. p.Entity (ts i) (gs i) (is i)), same_named (children xs) (children ys) apart h statements)
same_with_children p.SubmodelElementCollection p.SubmodelElementCollection xs ys s r apart h e =
    let forms : named (children xs) ≡ named (children ys) = cc in
    (refl, same_named (children xs) (children ys) apart h forms)
same_with_children (p.SubmodelElementList a b c d) (p.SubmodelElementList a' b' c' d') xs ys s r apart h e =
    let forms : in_order (children xs) ≡ in_order (children ys) = cc in
    (r, same_in_order (children xs) (children ys) h forms)
same_with_children x y xs ys s r apart h e = absurd (cc)
