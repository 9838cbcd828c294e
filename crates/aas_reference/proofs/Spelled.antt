-- What a whole reference spells is good, and is spelled from one reference.
use Rattle.std.proofs.Common.{◌≡◌, ℕ, zero, suc, ◌≤◌, ◌&&◌, List, [], ◌∷◌, true, Option, Some, None, option_map, unwrap_or, refl, sym, ap, ◌∙◌, subst, true≢false, arith}
use Rattle.aas_model_names.specs.KeyTypeNames as key_type
use Rattle.aas_model_names.specs.ReferenceTypeNames as reference_type
use Rattle.aas_model_names.specs.declared.enumerations.ReferenceType.{ReferenceType}
use Rattle.aas_json_table.specs.Table.{one, parts, reference, key}
use Rattle.aas_json_table.specs.Rows.{rows_of, sorted}
use Rattle.aas_json_table.specs.TooDeep.{Levels}
use Rattle.aas_json_table.specs.Spelled.{attribute, spelled}
use Rattle.aas_model.specs.declared.reference.Key.{Key}
use Rattle.aas_model.specs.declared.reference.Reference.{Reference, out-Reference}
use Rattle.aas_json_spelling.specs.Lists.{is_any}
use Rattle.aas_json_spelling.specs.Good.{Good}
use Rattle.aas_json_spelling.proofs.Objects.{object_good, same_attributes}
use Rattle.aas_json_spelling.proofs.Lists.{each_of}
use Rattle.aas_json_spelling.proofs.MemberTypes.{none_good, text_good, named_good, list_good, same_texts, same_words, same_options, same_lists}
use Rattle.aas_reference.specs.Spelling.{key_attributes, spell_key, spell_reference}
use Rattle.aas_reference.specs.Whole.{has_keys, reference_levels}
use Rattle.aas_reference.proofs.Levels.{made, made_out, Within, by_levels, Fits, attributes_at, spell_at, keys_at, levels_at}

-- ---- good

key_good : (l : Levels) (k : Key) → Good l (one key) (Some (spell_key k))
unfolding rows_of
key_good l k =
    object_good key l l (sorted (parts key)) (attribute (key_attributes k)) refl refl refl refl refl
    (named_good l key_type.name_of key_type.all key_type.found k.key_type, (text_good l (Some k.value), tt))

abbrev IsGood : Reference → Type 0
IsGood r = (l : Levels) → Fits l.references r → Good l (one reference) (Some (spell_reference r))

within_good : (l : Levels) (o : Option Reference) → Within IsGood o → unwrap_or (option_map has_keys o) true ≡ true → unwrap_or (option_map reference_levels o) 0 ≤ l.references
    → Good l (one reference) (option_map spell_reference o)
within_good l None h k n = none_good l (one reference)
within_good l (Some r) h k n = h r refl l (k, n)

level_good : (t : ReferenceType) (ks : List Key) (o : Option Reference) → Within IsGood o → (l : Levels) (n : ℕ) → is_any ks && unwrap_or (option_map has_keys o) true ≡ true
    → suc (unwrap_or (option_map reference_levels o) 0) ≤ n → Good (record l { references = n }) (one reference) (Some (spelled (parts reference) (attributes_at t ks (option_map spell_reference o))))
unfolding rows_of
level_good t [] o h l n plain low = absurd (true≢false (sym plain))
level_good t (k ∷ ks) o h l zero plain low = absurd (omega (arith, low))
level_good t (k ∷ ks) o h l (suc n) plain low =
    let inner : Levels = record l { references = n } in
    object_good reference (record l { references = suc n }) inner (sorted (parts reference)) (attribute (attributes_at t (k ∷ ks) (option_map spell_reference o))) refl refl refl refl refl (
      list_good inner spell_key key (k ∷ ks) (each_of (λ x. Good inner (one key) (Some (spell_key x))) (key_good inner) (k ∷ ks)),
      (within_good inner o h plain (omega (arith, low)), (named_good inner reference_type.name_of reference_type.all reference_type.found t, tt)),
    )

-- What a whole reference spells is good, where there are levels for it.
pub reference_good : (r : Reference) → IsGood r
reference_good = by_levels IsGood (λ t ks o h l fits. subst (λ d. Good l (one reference) (Some d)) (sym (spell_at t ks o))
    (level_good t ks o h l l.references (sym (keys_at t ks o) ∙ fits.0) (subst (λ n. n ≤ l.references) (levels_at t ks o) fits.1)))

-- ---- the same spelling

same_key : (j k : Key) → spell_key j ≡ spell_key k → j ≡ k
same_key j k e =
    let same = same_attributes (parts key) (key_attributes j) (key_attributes k) refl e in
    let types = same_words key_type.name_of key_type.all key_type.found j.key_type k.key_type same.0 in
    let values = same_texts j.value k.value same.1.0 in
    λ i. record { key_type = types i; value = values i }

-- References that spell the same are the same.
pub same_reference : (r s : Reference) → spell_reference r ≡ spell_reference s → r ≡ s
same_reference = by_levels (λ r. (s : Reference) → spell_reference r ≡ spell_reference s → r ≡ s) (λ t ks o h s e.
    let y = out-Reference s in
    let same = same_attributes (parts reference) (attributes_at t ks (option_map spell_reference o)) (attributes_at y.ref_type y.keys (option_map spell_reference y.referred)) refl
    (sym (spell_at t ks o) ∙ e ∙ ap spell_reference (sym (made_out s)) ∙ spell_at y.ref_type y.keys y.referred) in
    let keys = same_lists spell_key ks y.keys same_key same.0 in
    let referred = same_options spell_reference o y.referred (λ r z is _ same. h r is z same) same.1.0 in
    let types = same_words reference_type.name_of reference_type.all reference_type.found t y.ref_type same.1.1.0 in
    (λ i. made (types i) (keys i) (referred i)) ∙ made_out s)
