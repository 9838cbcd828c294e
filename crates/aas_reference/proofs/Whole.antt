-- What a value says is whole, where nothing in it is too deep. The order of names in the value doesn't matter.
use Rattle.std.proofs.Common.{◌≡◌, ℕ, zero, suc, ◌≤◌, ◌&&◌, List, [], ◌∷◌, true, Option, Some, None, option_map, unwrap_or, is_some, codes, refl, sym, ap, ◌∙◌, subst, arith}
use Rattle.std.proofs.lemmas.Bool.{and_from}
use Rattle.serde_json.specs.Data.{Data, null, boolean, number, string, array, object, Members}
use Rattle.aas_model_names.specs.declared.enumerations.ReferenceType.{ReferenceType}
use Rattle.aas_json_table.specs.Table.{one, many, word, parts, reference, key, optional}
use Rattle.aas_json_table.specs.Names.{reference_types}
use Rattle.aas_json_table.specs.Rows.{rows_of, sorted}
use Rattle.aas_json_table.specs.TooDeep.{Levels, too_deep, too_deep_members, within, spend}
use Rattle.aas_json_table.specs.Canonical.{canonical, canonical_member}
use Rattle.aas_json_table.specs.Spelled.{spelled, list_of}
use Rattle.aas_model.specs.declared.reference.Key.{Key}
use Rattle.aas_model.specs.declared.reference.Reference.{Reference}
use Rattle.aas_json_spelling.specs.Lists.{is_any}
use Rattle.aas_lemmas.proofs.Truth.{and_left}
use Rattle.aas_reference.specs.Spelling.{spell_key, spell_reference}
use Rattle.aas_reference.specs.Whole.{has_keys, reference_levels}
use Rattle.aas_reference.proofs.Levels.{made, Within, by_levels, Fits, attributes_at, spell_at, keys_at, levels_at}
use Rattle.aas_reference.proofs.Said.{says, found, member_shallow}

abbrev IsSaidWhole : Reference → Type 0
IsSaidWhole r = (l : Levels) (j : Data) → too_deep (one reference) j l ≡ None → canonical (one reference) j ≡ Some (spell_reference r) → Fits l.references r

any_listed : (ks : List Key) → is_some (list_of spell_key ks) ≡ true → is_any ks ≡ true
any_listed [] e = e
any_listed (k ∷ ks) e = refl

-- the reference within
within_whole : (o : Option Reference) → Within IsSaidWhole o → (l : Levels) (ms : Members) → too_deep_members ms (sorted (parts reference)) l ≡ None
    → canonical_member ms (codes "referredSemanticId") (one reference) ≡ option_map spell_reference o
    → (unwrap_or (option_map has_keys o) true ≡ true) × (unwrap_or (option_map reference_levels o) 0 ≤ l.references)
within_whole None h l ms low e = (refl, omega arith)
within_whole (Some r) h l ms low e =
    let inner = found ms (codes "referredSemanticId") (one reference) (spell_reference r) e in
    h r refl l inner.value (member_shallow ms (sorted (parts reference)) l (codes "referredSemanticId") (optional (codes "referredSemanticId") (one reference)) inner.value low refl inner.there) inner.says

level_whole : (t : ReferenceType) (ks : List Key) (o : Option Reference) → Within IsSaidWhole o → (l : Levels) (n : ℕ) (ms : Members)
    → within (option_map (λ k. record l { references = k }) (spend n)) (too_deep_members ms (sorted (parts reference))) ≡ None
    → canonical (one reference) (object ms) ≡ Some (spelled (parts reference) (attributes_at t ks (option_map spell_reference o)))
    → (is_any ks && unwrap_or (option_map has_keys o) true ≡ true) × (suc (unwrap_or (option_map reference_levels o) 0) ≤ n)
unfolding rows_of
level_whole t ks o h l zero ms low e = cc
level_whole t ks o h l (suc n) ms low e =
    let said = says reference (parts reference) (attributes_at t ks (option_map spell_reference o)) ms refl refl e in
    let below = within_whole o h (record l { references = n }) ms low said.agree.1.0 in
    let listed = and_left (is_some (canonical_member ms (codes "keys") (many key))) (is_some (canonical_member ms (codes "type") (word reference_types)) && true) said.there in
    let plain = any_listed ks (ap is_some (sym said.agree.0) ∙ listed) in
    (and_from (is_any ks) _ plain below.0, omega (arith, below.1))

object_whole : (t : ReferenceType) (ks : List Key) (o : Option Reference) → Within IsSaidWhole o → (l : Levels) (ms : Members) → too_deep (one reference) (object ms) l ≡ None
    → canonical (one reference) (object ms) ≡ Some (spell_reference (made t ks o)) → Fits l.references (made t ks o)
unfolding rows_of
object_whole t ks o h l ms low e =
    let level = level_whole t ks o h l l.references ms low (e ∙ ap Some (spell_at t ks o)) in
    (keys_at t ks o ∙ level.0, subst (λ n. n ≤ l.references) (sym (levels_at t ks o)) level.1)

value_whole : (t : ReferenceType) (ks : List Key) (o : Option Reference) → Within IsSaidWhole o → IsSaidWhole (made t ks o)
value_whole t ks o h l (object ms) low e = object_whole t ks o h l ms low e
value_whole t ks o h l null low e = cc
value_whole t ks o h l (boolean b) low e = cc
value_whole t ks o h l (number n) low e = cc
value_whole t ks o h l (string s) low e = cc
value_whole t ks o h l (array ds) low e = cc

-- A reference that a value says is whole.
pub said_whole : (r : Reference) → IsSaidWhole r
said_whole = by_levels IsSaidWhole value_whole
