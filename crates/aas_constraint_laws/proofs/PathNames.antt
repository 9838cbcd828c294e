-- An idShort that breaks no lexical rule and no rule of its form is one that a path can name.
use Rattle.std.proofs.Common.{◌≡◌, ℕ, ◌≤◌, ◌&&◌, Bool, true, false, List, [], length, Some, None, Option, refl, sym, subst, arith}
use Rattle.std.specs.Prelude.{nat_le, encode_utf8_all}
use Rattle.std.specs.List.{list_all}
use Rattle.std.proofs.lemmas.Bool.Decides.{nat_tests}
use Rattle.aas_lemmas.proofs.Truth.{and_left}
use Rattle.aas_lexical.specs.Names.{most_name_characters, name, id_short}
use Rattle.aas_lexical.proofs.NamesAscii.{bytes_name}
use Rattle.aas_reference.specs.Rules.{if_any}
use Rattle.aas_constraint_rules.specs.Attributes.{Seen, seen_of, references_of}
use Rattle.aas_constraint_rules.specs.Decided.{is_language, is_name, is_id_short}
use Rattle.aas_constraint_rules.specs.Lexical.{extension_has_form, qualifier_has_form, specific_asset_id_has_form, reference_has_form, seen_has_form, payload_has_form}
use Rattle.aas_constraint_rules.specs.Rules.{holds_locally, element_has_form, id_short_is_name, rules}
use Rattle.aas_constraint_rules.specs.Sites.{Own}
use Rattle.aas_constraint_rules.proofs.Forms.{name_tells, id_short_tells}
use Rattle.aas_constraint_laws.proofs.Places.{each_passes, locally_broken}

short : (n : ℕ) → nat_le n most_name_characters ≡ true → n ≤ 128
short n e = grind (arith, nat_tests)

path_name : (s : List ℕ) → is_name s ≡ true → nat_le (length s) most_name_characters ≡ true → is_id_short s ≡ true
path_name s named few =
    let is : name (encode_utf8_all s) = (name_tells s).0 named in
    (id_short_tells s).1 (is, subst (λ (bytes : List ℕ). length bytes ≤ 128) (sym (bytes_name s is)) (short (length s) few))

-- what has the form by its bytes has it by its characters
pub id_short_is : (s : List ℕ) → is_id_short s ≡ true → id_short s
id_short_is s e = let h : id_short (encode_utf8_all s) = (id_short_tells s).0 e in subst id_short (bytes_name s h.0) h

path_name_if : (o : Option (List ℕ)) → if_any is_name o ≡ true → if_any (λ s. nat_le (length s) most_name_characters) o ≡ true → if_any is_id_short o ≡ true
path_name_if None named few = refl
path_name_if (Some s) named few = path_name s named few

first_of_five : (a b c d e : Bool) → a && b && c && d && e ≡ true → a ≡ true
first_of_five true b c d e h = refl
first_of_five false b c d e h = h

short_name : (x : Seen) → seen_has_form x ≡ true → if_any (λ s. nat_le (length s) most_name_characters) x.id_short ≡ true
short_name x e =
    first_of_five (if_any (λ s. nat_le (length s) most_name_characters) x.id_short) (list_all extension_has_form x.extensions) (list_all qualifier_has_form x.qualifiers)
    (list_all specific_asset_id_has_form x.specific_asset_ids) (list_all (λ l. is_language l.language) x.lang_texts) e

-- what has no local fault has an idShort that a path can name, or none
pub named_own : (o : Own) → locally_broken o ≡ [] → if_any is_id_short o.common.id_short ≡ true
named_own o e =
    let all = each_passes (λ s. holds_locally s o) rules e in
    let form = and_left (element_has_form o) (list_all reference_has_form (references_of o)) all.0 in
    path_name_if o.common.id_short (and_left (id_short_is_name (seen_of o)) (list_all (λ r. true) (references_of o)) all.1.0)
    (short_name (seen_of o) (and_left (seen_has_form (seen_of o)) (payload_has_form o.payload) form))
