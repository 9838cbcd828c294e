-- What is wanted of the keys of a reference and of those within it, level by level.
use Rattle.std.proofs.Common.{◌≡◌, ◌&&◌, [], ◌∷◌, Bool, Option, Some, None, option_map, unwrap_or, ap, ◌∙◌}
use Rattle.std.specs.List.{list_all}
use Rattle.std.proofs.Math.Bool.{and-true}
use Rattle.aas_model.specs.declared.reference.Key.{Key}
use Rattle.aas_model.specs.declared.reference.Reference.{Reference, out-Reference}
use Rattle.aas_reference.specs.Rules.{levels_of}
use Rattle.aas_reference.specs.Faults.{level_of}
use Rattle.aas_reference.proofs.Faults.{levels_out}
use Rattle.aas_constraint_rules.specs.Decided.{is_identifier, is_string}
use Rattle.aas_constraint_rules.specs.Lexical.{reference_has_form}
use Rattle.aas_constraint_rules.specs.Rules.{reference_is_string}

levels_with : (r : Reference) (o : Option Reference) → (out-Reference r).referred ≡ o → levels_of r ≡ level_of r ∷ unwrap_or (option_map levels_of o) []
levels_with r o e = levels_out r ∙ ap (λ x. level_of r ∷ unwrap_or (option_map levels_of x) []) e

abbrev each_key : (Key → Bool) → Reference → Bool
each_key test r = list_all (λ x. list_all test x.keys) (levels_of r)

outer : (test : Key → Bool) (r : Reference) → (out-Reference r).referred ≡ None → each_key test r ≡ list_all test (out-Reference r).keys
outer test r e = ap (list_all (λ x. list_all test x.keys)) (levels_with r None e) ∙ and-true (list_all test (out-Reference r).keys)

inner : (test : Key → Bool) (r s : Reference) → (out-Reference r).referred ≡ Some s → each_key test r ≡ (list_all test (out-Reference r).keys && each_key test s)
inner test r s e = ap (list_all (λ x. list_all test x.keys)) (levels_with r (Some s) e)

pub form_outer : (r : Reference) → (out-Reference r).referred ≡ None → reference_has_form r ≡ list_all (λ k. is_identifier k.value) (out-Reference r).keys
form_outer r e = outer (λ k. is_identifier k.value) r e

pub form_inner : (r s : Reference) → (out-Reference r).referred ≡ Some s → reference_has_form r ≡ (list_all (λ k. is_identifier k.value) (out-Reference r).keys && reference_has_form s)
form_inner r s e = inner (λ k. is_identifier k.value) r s e

-- ---- the characters of the values

pub string_outer : (r : Reference) → (out-Reference r).referred ≡ None → reference_is_string r ≡ list_all (λ k. is_string k.value) (out-Reference r).keys
string_outer r e = outer (λ k. is_string k.value) r e

pub string_inner : (r s : Reference) → (out-Reference r).referred ≡ Some s → reference_is_string r ≡ (list_all (λ k. is_string k.value) (out-Reference r).keys && reference_is_string s)
string_inner r s e = inner (λ k. is_string k.value) r s e
