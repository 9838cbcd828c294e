-- Numbers of JSON as texts that are written natively.
use Rattle.std.proofs.Common.{◌≡◌, ℕ, ℤ, pos, negsuc, ◌<◌, ◌^◌, true, List, Option, Some, None, refl, sym, ap}
use Rattle.std.proofs.Common.{◌∙◌, arith}
use Rattle.std.proofs.lemmas.Int.{ints}
use Rattle.std.specs.Prelude.{int_lt}
use Rattle.std.specs.Fmt.{signed_decimal, decimal}
use Rattle.std.specs.Str.{encode_utf8_all}
use Rattle.serde_json.specs.Data.{unsigned, negative, number}
use Rattle.serde_json.specs.Find.{as_u64, as_i64, of_integer}
use Rattle.serde_json.specs.Number.{num_of, is_valid}
use Rattle.serde_json.specs.declared.number.N.{N}
use Rattle.serde_json.specs.declared.number.N.TheVariants.{PosInt, NegInt, Float}
use Rattle.aas_lexical.specs.Natives.{is_numeric, IsWritten, native_of}
use Rattle.aas_lexical.specs.declared.natives.Native.{Native}
use Rattle.aas_lexical.specs.declared.natives.Native.TheVariants as native
use Rattle.aas_lexical.proofs.NativesExact.{native_full}
use Rattle.aas_model_names.specs.declared.value_type.ValueType.{ValueType}
use Rattle.aas_value.specs.Single.{single, native_or_text}

written_number : (t : ValueType) (z : ℤ) (text : List ℕ)
    → is_numeric t ≡ true → IsWritten z → encode_utf8_all text ≡ signed_decimal z
    → single t (Some text) ≡ number (of_integer z)
written_number t z text numeric written is =
    ap (λ (o : Option Native). native_or_text o text)
    (ap (native_of t) is ∙ native_full t (signed_decimal z) (native.Whole z) (numeric, refl, written))

unsigned_is : (n : ℕ) (x : N) → Some n ≡ as_u64 (num_of x) → num_of x ≡ unsigned n
unsigned_is n (PosInt m) e = let same : n ≡ m = cc in ap unsigned (sym same)
unsigned_is n (NegInt z) e = cc
unsigned_is n (Float f) e = cc

pub unsigned_written : (t : ValueType) (n : ℕ) (x : N) (text : List ℕ)
    → is_numeric t ≡ true → n < 2 ^ 64 → Some n ≡ as_u64 (num_of x)
    → encode_utf8_all text ≡ decimal n
    → single t (Some text) ≡ number (num_of x)
unsigned_written t n x text numeric small is same =
    written_number t (pos n) text numeric (omega (arith, ints), omega (arith, ints)) same
    ∙ ap number (sym (unsigned_is n x is))

below_zero : (z : ℤ) → int_lt z (pos 0) ≡ true → number (of_integer z) ≡ number (negative z)
below_zero (pos n) e = absurd (grind (arith, ints))
below_zero (negsuc n) e = refl

pub negative_written : (t : ValueType) (z : ℤ) (x : N) (text : List ℕ)
    → is_numeric t ≡ true → IsWritten z → is_valid x ≡ true → None ≡ as_u64 (num_of x)
    → Some z ≡ as_i64 (num_of x)
    → encode_utf8_all text ≡ signed_decimal z → single t (Some text) ≡ number (num_of x)
negative_written t z (PosInt m) text numeric written valid none is same = absurd (no_none m none)
  where
    no_none : (m : ℕ) → ◌≡◌ {A = Option ℕ} None (Some m) → ⊥
    no_none m e = cc
negative_written t z (NegInt y) text numeric written valid none is same =
    let one : z ≡ y = cc in
    written_number t z text numeric written same ∙ ap (λ x. number (of_integer x)) one ∙ below_zero y valid
negative_written t z (Float f) text numeric written valid none is same = cc
