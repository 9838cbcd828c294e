-- What the test of sameness tells.
use Rattle.std.proofs.Common.{◌≡◌, ℕ, ◌&&◌, List, [], ◌∷◌, length, false, bytes_eq, refl, sym, ap, ap₂, true≢false, arith}
use Rattle.std.proofs.lemmas.Bool.{and_from, and_right as and_false}
use Rattle.std.specs.Bool.{Decides}
use Rattle.std.specs.List.{list_all, zip}
use Rattle.std.proofs.lemmas.Slice.Eq.{bytes_eq-Decides}
use Rattle.aas_model_names.specs.KeyTypeNames as key_type
use Rattle.aas_model_names.specs.ReferenceTypeNames as reference_type
use Rattle.aas_model.specs.declared.reference.Key.{Key}
use Rattle.aas_model.specs.declared.reference.Reference.{Reference, out-Reference}
use Rattle.aas_lemmas.proofs.Truth.{and_left, and_right}
use Rattle.aas_json_spelling.proofs.MemberTypes.{Found, same_named}
use Rattle.aas_reference.specs.Same.{IsSame, same_key, same_keys, same}

-- ---- keys in pairs

pub same_keys_zip : (as_ bs : List Key) → length as_ ≡ length bs → same_keys as_ bs ≡ list_all (λ p. same_key p.0 p.1) (zip as_ bs)
same_keys_zip [] [] e = refl
same_keys_zip [] (b ∷ bs) e = absurd (omega arith)
same_keys_zip (a ∷ as_) [] e = absurd (omega arith)
same_keys_zip (a ∷ as_) (b ∷ bs) e = ap (λ x. same_key a b && x) (same_keys_zip as_ bs (omega arith))

pub same_keys_other : (as_ bs : List Key) → (length as_ ≡ length bs → ⊥) → same_keys as_ bs ≡ false
same_keys_other [] [] e = absurd (e refl)
same_keys_other [] (b ∷ bs) e = refl
same_keys_other (a ∷ as_) [] e = refl
same_keys_other (a ∷ as_) (b ∷ bs) e = and_false (same_key a b) (same_keys as_ bs) (same_keys_other as_ bs (λ h. e (omega arith)))

-- ---- what the tests tell

named_same : {V : Type 0} (name : V → List ℕ) (all : List V) → Found name all → (v w : V) → Decides (bytes_eq (name v) (name w)) (v ≡ w)
named_same name all found v w = (λ e. same_named name all found v w ((bytes_eq-Decides (name v) (name w)).0 e), λ e. (bytes_eq-Decides (name v) (name w)).1 (ap name e))

key_same : (j k : Key) → Decides (same_key j k) (j ≡ k)
key_same j k =
    let types = named_same key_type.name_of key_type.all key_type.found j.key_type k.key_type in
    let values = bytes_eq-Decides j.value k.value in (
      λ e. λ i. record {
        key_type = types.0 (and_left (bytes_eq (key_type.name_of j.key_type) (key_type.name_of k.key_type)) (bytes_eq j.value k.value) e) i;
        value = values.0 (and_right (bytes_eq (key_type.name_of j.key_type) (key_type.name_of k.key_type)) (bytes_eq j.value k.value) e) i;
      },
      λ e. and_from (bytes_eq (key_type.name_of j.key_type) (key_type.name_of k.key_type)) (bytes_eq j.value k.value) (types.1 (ap (λ x. x.key_type) e)) (values.1 (ap (λ x. x.value) e)),
    )

keys_same : (as_ bs : List Key) → Decides (same_keys as_ bs) (as_ ≡ bs)
keys_same [] [] = (λ e. refl, λ e. refl)
keys_same [] (b ∷ bs) = (λ e. absurd (true≢false (sym e)), λ e. cc)
keys_same (a ∷ as_) [] = (λ e. absurd (true≢false (sym e)), λ e. cc)
keys_same (a ∷ as_) (b ∷ bs) = by_parts (key_same a b) (keys_same as_ bs)
  where
    first_same : a ∷ as_ ≡ b ∷ bs → a ≡ b
    first_same e = cc

    rest_same : a ∷ as_ ≡ b ∷ bs → as_ ≡ bs
    rest_same e = cc

    by_parts : Decides (same_key a b) (a ≡ b) → Decides (same_keys as_ bs) (as_ ≡ bs) → Decides (same_key a b && same_keys as_ bs) (a ∷ as_ ≡ b ∷ bs)
    by_parts first rest = (
      λ e. ap₂ (λ x xs. x ∷ xs) (first.0 (and_left (same_key a b) (same_keys as_ bs) e)) (rest.0 (and_right (same_key a b) (same_keys as_ bs) e)),
      λ e. and_from (same_key a b) (same_keys as_ bs) (first.1 (first_same e)) (rest.1 (rest_same e)),
    )

-- The test tells whether two references are the same.
pub same_tells : (a b : Reference) → Decides (same a b) (IsSame a b)
same_tells a b =
    let x = out-Reference a in
    let y = out-Reference b in
    let types = named_same reference_type.name_of reference_type.all reference_type.found x.ref_type y.ref_type in
    let keys = keys_same x.keys y.keys in
    let types_test = bytes_eq (reference_type.name_of x.ref_type) (reference_type.name_of y.ref_type) in
    let keys_test = same_keys x.keys y.keys in (
      λ e. record { types = types.0 (and_left types_test keys_test e); keys = keys.0 (and_right types_test keys_test e) },
      λ s. and_from types_test keys_test (types.1 s.types) (keys.1 s.keys),
    )
