-- Sameness of references: equal reference type and equal key lists; referredSemanticId isn't compared. This profile's own rule.
use Rattle.std.specs.Prelude.{◌≡◌, ◌&&◌, Bool, true, false, List, [], ◌∷◌, bytes_eq}
use Rattle.aas_model_names.specs.KeyTypeNames as key_type
use Rattle.aas_model_names.specs.ReferenceTypeNames as reference_type
use Rattle.aas_model.specs.declared.reference.Key.{Key}
use Rattle.aas_model.specs.declared.reference.Reference.{Reference, out-Reference}

pub record IsSame (a b : Reference) : Type 0 where
  pub types : (out-Reference a).ref_type ≡ (out-Reference b).ref_type
  pub keys : (out-Reference a).keys ≡ (out-Reference b).keys

-- the same as a test: names differ between values
abbrev pub same_key : Key → Key → Bool
same_key a b = bytes_eq (key_type.name_of a.key_type) (key_type.name_of b.key_type) && bytes_eq a.value b.value

abbrev pub same_keys : List Key → List Key → Bool
same_keys [] [] = true
same_keys (a ∷ as_) (b ∷ bs) = same_key a b && same_keys as_ bs
same_keys as_ bs = false

abbrev pub same : Reference → Reference → Bool
same a b = bytes_eq (reference_type.name_of (out-Reference a).ref_type) (reference_type.name_of (out-Reference b).ref_type) && same_keys (out-Reference a).keys (out-Reference b).keys
