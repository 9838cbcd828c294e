-- What a store asks of a submodel that accepts a change, by the bytes of its identifier.
use Rattle.std.proofs.Common.{◌≡◌, ℕ, List}
use Rattle.std.specs.Str.{encode_utf8_all}
use Rattle.aas_model.specs.declared.documents.Submodel.{Submodel}
use Rattle.aas_step.specs.Causes.{Cause}
use Rattle.aas_step.specs.Laws.{ValidIsStorable}
use Rattle.aas_store.specs.Documents.{Documents}
use Rattle.aas_store.specs.Edited.{Holds}
use Rattle.aas_store.specs.Storable.{IsStorable}
use Rattle.aas_repo_documents.proofs.Accepted.{holds_at, holds_then}
use Rattle.aas_repo_documents.specs.Accepted.{IsAccepted}

module _ (d : Documents) (id bytes : List ℕ) (causes_in : Submodel → List Cause)
    (changed : Submodel → Submodel) (same : bytes ≡ encode_utf8_all id)
    (accepted : Holds d (encode_utf8_all id) (IsAccepted causes_in changed)) where
  pub by_bytes : (P : Submodel → Type 0) → ((s : Submodel) → IsAccepted causes_in changed s → P s) → Holds d bytes P
  by_bytes P then =
      holds_at d (encode_utf8_all id) bytes P same
      (holds_then d (encode_utf8_all id) (IsAccepted causes_in changed) P (λ s there one. then s one) accepted)

  pub can_store : ValidIsStorable → Holds d bytes (λ s. IsStorable (changed s))
  can_store law = by_bytes (λ s. IsStorable (changed s)) (λ s one. law (changed s) one.valid one.few)
