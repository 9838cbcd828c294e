-- What an accepted change comes to.
use Rattle.std.proofs.Common.{◌≡◌, ℕ, ◌<◌, length, Bool, true, false, List, [], ◌∷◌, Option, Some, None, refl, sym, ap}
use Rattle.std.proofs.Common.{ap₂, ◌∙◌, subst, arith}
use Rattle.std.specs.Prelude.{◌≢◌, MatchOption, option_map}
use Rattle.std.specs.FinMap as map
use Rattle.std.specs.Option.{option_map_or}
use Rattle.std.specs.Str.{encode_utf8_all}
use Rattle.aas_command.specs.Refusals.{refusal_of_fault}
use Rattle.aas_command.specs.declared.command.Command.{Command}
use Rattle.aas_command.specs.declared.refusal.Refusal.TheVariants.{StorageFull, TooMany}
use Rattle.aas_constraint_rules.specs.Faults.{submodel}
use Rattle.aas_model.specs.declared.common.Head.{Head}
use Rattle.aas_model.specs.declared.documents.Submodel.{Submodel}
use Rattle.aas_model.specs.declared.path.Fault.{Fault}
use Rattle.aas_model.specs.declared.path.PathStep.{PathStep}
use Rattle.aas_reference.specs.Rules.{first}
use Rattle.aas_step.specs.Causes.{Cause, first_of, unless, when}
use Rattle.aas_step.specs.Laws.{ValidIsStorable}
use Rattle.aas_step.specs.Step.{later_causes}
use Rattle.aas_step.specs.Valid.{AreValid}
use Rattle.aas_store.specs.Documents.{Documents}
use Rattle.aas_store.specs.Edited.{Holds, with_changed}
use Rattle.aas_store.specs.Storable.{IsStorable}
use Rattle.aas_repo_documents.proofs.Decided.{makes, refuses}
use Rattle.aas_repo_documents.proofs.Edited.{makes_one}
use Rattle.aas_repo_documents.specs.Accepted.{IsAccepted}
use Rattle.aas_repo_documents.specs.Decisions.{Edits, IsDecision}
use Rattle.aas_repo_documents.specs.declared.decision.Decision.TheVariants as decision

-- ---- by the submodel of an identifier

-- what holds of the submodel of an identifier, by its bytes
pub holds_at : (d : Documents) (id bytes : List ℕ) (P : Submodel → Type 0) → bytes ≡ id → Holds d id P → Holds d bytes P
holds_at d id bytes P same holds = subst (λ (b : List ℕ). Holds d b P) (sym same) holds

pub holds_then : (d : Documents) (id : List ℕ) (P Q : Submodel → Type 0)
    → ((s : Submodel) → map.get d.submodels id ≡ Some s → P s → Q s) → Holds d id P → Holds d id Q
holds_then d id P Q then holds = by_submodel (map.get d.submodels id) refl holds
  where
    by_submodel : (found : Option Submodel)
        → map.get d.submodels id ≡ found → MatchOption found ⊥ P → MatchOption found ⊥ Q
    by_submodel None is holds = absurd holds
    by_submodel (Some s) is holds = then s is holds

pub some_steps : (p : List PathStep) → p ≢ [] → 0 < length p
some_steps [] some = absurd (some refl)
some_steps (s ∷ p) some = omega arith

-- ---- an accepted change

module _ (d : Documents) (c : Command) (id : List ℕ) (causes_in : Submodel → List Cause) (changed : Submodel → Submodel)
    (edits : Edits c id causes_in changed d) where
  abbrev Accepted : Submodel → Type 0
  Accepted = IsAccepted causes_in changed

  pub storable : ValidIsStorable → Holds d (encode_utf8_all id) Accepted
      → Holds d (encode_utf8_all id) (λ s. IsStorable (changed s))
  storable law = holds_then d (encode_utf8_all id) Accepted (λ s. IsStorable (changed s)) (λ s there accepted.
      law (changed s) accepted.valid accepted.few)

  later : (s : Submodel) (has_room : Bool) → Accepted s
      → first_of (unless has_room StorageFull ∷ []) ≡ first_of (later_causes has_room (submodel (changed s) ∷ []))
  later s has_room accepted =
      sym (ap₂ (λ (fs : List Fault) (b : Bool).
      first_of (option_map refusal_of_fault (first fs) ∷ when b TooMany ∷ unless has_room StorageFull ∷ []))
      accepted.valid.faultless accepted.few)

  pub no_room : Holds d (encode_utf8_all id) Accepted → IsDecision false d c d (decision.Refused StorageFull)
  no_room holds = by_submodel (map.get d.submodels (encode_utf8_all id)) refl holds
    where
      by_submodel : (found : Option Submodel)
          → map.get d.submodels (encode_utf8_all id) ≡ found → MatchOption found ⊥ Accepted
          → IsDecision false d c d (decision.Refused StorageFull)
      by_submodel None is holds = absurd holds
      by_submodel (Some s) is accepted =
          refuses false d d c (submodel (changed s)) StorageFull
          (makes_one d c id causes_in changed edits s is accepted.no_cause) (later s false accepted) refl

  -- the change of one that keeps its identifier
  pub made : (new : Documents)
      → AreValid d → ((s : Submodel) → (changed s).head ≡ s.head) → Holds d (encode_utf8_all id) Accepted
      → new ≡ with_changed d (encode_utf8_all id) changed → IsDecision true d c new decision.Made
  made new valid same_head holds same = by_submodel (map.get d.submodels (encode_utf8_all id)) refl holds
    where
      by_submodel : (found : Option Submodel)
          → map.get d.submodels (encode_utf8_all id) ≡ found → MatchOption found ⊥ Accepted
          → IsDecision true d c new decision.Made
      by_submodel None is holds = absurd holds
      by_submodel (Some s) is accepted =
          let own : encode_utf8_all id ≡ encode_utf8_all (changed s).head.id =
          sym
          (ap (λ (h : Head). encode_utf8_all h.id) (same_head s) ∙ (valid.submodels (encode_utf8_all id) s is).own) in
          makes true d new c (submodel (changed s))
          (makes_one d c id causes_in changed edits s is accepted.no_cause) (later s true accepted)
          (same
          ∙ ap (λ (o : Option Submodel).
          option_map_or (λ s. record d { submodels = map.insert d.submodels (encode_utf8_all id) (changed s) }) o d)
          is
          ∙ ap (λ (k : List ℕ). record d { submodels = map.insert d.submodels k (changed s) }) own)
