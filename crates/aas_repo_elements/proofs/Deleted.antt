-- What the deletion of an element comes to.
use Rattle.std.proofs.Common.{◌≡◌, ◌⊎◌, ℕ, ◌+◌, Bool, true, false, List, [], ◌∷◌, Option, Some, None, inl, inr, refl}
use Rattle.std.proofs.Common.{sym, ap, ◌∙◌, subst, arith}
use Rattle.std.proofs.lemmas.Bool.Decides.{nat_tests}
use Rattle.std.specs.Prelude.{◌≢◌, IsSome, MatchOption, nat_lt, take}
use Rattle.std.specs.FinMap as map
use Rattle.std.specs.Str.{encode_utf8_all}
use Rattle.aas_command.specs.declared.command.Command.TheVariants.{DeleteElement}
use Rattle.aas_command.specs.declared.refusal.Absent.TheVariants as absent
use Rattle.aas_command.specs.declared.refusal.Refusal.{Refusal}
use Rattle.aas_command.specs.declared.refusal.Refusal.TheVariants.{NoMemory, NotFound, StorageFull}
use Rattle.aas_edit_faults.specs.Laws.{EditsCount, EditsKeepValid}
use Rattle.aas_edit_laws.proofs.Attributes.{remove_keeps_attributes}
use Rattle.aas_model.specs.declared.documents.Submodel.{Submodel}
use Rattle.aas_model.specs.declared.element.Element.{Element}
use Rattle.aas_model.specs.declared.path.Missing.{Missing}
use Rattle.aas_model.specs.declared.path.Path.{Path}
use Rattle.aas_model.specs.declared.path.PathStep.{PathStep}
use Rattle.aas_path_trees.specs.Edits.{removed}
use Rattle.aas_path_trees.specs.ElementAt.{depth_found, element_at}
use Rattle.aas_rows.specs.declared.view.RowView.{RowView}
use Rattle.aas_step.specs.Causes.{delete_causes, first_of, unless}
use Rattle.aas_step.specs.Lost.{IsRefusalOf}
use Rattle.aas_step.specs.Valid.{AreValid}
use Rattle.aas_store.specs.Documents.{Documents}
use Rattle.aas_store.specs.Edited.{Holds, LeadsNowhere, with_changed}
use Rattle.aas_store.specs.Reads.{IsRowOf}
use Rattle.aas_store.specs.declared.lack.Lack.{Lack}
use Rattle.aas_store.specs.declared.lack.Lack.TheVariants as lack
use Rattle.aas_path_trees.specs.Patched.{element_count}
use Rattle.aas_repo_documents.proofs.Accepted as accepted
use Rattle.aas_repo_documents.proofs.Accepted.{holds_at, holds_then, some_steps}
use Rattle.aas_repo_documents.proofs.Edited as edited
use Rattle.aas_repo_documents.proofs.Reached.{is_missing_at}
use Rattle.aas_repo_documents.specs.Accepted.{IsAccepted}
use Rattle.aas_repo_documents.specs.Decisions.{Edits, IsDecision, decision_of}
use Rattle.aas_repo_documents.specs.declared.decision.Decision.TheVariants as decision

module _ (d : Documents) (id : List ℕ) (p : Path) where
  abbrev causes_in : Submodel → List (Option Refusal)
  causes_in = delete_causes p.steps

  abbrev changed : Submodel → Submodel
  changed s = removed s p.steps

  edits : Edits (DeleteElement id p) id causes_in changed d
  edits = record { causes_are = refl; made = λ new is. is; left_are = refl }

  -- ---- what a store answers

  pub is_found : (bytes : List ℕ) (row : RowView) → bytes ≡ encode_utf8_all id
      → Holds d bytes (λ s. MatchOption (element_at s p.steps) ⊥ (λ e. IsRowOf e row))
      → Holds d (encode_utf8_all id) (λ s. IsSome (element_at s p.steps))
  is_found bytes row same holds =
      holds_at d bytes (encode_utf8_all id) (λ s. IsSome (element_at s p.steps)) (sym same)
      (holds_then d bytes (λ s. MatchOption (element_at s p.steps) ⊥ (λ e. IsRowOf e row))
      (λ s. IsSome (element_at s p.steps)) (λ s there is. some (element_at s p.steps) is) holds)
    where
      some : (o : Option Element) → MatchOption o ⊥ (λ e. IsRowOf e row) → IsSome o
      some None is = absurd is
      some (Some e) is = refl

  no_memory : (r : Refusal) → r ≡ NoMemory → (room : Bool) → IsDecision room d (DeleteElement id p) d (decision_of r)
  no_memory r is room = subst (λ (r : Refusal). IsDecision room d (DeleteElement id p) d (decision_of r)) (sym is) refl

  submodel_lost : (bytes : List ℕ) → bytes ≡ encode_utf8_all id → map.get d.submodels bytes ≡ None
      → (room : Bool) → IsDecision room d (DeleteElement id p) d (decision_of (NotFound absent.Submodel))
  submodel_lost bytes same none room =
      edited.is_missing d (DeleteElement id p) id causes_in changed edits room d
      (ap (map.get d.submodels) (sym same) ∙ none) refl

  element_lost : (bytes : List ℕ) (m : Missing) (r : Refusal)
      → bytes ≡ encode_utf8_all id → p.steps ≢ [] → Holds d bytes (λ s. LeadsNowhere s p.steps m)
      → (r ≡ NoMemory) ⊎ (r ≡ NotFound (absent.Element (record { steps = take m.steps p.steps })))
      → (room : Bool) → IsDecision room d (DeleteElement id p) d (decision_of r)
  element_lost bytes m r same some nowhere made room =
      by_submodel (map.get d.submodels (encode_utf8_all id)) refl
      (holds_at d bytes (encode_utf8_all id) (λ s. LeadsNowhere s p.steps m) (sym same) nowhere)
    where
      by_submodel : (found : Option Submodel)
          → map.get d.submodels (encode_utf8_all id) ≡ found → MatchOption found ⊥ (λ s. LeadsNowhere s p.steps m)
          → IsDecision room d (DeleteElement id p) d (decision_of r)
      by_submodel None is nowhere = absurd nowhere
      by_submodel (Some s) is nowhere =
          edited.is_refused d (DeleteElement id p) id causes_in changed edits room d s r is
          (λ other. is_missing_at s p.steps m.steps r [] (some_steps p.steps some) nowhere.0 nowhere.1 made other) refl

  pub is_lost_by : (bytes : List ℕ) (l : Lack) (r : Refusal)
      → bytes ≡ encode_utf8_all id → p.steps ≢ [] → (l ≡ lack.NoSubmodel → map.get d.submodels bytes ≡ None)
      → ((m : Missing) → l ≡ lack.NoElement m → Holds d bytes (λ s. LeadsNowhere s p.steps m))
      → (r ≡ NoMemory) ⊎ IsRefusalOf p.steps l r
      → (room : Bool) → IsDecision room d (DeleteElement id p) d (decision_of r)
  is_lost_by bytes l r same some none nowhere (inl is) room = no_memory r is room
  is_lost_by bytes lack.NoSubmodel r same some none nowhere (inr is) room =
      subst (λ (r : Refusal). IsDecision room d (DeleteElement id p) d (decision_of r))
      (sym is) (submodel_lost bytes same (none refl) room)
  is_lost_by bytes (lack.NoElement m) r same some none nowhere (inr is) room =
      element_lost bytes m r same some (nowhere m refl) (inr is) room
  is_lost_by bytes lack.NoMemory r same some none nowhere (inr is) room = no_memory r is room

  -- ---- an element that is there

  fewer : (n k m : ℕ) → n + k ≡ m → nat_lt 65536 m ≡ false → nat_lt 65536 n ≡ false
  fewer n k m sum few = grind (arith, nat_tests)

  is_accepted : EditsKeepValid → EditsCount → AreValid d
      → Holds d (encode_utf8_all id) (λ s. IsSome (element_at s p.steps))
      → Holds d (encode_utf8_all id) (IsAccepted causes_in changed)
  is_accepted keep count valid there =
      holds_then d (encode_utf8_all id) (λ s. IsSome (element_at s p.steps)) (IsAccepted causes_in changed)
      (λ s is some. by_steps s is p.steps some) there
    where
      by_found : (s : Submodel) → map.get d.submodels (encode_utf8_all id) ≡ Some s
          → (q : List PathStep) (found : Option Element) → element_at s q ≡ found → IsSome found
          → nat_lt 65536 (element_count (removed s q)) ≡ false
      by_found s is q None at some = absurd (cc)
      by_found s is q (Some o) at some =
          fewer _ _ _ (count.removed s q o at) (valid.submodels (encode_utf8_all id) s is).few

      by_steps : (s : Submodel)
          → map.get d.submodels (encode_utf8_all id) ≡ Some s → (q : List PathStep) → IsSome (element_at s q)
          → IsAccepted (delete_causes q) (λ s. removed s q) s
      by_steps s is [] some = absurd (cc)
      by_steps s is (t ∷ q) some = record {
        no_cause =
            ap (λ (b : Bool). first_of
            (unless b (NotFound (absent.Element (record { steps = take (depth_found s (t ∷ q)) (t ∷ q) }))) ∷ []))
            some;
        valid = keep.removed s (t ∷ q) (valid.submodels (encode_utf8_all id) s is).valid;
        few = by_found s is (t ∷ q) (element_at s (t ∷ q)) refl some;
      }

  pub no_room : EditsKeepValid → EditsCount → AreValid d
      → Holds d (encode_utf8_all id) (λ s. IsSome (element_at s p.steps))
      → IsDecision false d (DeleteElement id p) d (decision.Refused StorageFull)
  no_room keep count valid there =
      accepted.no_room d (DeleteElement id p) id causes_in changed edits (is_accepted keep count valid there)

  pub deleted : (new : Documents) (bytes : List ℕ)
      → EditsKeepValid → EditsCount → AreValid d → Holds d (encode_utf8_all id) (λ s. IsSome (element_at s p.steps))
      → bytes ≡ encode_utf8_all id → new ≡ with_changed d bytes changed
      → IsDecision true d (DeleteElement id p) new decision.Made
  deleted new bytes keep count valid there same is =
      accepted.made d (DeleteElement id p) id causes_in changed edits new valid
      (λ s. (remove_keeps_attributes s p.steps).head) (is_accepted keep count valid there)
      (is ∙ ap (λ (b : List ℕ). with_changed d b changed) same)
