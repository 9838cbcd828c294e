-- What a path leads to, and that it leads nowhere.
use Rattle.std.proofs.Common.{◌≡◌, ◌⊎◌, inl, inr, ⊎_elim, ℕ, ◌<◌, List, [], ◌∷◌, length, Option, Some, None, Err, refl}
use Rattle.std.proofs.Common.{sym, ap, ◌∙◌, subst, arith}
use Rattle.std.specs.Prelude.{is_some, MatchOption, take}
use Rattle.std.specs.Option.{option_map_or}
use Rattle.aas_command.specs.declared.refusal.Absent.TheVariants as absent
use Rattle.aas_command.specs.declared.refusal.Refusal.{Refusal}
use Rattle.aas_command.specs.declared.refusal.Refusal.TheVariants.{NotFound}
use Rattle.aas_command.specs.declared.refusal.Refusal.TheVariants as refused
use Rattle.aas_model.specs.declared.documents.Submodel.{Submodel}
use Rattle.aas_model.specs.declared.element.Element.{Element}
use Rattle.aas_model.specs.declared.path.Missing.{Missing}
use Rattle.aas_model.specs.declared.path.PathStep.{PathStep}
use Rattle.aas_path_trees.specs.ElementAt.{depth_found, element_at}
use Rattle.aas_form.proofs.Keys.{reference_is_there}
use Rattle.aas_form.specs.ReferenceTo.{reference_to}
use Rattle.aas_store.specs.Edited.{Holds, LeadsNowhere}
use Rattle.aas_store.specs.Documents.{Documents}
use Rattle.aas_store.specs.Reads.{IsRowOf}
use Rattle.aas_store.specs.declared.lack.Lack.{Lack}
use Rattle.aas_store.specs.declared.lack.Lack.TheVariants as lack
use Rattle.aas_rows.specs.declared.view.RowView.{RowView}
use Rattle.std.specs.FinMap as map
use Rattle.std.specs.Str.{encode_utf8_all}
use Rattle.aas_lemmas.proofs.Truth.{None-from_is_some}
use Rattle.aas_answer.specs.Answers.{Answer, lost, of_element, of_reference}
use Rattle.aas_answer.specs.Found.{IsFound, IsLost}
use Rattle.aas_step.specs.Lost.{IsRefusalOf}

-- ---- what a store answers

pub found_at : (d : Documents) (id : List ℕ) (p : List PathStep) (s : Submodel) (e : Element)
    → map.get d.submodels (encode_utf8_all id) ≡ Some s → element_at s p ≡ Some e → IsFound d id p e
found_at d id p s e found at answer =
    ap (λ o. option_map_or (λ s. option_map_or answer (element_at s p) (lost p s)) o (Err (NotFound absent.Submodel)))
    found
    ∙ ap (λ o. option_map_or answer o (lost p s)) at

-- the row of what a path leads to
pub row_found : (d : Documents) (id bytes : List ℕ) (p : List PathStep) (row : RowView) → bytes ≡ encode_utf8_all id
    → Holds d bytes (λ s. MatchOption (element_at s p) ⊥ (λ e. IsRowOf e row))
    → (e : Element) × IsFound d id p e × IsRowOf e row
row_found d id bytes p row same held =
    by (map.get d.submodels (encode_utf8_all id)) refl
    (subst (λ b. Holds d b (λ s. MatchOption (element_at s p) ⊥ (λ e. IsRowOf e row))) same held)
  where
    at : (s : Submodel) → map.get d.submodels (encode_utf8_all id) ≡ Some s → (o : Option Element)
        → element_at s p ≡ o → MatchOption o ⊥ (λ e. IsRowOf e row)
        → (e : Element) × IsFound d id p e × IsRowOf e row
    at s found None none is = absurd is
    at s found (Some e) there is = (e, found_at d id p s e found there, is)

    by : (o : Option Submodel) → map.get d.submodels (encode_utf8_all id) ≡ o
        → MatchOption o ⊥ (λ s. MatchOption (element_at s p) ⊥ (λ e. IsRowOf e row))
        → (e : Element) × IsFound d id p e × IsRowOf e row
    by None none is = absurd is
    by (Some s) found is = at s found (element_at s p) refl is

not_there : List PathStep → ℕ → Answer
not_there p n = Err (NotFound (absent.Element (record { steps = take n p })))

pub stored_lost : (found : Option Submodel) (p : List PathStep) (m : Missing) (r none : Refusal) (A : Element → Answer)
    → MatchOption found ⊥ (λ s. LeadsNowhere s p m) → r ≡ NotFound (absent.Element (record { steps = take m.steps p }))
    → option_map_or (λ s. option_map_or A (element_at s p) (lost p s)) found (Err none) ≡ Err r
unfolding not_there
stored_lost None p m r none A there is = absurd there
stored_lost (Some s) p m r none A there is =
    ap (λ (o : Option Element). option_map_or A o (lost p s)) there.0 ∙ ap (not_there p) (sym there.1) ∙ ap Err (sym is)

pub element_lost : (d : Documents) (id bytes : List ℕ)
    (p : List PathStep) (m : Missing) (r : Refusal) (A : Element → Answer)
    → bytes ≡ encode_utf8_all id
    → Holds d bytes (λ s. LeadsNowhere s p m) → r ≡ NotFound (absent.Element (record { steps = take m.steps p }))
    → of_element d id p A ≡ Err r
element_lost d id bytes p m r A same there is =
    stored_lost (map.get d.submodels (encode_utf8_all id)) p m r (NotFound absent.Submodel) A
    (subst (λ (b : List ℕ). Holds d b (λ s. LeadsNowhere s p m)) same there) is

-- a refusal that says what a store lacks is right
pub lack_told : (d : Documents) (id bytes : List ℕ) (p : List PathStep) (l : Lack) (r : Refusal)
    → bytes ≡ encode_utf8_all id → (l ≡ lack.NoSubmodel → map.get d.submodels bytes ≡ None)
    → ((m : Missing) → l ≡ lack.NoElement m → Holds d bytes (λ s. LeadsNowhere s p m))
    → (r ≡ refused.NoMemory) ⊎ IsRefusalOf p l r → IsLost d id p r
lack_told d id bytes p l r same none nowhere told = ⊎_elim (λ memory. inl memory) (λ is. by l refl is) told
  where
    by : (x : Lack) → l ≡ x → IsRefusalOf p x r → IsLost d id p r
    by lack.NoSubmodel is says =
        inr (λ answer. ap (λ o.
        option_map_or (λ s. option_map_or answer (element_at s p) (lost p s)) o (Err (NotFound absent.Submodel)))
        (ap (map.get d.submodels) (sym same) ∙ none is)
        ∙ ap Err (sym says))
    by (lack.NoElement m) is says = inr (λ answer. element_lost d id bytes p m r answer same (nowhere m is) says)
    by lack.NoMemory is says = inl says

pub reference_lost : (s : Submodel) (p : List PathStep) (m : Missing) (r : Refusal)
    → reference_to s p ≡ None → m.steps ≡ depth_found s p
    → r ≡ NotFound (absent.Element (record { steps = take m.steps p }))
    → of_reference (reference_to s p) (lost p s) ≡ Err r
unfolding not_there
reference_lost s p m r none depth is =
    ap (λ o. of_reference o (lost p s)) none ∙ ap (not_there p) (sym depth) ∙ ap Err (sym is)

-- a path without an element has no reference
pub no_reference : (s : Submodel) (p : List PathStep) → 0 < length p → element_at s p ≡ None → reference_to s p ≡ None
no_reference s [] some none = absurd (omega (arith, some))
no_reference s (t ∷ p) some none =
    None-from_is_some (reference_to s (t ∷ p)) (reference_is_there s t p ∙ ap is_some none)
