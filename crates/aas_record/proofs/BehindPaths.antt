-- An element behind a path: its level is that of the path.
use Rattle.std.proofs.Common.{◌≡◌, ◌+◌, ⊎_elim, inl, inr, ℕ, List, [], ◌∷◌, length, refl, sym, ◌∙◌, ap, subst}
use Rattle.aas_json_mapping.specs.Trees.{elements}
use Rattle.aas_json_table.specs.TooDeep.{Levels}
use Rattle.aas_model.specs.declared.element.Element.{Element}
use Rattle.aas_model.specs.declared.path.PathStep.{PathStep}
use Rattle.aas_edit_laws.specs.Laws.{at_level}
use Rattle.aas_path.specs.PathText.{path_text}
use Rattle.aas_path_trees.specs.PathRule.{KeepsRule}
use Rattle.aas_command.specs.Commands.{IsPlace}
use Rattle.aas_command.proofs.PathTexts.{is_place}
use Rattle.aas_document_read.specs.Canonical.{IsCanonical}
use Rattle.aas_record.specs.FieldTypes.{HasType, child, element}
use Rattle.aas_record.specs.Reading.{IsLastFault}
use Rattle.aas_record.specs.declared.fault.RecordFault.{RecordFault}
use Rattle.aas_record.specs.declared.fault.RecordFault.TheVariants.{NotARecord, NoMemory}
use Rattle.aas_record.proofs.Places.{one_place}

pub whole_below : (l m : ℕ) (e : Element)
    → at_level l ≡ at_level m → elements.IsWhole (at_level l) e → elements.IsWhole (at_level m) e
whole_below l m e same whole = subst (λ (left : Levels). elements.IsWhole left e) same whole

-- ---- the type, by the one path of the text before it

child_form : (id content : List ℕ) (p : List PathStep) (l : ℕ) → IsPlace p → at_level l ≡ at_level (length p + 1)
    → HasType child (id ∷ path_text p ∷ []) content → IsCanonical elements (at_level l) content
child_form id content p l keeps same (q, other, text, is) =
    let one = one_place p q keeps other text in
    subst (λ (left : Levels). IsCanonical elements left content)
    (sym (same ∙ ap (λ (o : List PathStep). at_level (length o + 1)) one)) is

element_form : (id content : List ℕ) (p : List PathStep) (l : ℕ) → KeepsRule p → at_level l ≡ at_level (length p)
    → HasType element (id ∷ path_text p ∷ []) content → IsCanonical elements (at_level l) content
element_form id content p l keeps same (q, other, text, is) =
    let one = one_place p q (is_place p keeps) (is_place q other) text in
    subst (λ (left : Levels). IsCanonical elements left content)
    (sym (same ∙ ap (λ (o : List PathStep). at_level (length o)) one)) is

pub is_child : (id content : List ℕ) (p : List PathStep) (l : ℕ) → IsPlace p → at_level l ≡ at_level (length p + 1)
    → IsCanonical elements (at_level l) content → HasType child (id ∷ path_text p ∷ []) content
is_child id content p l keeps same is =
    (p, keeps, refl, subst (λ (left : Levels). IsCanonical elements left content) same is)

pub is_element : (id content : List ℕ) (p : List PathStep) (l : ℕ) → KeepsRule p → at_level l ≡ at_level (length p)
    → IsCanonical elements (at_level l) content → HasType element (id ∷ path_text p ∷ []) content
is_element id content p l keeps same is =
    (p, keeps, refl, subst (λ (left : Levels). IsCanonical elements left content) same is)

-- ---- a last field that isn't of a type isn't of another that gives it

module _ (F G : List ℕ → Type 0) (to : (content : List ℕ) → F content → G content)
    (from : (content : List ℕ) → G content → F content) where
  pub same_fault : (at : ℕ) (bytes : List ℕ) (fault : RecordFault)
      → IsLastFault G at bytes fault → IsLastFault F at bytes fault
  same_fault at bytes (NotARecord there) fails = ⊎_elim
      (λ (lacks, is). inl (λ content rest begins has. lacks content rest begins (to content has), is))
      (λ (content, rest, begins, has, more). inr (content, rest, begins, from content has, more))
      fails
  same_fault at bytes NoMemory fails = tt

module _ (id bytes : List ℕ) (p : List PathStep) (l at : ℕ) (fault : RecordFault)
    (fails : IsLastFault (IsCanonical elements (at_level l)) at bytes fault) where
  pub fault_below : IsPlace p → at_level l ≡ at_level (length p + 1)
      → IsLastFault (HasType child (id ∷ path_text p ∷ [])) at bytes fault
  fault_below keeps same = same_fault _ _ (λ content. child_form id content p l keeps same)
      (λ content. is_child id content p l keeps same) at bytes fault fails

  pub fault_here : KeepsRule p → at_level l ≡ at_level (length p)
      → IsLastFault (HasType element (id ∷ path_text p ∷ [])) at bytes fault
  fault_here keeps same = same_fault _ _ (λ content. element_form id content p l keeps same)
      (λ content. is_element id content p l keeps same) at bytes fault fails
