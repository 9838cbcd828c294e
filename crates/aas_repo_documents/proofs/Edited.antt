-- What a command on an element comes to, by the submodel that is there.
use Rattle.std.proofs.Common.{◌≡◌, Bool, true, List, [], ◌∷◌, Option, Some, None, refl, sym, ap, ◌∙◌}
use Rattle.std.specs.Prelude.{◌≢◌, ℕ, is_some}
use Rattle.std.specs.FinMap as map
use Rattle.std.specs.Option.{option_map_or}
use Rattle.std.specs.Str.{encode_utf8_all}
use Rattle.aas_command.specs.Commands.{IsWellFormed}
use Rattle.aas_command.specs.declared.command.Command.{Command}
use Rattle.aas_command.specs.declared.command.Command.TheVariants.{ReplaceElement}
use Rattle.aas_command.specs.declared.refusal.Refusal.{Refusal}
use Rattle.aas_command.specs.declared.refusal.Refusal.TheVariants.{NoMemory, NotFound, StorageFault}
use Rattle.aas_constraint_rules.specs.Faults.{submodel}
use Rattle.aas_json_mapping.specs.Whole.{is_whole_submodel}
use Rattle.aas_json_table.specs.TooDeep.{limits}
use Rattle.aas_model.specs.declared.documents.Submodel.{Submodel}
use Rattle.aas_model.specs.declared.element.Element.{Element}
use Rattle.aas_model.specs.declared.path.Path.{Path}
use Rattle.aas_model_names.specs.declared.collection.Collection.TheVariants.{Submodels}
use Rattle.aas_path_trees.specs.Edits.{replaced}
use Rattle.aas_path_trees.specs.ElementAt.{element_at}
use Rattle.aas_step.proofs.Validity.{replaced_whole}
use Rattle.aas_step.specs.Causes.{Cause, absent_of, causes, first_of, replace_causes, unless}
use Rattle.aas_store.specs.Documents.{Documents}
use Rattle.aas_repo_documents.proofs.Decided.{is_refused_or_no_memory, refused_by}
use Rattle.aas_repo_documents.specs.Decisions.{Edits, IsDecision, Makes, decision_of}
use Rattle.aas_repo_documents.specs.declared.decision.Decision.TheVariants as decision

-- ---- whole submodels

pub replacement_keeps_whole : (id : List ℕ) (p : Path) (e : Element) (s : Submodel)
    → IsWellFormed (ReplaceElement id p e)
    → first_of (replace_causes p.steps e s) ≡ None → is_whole_submodel limits s ≡ true
    → is_whole_submodel limits (replaced s p.steps e) ≡ true
unfolding IsWellFormed
replacement_keeps_whole id p e s formed none whole =
    replaced_whole s p.steps e (element_at s p.steps) refl none whole formed.1

-- ---- by the submodel

module _ (d : Documents) (c : Command) (id : List ℕ) (causes_in : Submodel → List Cause) (changed : Submodel → Submodel)
    (edits : Edits c id causes_in changed d) where
  first_by : (found : Option Submodel) → map.get d.submodels (encode_utf8_all id) ≡ found
      → first_of (causes d c)
      ≡ first_of (unless (is_some found) (NotFound (absent_of Submodels)) ∷ option_map_or causes_in found [])
  first_by found is = ap first_of edits.causes_are
      ∙ ap (λ (o : Option Submodel).
      first_of (unless (is_some o) (NotFound (absent_of Submodels)) ∷ option_map_or causes_in o []))
      is

  pub is_missing : (has_room : Bool) (new : Documents) → map.get d.submodels (encode_utf8_all id) ≡ None → new ≡ d
      → IsDecision has_room d c new (decision.Refused (NotFound (absent_of Submodels)))
  is_missing has_room new is same =
      (same, λ fault. absurd (cc), refused_by has_room d c _ (causes d c) refl (first_by None is))

  pub is_refused : (has_room : Bool) (new : Documents) (s : Submodel) (refusal : Refusal)
      → map.get d.submodels (encode_utf8_all id) ≡ Some s
      → (refusal ≢ NoMemory → (refusal ≢ StorageFault) × (first_of (causes_in s) ≡ Some refusal)) → new ≡ d
      → IsDecision has_room d c new (decision_of refusal)
  is_refused has_room new s refusal is why same =
      is_refused_or_no_memory has_room d new c refusal
      (λ other. let cause = why other in (cause.0, first_by (Some s) is ∙ cause.1)) same

  pub makes_one : (s : Submodel) → map.get d.submodels (encode_utf8_all id) ≡ Some s
      → first_of (causes_in s) ≡ None → Makes d c (submodel (changed s))
  makes_one s is none = record {
    no_cause = first_by (Some s) is ∙ none;
    made =
        edits.made (submodel (changed s) ∷ [])
        (sym (ap (λ (o : Option Submodel). option_map_or (λ s. submodel (changed s) ∷ []) o []) is));
    left_are = edits.left_are;
  }
