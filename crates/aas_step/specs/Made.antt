-- What a command makes of the documents, where it isn't refused. This profile's own rule.
use Rattle.std.specs.Prelude.{◌≡◌, ℕ, not, List, [], ◌∷◌, ◌++◌, filter, map as each, Some}
use Rattle.std.specs.Str.{encode_utf8_all}
use Rattle.std.specs.Option.{option_map_or}
use Rattle.std.specs.FinMap as map
use Rattle.serde_json.specs.Data.{Data}
use Rattle.aas_model_names.specs.declared.collection.Collection.TheVariants.{Shells, Submodels, Concepts}
use Rattle.aas_model.specs.declared.documents.Environment.{Environment}
use Rattle.aas_model.specs.declared.documents.Shell.{Shell}
use Rattle.aas_model.specs.declared.documents.Submodel.{Submodel}
use Rattle.aas_model.specs.declared.path.PathStep.{PathStep}
use Rattle.aas_value_update.specs.Update.{IsValueUpdate}
use Rattle.aas_path_trees.specs.Edits.{inserted, removed, replaced}
use Rattle.aas_constraint_rules.specs.Faults.{Document, shell, submodel, concept}
use Rattle.aas_command.specs.declared.command.Command.{Command}
use Rattle.aas_command.specs.declared.command.Command.TheVariants.{CreateShell, CreateSubmodel, CreateConcept}
use Rattle.aas_command.specs.declared.command.Command.TheVariants.{ReplaceShell, ReplaceSubmodel, ReplaceConcept}
use Rattle.aas_command.specs.declared.command.Command.TheVariants.{DeleteShell, DeleteSubmodel, DeleteConcept, SetAsset}
use Rattle.aas_command.specs.declared.command.Command.TheVariants.{AddReference, DropReference, InsertElement}
use Rattle.aas_command.specs.declared.command.Command.TheVariants.{ReplaceElement, DeleteElement, UpdateValue, Import}
use Rattle.aas_model.specs.declared.reference.Reference.{Reference}
use Rattle.aas_store.specs.Documents.{Documents, without, with_shell, with_submodel, with_concept}
use Rattle.aas_step.specs.Causes.{refers_to}

-- the shell of an identifier, changed
abbrev pub changed_shell : Documents → List ℕ → (Shell → Shell) → List Document
changed_shell d id change = option_map_or (λ s. shell (change s) ∷ []) (map.get d.shells (encode_utf8_all id)) []

-- with a reference behind the others
abbrev pub with_reference : Reference → Shell → Shell
with_reference r s = record s { submodels = s.submodels ++ r ∷ [] }

-- without the references to a submodel
abbrev pub without_references : List ℕ → Shell → Shell
without_references id s = record s { submodels = filter (λ r. not (refers_to id r)) s.submodels }

-- the submodel of an identifier, changed
abbrev pub changed_submodel : Documents → List ℕ → (Submodel → Submodel) → List Document
changed_submodel d id change =
    option_map_or (λ s. submodel (change s) ∷ []) (map.get d.submodels (encode_utf8_all id)) []

-- the submodel of an identifier, after an update of its values
pub record IsUpdatedSubmodel (d : Documents) (id : List ℕ) (p : List PathStep) (v : Data) (new : List Document) :
    Type 0 where
  pub old : Submodel
  pub there : map.get d.submodels (encode_utf8_all id) ≡ Some old
  pub updated : Submodel
  pub update : IsValueUpdate old p v updated
  pub made : new ≡ submodel updated ∷ []

-- the documents of an environment: its shells, then its submodels and its concept descriptions, in their order
abbrev pub documents_in : Environment → List Document
documents_in e = each shell e.shells ++ (each submodel e.submodels ++ each concept e.concepts)

-- these are the new documents, in their order
abbrev pub IsMade : Documents → Command → List Document → Type 0
IsMade d (CreateShell s) new = new ≡ shell s ∷ []
IsMade d (CreateSubmodel s) new = new ≡ submodel s ∷ []
IsMade d (CreateConcept c) new = new ≡ concept c ∷ []
IsMade d (ReplaceShell s) new = new ≡ shell s ∷ []
IsMade d (ReplaceSubmodel s) new = new ≡ submodel s ∷ []
IsMade d (ReplaceConcept c) new = new ≡ concept c ∷ []
IsMade d (DeleteShell id) new = new ≡ []
IsMade d (DeleteSubmodel id) new = new ≡ []
IsMade d (DeleteConcept id) new = new ≡ []
IsMade d (SetAsset id asset) new = new ≡ changed_shell d id (λ s. record s { asset = asset })
IsMade d (AddReference id r) new = new ≡ changed_shell d id (with_reference r)
IsMade d (DropReference id submodel_id) new = new ≡ changed_shell d id (without_references submodel_id)
IsMade d (InsertElement id p e) new = new ≡ changed_submodel d id (λ s. inserted s p.steps e)
IsMade d (ReplaceElement id p e) new = new ≡ changed_submodel d id (λ s. replaced s p.steps e)
IsMade d (DeleteElement id p) new = new ≡ changed_submodel d id (λ s. removed s p.steps)
IsMade d (UpdateValue id p v) new = IsUpdatedSubmodel d id p.steps v new
IsMade d (Import e) new = new ≡ documents_in e

-- the documents without the one that it takes away
abbrev pub left : Documents → Command → Documents
left d (DeleteShell id) = without Shells (encode_utf8_all id) d
left d (DeleteSubmodel id) = without Submodels (encode_utf8_all id) d
left d (DeleteConcept id) = without Concepts (encode_utf8_all id) d
left d c = d

abbrev pub id_of : Document → List ℕ
id_of (shell s) = s.head.id
id_of (submodel s) = s.head.id
id_of (concept c) = c.head.id

abbrev pub with_document : Documents → Document → Documents
with_document d (shell s) = with_shell d s
with_document d (submodel s) = with_submodel d s
with_document d (concept c) = with_concept d c

-- each put in under its own identifier, in their order
abbrev pub with_documents : Documents → List Document → Documents
with_documents d [] = d
with_documents d (x ∷ xs) = with_documents (with_document d x) xs
