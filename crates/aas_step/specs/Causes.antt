-- Why a command is refused: for each command what of it isn't there or is there already, and then the faults of the
-- documents that it makes. Causes are tried from the left, and the first that applies is the refusal. This profile's
-- own rule.
use Rattle.std.specs.Prelude.{ℕ, nat_lt, Bool, true, false, ◌&&◌, not, is_some, List, [], ◌∷◌, ◌++◌, length}
use Rattle.std.specs.Prelude.{map as each, take, Option, Some, None, option_and_then, option_map, if◌then◌else◌}
use Rattle.std.specs.FinMap as map
use Rattle.std.specs.List.{list_any}
use Rattle.std.specs.Option.{option_map_or, option_or}
use Rattle.std.specs.Str.{encode_utf8_all}
use Rattle.serde_json.specs.Data.{Data}
use Rattle.aas_model.specs.declared.documents.Environment.{Environment}
use Rattle.aas_model.specs.declared.documents.Shell.{Shell}
use Rattle.aas_model.specs.declared.documents.Submodel.{Submodel}
use Rattle.aas_model.specs.declared.element.Element.{Element, out-Element}
use Rattle.aas_model.specs.declared.path.PathStep.{PathStep}
use Rattle.aas_model.specs.declared.reference.Reference.{Reference, out-Reference}
use Rattle.aas_model_names.specs.declared.kind.KeyType.TheVariants as key_type
use Rattle.aas_model_names.specs.declared.modifiers.Extent.TheVariants as extent
use Rattle.aas_model_names.specs.declared.collection.Collection.{Collection}
use Rattle.aas_model_names.specs.declared.collection.Collection.TheVariants.{Shells, Submodels, Concepts}
use Rattle.aas_constraint_rules.specs.Faults.{Document, submodel, faults_of}
use Rattle.aas_constraint_rules.specs.Texts.{is_among}
use Rattle.aas_reference.specs.Rules.{first, is_external}
use Rattle.aas_reference.specs.Same.{same, same_keys}
use Rattle.aas_command.specs.Refusals.{refusal_of_fault}
use Rattle.aas_command.specs.declared.command.Command.{Command}
use Rattle.aas_command.specs.declared.command.Command.TheVariants.{CreateShell, CreateSubmodel, CreateConcept}
use Rattle.aas_command.specs.declared.command.Command.TheVariants.{ReplaceShell, ReplaceSubmodel, ReplaceConcept}
use Rattle.aas_command.specs.declared.command.Command.TheVariants.{DeleteShell, DeleteSubmodel, DeleteConcept, SetAsset}
use Rattle.aas_command.specs.declared.command.Command.TheVariants.{AddReference, DropReference, InsertElement}
use Rattle.aas_command.specs.declared.command.Command.TheVariants.{ReplaceElement, DeleteElement, UpdateValue, Import}
use Rattle.aas_command.specs.declared.refusal.Absent.{Absent}
use Rattle.aas_command.specs.declared.refusal.Absent.TheVariants as absent
use Rattle.aas_command.specs.declared.refusal.Refusal.{Refusal}
use Rattle.aas_command.specs.declared.refusal.Refusal.TheVariants.{NotFound, Conflict, NotAContainer, NoValueForm}
use Rattle.aas_command.specs.declared.refusal.Refusal.TheVariants.{Shape, TooMany}
use Rattle.aas_path_trees.specs.Children.{id_short_of, role_of}
use Rattle.aas_path_trees.specs.Edits.{fits_role, role_at, role_within}
use Rattle.aas_path_trees.specs.ElementAt.{depth_found, element_at, place_named, children_at}
use Rattle.aas_value.specs.ValueForm.{value_form}
use Rattle.aas_value_update.specs.Shape.{first_misshapen}
use Rattle.aas_value_update.specs.Update.{valued_at}
use Rattle.aas_store.specs.Documents.{Documents, has}
use Rattle.aas_path_trees.specs.Patched.{element_count}

-- a refusal, where it applies
abbrev pub Cause : Type 0
Cause = Option Refusal

-- the first that applies
abbrev pub first_of : List Cause → Cause
first_of [] = None
first_of (None ∷ causes) = first_of causes
first_of (Some refusal ∷ causes) = Some refusal

abbrev pub when : Bool → Refusal → Cause
when holds refusal = if holds then Some refusal else None

abbrev pub unless : Bool → Refusal → Cause
unless holds refusal = if holds then None else Some refusal

-- ---- by what is there

-- a document has this identifier already
abbrev pub is_there : Collection → List ℕ → Documents → Cause
is_there c id d = when (has c (encode_utf8_all id) d) Conflict

abbrev pub absent_of : Collection → Absent
absent_of Shells = absent.Shell
absent_of Submodels = absent.Submodel
absent_of Concepts = absent.Concept

-- none has it
abbrev pub is_absent : Collection → List ℕ → Documents → Cause
is_absent c id d = unless (has c (encode_utf8_all id) d) (NotFound (absent_of c))

-- ---- by the references of a shell

-- It is a ModelReference with one key, of type Submodel and with this value (IDTA-01001-3-0, class Reference).
abbrev pub refers_to : List ℕ → Reference → Bool
refers_to id r =
    not (is_external (out-Reference r).ref_type)
    && same_keys (out-Reference r).keys (record { key_type = key_type.Submodel; value = id } ∷ [])

-- the shell isn't there; and then a cause in it
abbrev pub in_shell : Documents → List ℕ → (Shell → Cause) → List Cause
in_shell d id cause_in = is_absent Shells id d ∷ option_and_then cause_in (map.get d.shells (encode_utf8_all id)) ∷ []

-- one of its references is the same
abbrev pub has_same : Reference → Shell → Cause
has_same r s = when (list_any (same r) s.submodels) Conflict

-- none of its references is one to the submodel
abbrev pub lacks_reference : List ℕ → Shell → Cause
lacks_reference id s = unless (list_any (refers_to id) s.submodels) (NotFound absent.SubmodelReference)

-- what stands against the way through a shell to a submodel
abbrev pub reference_causes : Documents → (shell_id submodel_id : List ℕ) → List Cause
reference_causes d shell_id submodel_id = in_shell d shell_id (lacks_reference submodel_id)

-- ---- by what is in a submodel

-- a path leads to an element, or is empty and leads to the submodel
abbrev pub leads : Submodel → List PathStep → Bool
leads s [] = true
leads s (step ∷ p) = is_some (element_at s (step ∷ p))

-- it leads to nothing: the longest part of it that leads somewhere
abbrev pub is_lost : Submodel → List PathStep → Cause
is_lost s p = unless (leads s p) (NotFound (absent.Element (record { steps = take (depth_found s p) p })))

-- what a path leads to takes children
abbrev pub is_container : Submodel → List PathStep → Bool
is_container s [] = true
is_container s (step ∷ p) =
    option_map_or (λ o. is_some (role_within (out-Element o).payload)) (element_at s (step ∷ p)) false

-- one of the elements has this idShort
abbrev pub is_named_among : Option (List ℕ) → List Element → Bool
is_named_among None es = false
is_named_among (Some n) es = is_some (place_named n es)

abbrev pub insert_causes : List PathStep → Element → Submodel → List Cause
insert_causes p e s =
    is_lost s p
    ∷ when (is_container s p && is_named_among (id_short_of e) (children_at s p)) Conflict
    ∷ unless (is_some (role_at s p e)) NotAContainer
    ∷ []

-- an annotation stays a data element
abbrev pub replace_causes : List PathStep → Element → Submodel → List Cause
replace_causes p e s =
    is_lost s p ∷ unless (option_map_or (λ o. fits_role e (role_of o)) (element_at s p) false) NotAContainer ∷ []

abbrev pub delete_causes : List PathStep → Submodel → List Cause
delete_causes p s = is_lost s p ∷ []

-- the first misshapen element, its path behind p
abbrev pub is_misshapen : Submodel → List PathStep → Data → Cause
is_misshapen s p v =
    option_map (λ q. Shape (record { steps = p ++ q })) (option_and_then (λ e. first_misshapen e v) (valued_at s p))

abbrev pub update_causes : List PathStep → Data → Submodel → List Cause
update_causes p v s =
    is_lost s p
    ∷ unless (is_some (option_and_then (value_form extent.WithBlobValue) (valued_at s p))) NoValueForm
    ∷ is_misshapen s p v
    ∷ []

-- the submodel isn't there; and then the causes in it
abbrev pub in_submodel : Documents → List ℕ → (Submodel → List Cause) → List Cause
in_submodel d id causes_in =
    is_absent Submodels id d ∷ option_map_or causes_in (map.get d.submodels (encode_utf8_all id)) []

-- ---- by the identifiers of an environment

-- the place of the first one that stands before it too, where those of before stand earlier
abbrev pub first_repeated_after : List (List ℕ) → List (List ℕ) → Option ℕ
first_repeated_after before [] = None
first_repeated_after before (id ∷ more) =
    if is_among id before then Some (length before) else first_repeated_after (before ++ id ∷ []) more

abbrev pub first_repeated : List (List ℕ) → Option ℕ
first_repeated ids = first_repeated_after [] ids

-- the first such place among its shells, or else its submodels, or else its concept descriptions
abbrev pub first_repeated_in : Environment → Option (Collection × ℕ)
first_repeated_in e =
    option_or (option_map (λ place. (Shells, place)) (first_repeated (each (λ s. s.head.id) e.shells)))
    (option_or (option_map (λ place. (Submodels, place)) (first_repeated (each (λ s. s.head.id) e.submodels)))
    (option_map (λ place. (Concepts, place)) (first_repeated (each (λ c. c.head.id) e.concepts))))

-- an identifier stands twice in one of its three lists
abbrev pub has_repeated : Environment → Bool
has_repeated e = is_some (first_repeated_in e)

-- ---- one row a command

abbrev pub causes : Documents → Command → List Cause
causes d (CreateShell s) = is_there Shells s.head.id d ∷ []
causes d (CreateSubmodel s) = is_there Submodels s.head.id d ∷ []
causes d (CreateConcept c) = is_there Concepts c.head.id d ∷ []
causes d (ReplaceShell s) = is_absent Shells s.head.id d ∷ []
causes d (ReplaceSubmodel s) = is_absent Submodels s.head.id d ∷ []
causes d (ReplaceConcept c) = is_absent Concepts c.head.id d ∷ []
causes d (DeleteShell id) = is_absent Shells id d ∷ []
causes d (DeleteSubmodel id) = is_absent Submodels id d ∷ []
causes d (DeleteConcept id) = is_absent Concepts id d ∷ []
causes d (SetAsset id asset) = is_absent Shells id d ∷ []
causes d (AddReference id r) = in_shell d id (has_same r)
causes d (DropReference id submodel_id) = reference_causes d id submodel_id
causes d (InsertElement id p e) = in_submodel d id (insert_causes p.steps e)
causes d (ReplaceElement id p e) = in_submodel d id (replace_causes p.steps e)
causes d (DeleteElement id p) = in_submodel d id (delete_causes p.steps)
causes d (UpdateValue id p v) = in_submodel d id (update_causes p.steps v)
causes d (Import e) = when (has_repeated e) Conflict ∷ []

-- ---- by the documents that it makes

-- the most elements that a submodel may have
abbrev pub element_limit : ℕ
element_limit = 65536

abbrev pub has_too_many : Document → Bool
has_too_many (submodel s) = nat_lt element_limit (element_count s)
has_too_many x = false

-- its first fault, and then that it has too many elements
abbrev pub document_causes : Document → List Cause
document_causes x = option_map refusal_of_fault (first (faults_of x)) ∷ when (has_too_many x) TooMany ∷ []
