-- What a question is answered in some documents: the text of what it asks for, or why there is none (IDTA-01002-3-0,
-- the operations that get a page of documents or of a submodel's children, a document by its identifier and an element
-- by its path, with the content modifiers Normal, Metadata, Value, Reference and Path; discovery and serialization).
use Rattle.std.specs.Prelude.{ℕ, ◌+◌, List, [], ◌++◌, map, take, codes, decimal, Option, Some, None, option_map, Result}
use Rattle.std.specs.Prelude.{Ok, Err, if◌then◌else◌}
use Rattle.std.specs.FinMap as fin
use Rattle.std.specs.List.{join_by, last_or}
use Rattle.std.specs.Option.{option_map_or}
use Rattle.std.specs.Str.{encode_utf8_all}
use Rattle.base64.specs.Engines.{url_safe_no_pad}
use Rattle.base64.specs.GeneralPurpose.{encode_of}
use Rattle.serde_json.specs.Data.{Data, string}
use Rattle.serde_json.specs.Written.{compact_text}
use Rattle.aas_json_spelling.specs.Spells.{canonical_text}
use Rattle.aas_json_mapping.specs.Trees.{asset_informations, concepts, elements, environments, shells, submodels}
use Rattle.aas_reference.specs.Spelling.{spell_reference}
use Rattle.aas_model.specs.declared.documents.Concept.{Concept}
use Rattle.aas_model.specs.declared.documents.Environment.{Environment}
use Rattle.aas_model.specs.declared.documents.Shell.{Shell}
use Rattle.aas_model.specs.declared.documents.Submodel.{Submodel}
use Rattle.aas_model.specs.declared.element.Element.{Element}
use Rattle.aas_model.specs.declared.path.Path.{Path}
use Rattle.aas_model.specs.declared.path.PathStep.{PathStep}
use Rattle.aas_model.specs.declared.reference.Reference.{Reference}
use Rattle.aas_value.specs.Attributes.{array_of}
use Rattle.aas_value.specs.ValueForm.{submodel_value, value_form}
use Rattle.aas_form.specs.CoreForm.{core_form, submodel_core}
use Rattle.aas_form.specs.MetadataForm.{metadata_form, submodel_metadata}
use Rattle.aas_form.specs.PathsFrom.{element_paths, submodel_paths}
use Rattle.aas_form.specs.ReferenceTo.{child_reference, reference_to, shell_reference, submodel_reference}
use Rattle.aas_form.specs.WithoutBlobs.{submodel_without_blobs, without_blobs}
use Rattle.aas_path.specs.PathText.{path_text}
use Rattle.aas_path_trees.specs.ElementAt.{depth_found, element_at}
use Rattle.aas_question.specs.declared.question.Question.{Question}
use Rattle.aas_question.specs.declared.question.Question.TheVariants as question
use Rattle.aas_command.specs.declared.refusal.Absent.TheVariants as absent
use Rattle.aas_command.specs.declared.refusal.Refusal.{Refusal}
use Rattle.aas_command.specs.declared.refusal.Refusal.TheVariants.{NoMemory, NotFound, NoValueForm}
use Rattle.aas_model_names.specs.declared.modifiers.Extent.{Extent}
use Rattle.aas_model_names.specs.declared.modifiers.Level.{Level}
use Rattle.aas_page.specs.Filters.{passes_concept, passes_shell, passes_submodel}
use Rattle.aas_page.specs.Pages.{PageOf, page_after, page_from}
use Rattle.aas_page.specs.declared.filter.Selection.{Selection}
use Rattle.aas_page.specs.declared.filter.Span.{Span}
use Rattle.aas_discovery.specs.Carriers.{lookup_page}
use Rattle.aas_serialization.specs.Chosen.{gathered}
use Rattle.aas_serialization.specs.declared.fault.GatherFault.{GatherFault}
use Rattle.aas_serialization.specs.declared.fault.GatherFault.TheVariants as gather
use Rattle.aas_store.specs.Documents.{Documents, Identifier}

-- a body, or a refusal
abbrev pub Answer : Type 0
Answer = Result (List ℕ) Refusal

-- ---- texts

abbrev pub reference_text : Reference → List ℕ
reference_text r = compact_text (spell_reference r)

-- an array of the texts of paths
abbrev pub paths_text : List Path → List ℕ
paths_text ps = compact_text (array_of (λ p. string (path_text p.steps)) ps)

-- of a value form, where there is one
abbrev pub value_answer : Option Data → Answer
value_answer None = Err NoValueForm
value_answer (Some form) = Ok (compact_text form)

-- ---- what is asked about

abbrev pub of_shell : Documents → List ℕ → (Shell → Answer) → Answer
of_shell d id answer = option_map_or answer (fin.get d.shells (encode_utf8_all id)) (Err (NotFound absent.Shell))

abbrev pub of_submodel : Documents → List ℕ → (Submodel → Answer) → Answer
of_submodel d id answer =
    option_map_or answer (fin.get d.submodels (encode_utf8_all id)) (Err (NotFound absent.Submodel))

abbrev pub of_concept : Documents → List ℕ → (Concept → Answer) → Answer
of_concept d id answer = option_map_or answer (fin.get d.concepts (encode_utf8_all id)) (Err (NotFound absent.Concept))

-- the path leads to nothing
abbrev pub lost : List PathStep → Submodel → Answer
lost p s = Err (NotFound (absent.Element (record { steps = take (depth_found s p) p })))

abbrev pub of_element : Documents → List ℕ → List PathStep → (Element → Answer) → Answer
of_element d id p answer = of_submodel d id (λ s. option_map_or answer (element_at s p) (lost p s))

abbrev pub of_reference : Option Reference → Answer → Answer
of_reference found none = option_map_or (λ r. Ok (reference_text r)) found none

-- ---- forms of a submodel and of an element

abbrev pub submodel_shown : Level → Extent → Submodel → List ℕ
submodel_shown level extent s = canonical_text submodels (submodel_without_blobs extent (submodel_core level s))

abbrev pub submodel_valued : Level → Extent → Submodel → List ℕ
submodel_valued level extent s = compact_text (submodel_value extent (submodel_core level s))

abbrev pub submodel_metadata_text : Submodel → List ℕ
submodel_metadata_text s = canonical_text submodels (submodel_metadata s)

abbrev pub element_metadata_text : Element → List ℕ
element_metadata_text e = canonical_text elements (metadata_form e)

abbrev pub element_shown : Level → Extent → Element → List ℕ
element_shown level extent e = canonical_text elements (without_blobs extent (core_form level e))

-- ---- pages

-- where a further entry follows, the cursor of the next page
abbrev pub cursor_text : Option (List ℕ) → List ℕ
cursor_text None = codes "{}"
cursor_text (Some cursor) = codes "{\"cursor\":\"" ++ cursor ++ codes "\"}"

-- the text of a page up to its entries
abbrev pub page_begin : Option (List ℕ) → List ℕ
page_begin cursor = codes "{\"paging_metadata\":" ++ cursor_text cursor ++ codes ",\"result\":["

-- the text of each of the entries of a page, and the cursor of the next page, where a further entry follows
abbrev pub page_text : {X : Type 0} → (X → List ℕ) → Option (List ℕ) → PageOf X → List ℕ
page_text text cursor p =
    page_begin (if p.more then cursor else None) ++ join_by text (codes ",") p.entries ++ codes "]}"

-- documents, the last of which is the cursor
abbrev pub documents_page : {X : Type 0} → (X → List ℕ) → PageOf (Identifier × X) → Answer
documents_page text p =
    Ok (page_text (λ e. text e.1) (option_map (encode_of url_safe_no_pad) (last_or None (map (λ e. e.0) p.entries))) p)

-- the identifiers of documents as strings, the last of which is the cursor
abbrev pub ids_page : PageOf Identifier → Answer
ids_page p =
    Ok (page_text (λ id. compact_text (string id)) (option_map (encode_of url_safe_no_pad) (last_or None p.entries)) p)

-- entries at places, the next of which is the cursor
abbrev pub places_page : {X : Type 0} → (X → List ℕ) → Span → List X → Answer
places_page text span xs =
    Ok (page_text text (Some (decimal (span.from + span.limit))) (page_from span.from span.limit xs))

abbrev pub of_shells : Documents → Selection → (Shell → List ℕ) → Answer
of_shells d s text =
    documents_page text (page_after (passes_shell s.filter) (option_map encode_utf8_all s.after) s.limit d.shells)

abbrev pub of_submodels : Documents → Selection → (Submodel → List ℕ) → Answer
of_submodels d s text =
    documents_page text (page_after (passes_submodel s.filter) (option_map encode_utf8_all s.after) s.limit d.submodels)

abbrev pub of_concepts : Documents → Selection → (Concept → List ℕ) → Answer
of_concepts d s text =
    documents_page text (page_after (passes_concept s.filter) (option_map encode_utf8_all s.after) s.limit d.concepts)

-- of the children of a submodel
abbrev pub of_children : Documents → List ℕ → Span → (Submodel → Element → List ℕ) → Answer
of_children d id span text = of_submodel d id (λ s. places_page (text s) span s.kids)

-- ---- the environment of some chosen documents

abbrev pub refusal_of_gather : GatherFault → Refusal
refusal_of_gather (gather.NoShell id) = NotFound absent.Shell
refusal_of_gather (gather.NoSubmodel id) = NotFound absent.Submodel
refusal_of_gather gather.NoMemory = NoMemory

abbrev pub of_gathered : Result Environment GatherFault → Answer
of_gathered (Ok environment) = Ok (canonical_text environments environment)
of_gathered (Err fault) = Err (refusal_of_gather fault)

-- ---- one row a question

unfoldable pub answer_of : Documents → Question → Answer
answer_of d (question.Shells s) = of_shells d s (canonical_text shells)
answer_of d (question.ShellsReference s) = of_shells d s (λ x. reference_text (shell_reference x))
answer_of d (question.ReferencesOf id span) = of_shell d id (λ s. places_page reference_text span s.submodels)
answer_of d (question.Submodels s level extent) = of_submodels d s (submodel_shown level extent)
answer_of d (question.SubmodelsMetadata s) = of_submodels d s submodel_metadata_text
answer_of d (question.SubmodelsValue s level extent) = of_submodels d s (submodel_valued level extent)
answer_of d (question.SubmodelsReference s) = of_submodels d s (λ x. reference_text (submodel_reference x))
answer_of d (question.Elements id span level extent) = of_children d id span (λ s. element_shown level extent)
answer_of d (question.ElementsMetadata id span) = of_children d id span (λ s. element_metadata_text)
answer_of d (question.ElementsReference id span) = of_children d id span (λ s e. reference_text (child_reference s e))
answer_of d (question.Concepts s) = of_concepts d s (canonical_text concepts)
answer_of d (question.Shell id) = of_shell d id (λ s. Ok (canonical_text shells s))
answer_of d (question.ShellReference id) = of_shell d id (λ s. Ok (reference_text (shell_reference s)))
answer_of d (question.Asset id) = of_shell d id (λ s. Ok (canonical_text asset_informations s.asset))
answer_of d (question.Submodel id level extent) =
    of_submodel d id (λ s. Ok (submodel_shown level extent s))
answer_of d (question.SubmodelMetadata id) = of_submodel d id (λ s. Ok (submodel_metadata_text s))
answer_of d (question.SubmodelValue id level extent) = of_submodel d id (λ s. Ok (submodel_valued level extent s))
answer_of d (question.SubmodelReference id) = of_submodel d id (λ s. of_reference (reference_to s []) (lost [] s))
answer_of d (question.SubmodelPaths id level) =
    of_submodel d id (λ s. Ok (paths_text (submodel_paths (submodel_core level s))))
answer_of d (question.Element id p level extent) =
    of_element d id p.steps (λ e. Ok (element_shown level extent e))
answer_of d (question.ElementMetadata id p) = of_element d id p.steps (λ e. Ok (element_metadata_text e))
answer_of d (question.ElementValue id p level extent) =
    of_element d id p.steps (λ e. value_answer (value_form extent (core_form level e)))
answer_of d (question.ElementReference id p) =
    of_submodel d id (λ s. of_reference (reference_to s p.steps) (lost p.steps s))
answer_of d (question.ElementPaths id p level) =
    of_element d id p.steps (λ e. Ok (paths_text (element_paths p.steps (core_form level e))))
answer_of d (question.Concept id) = of_concept d id (λ c. Ok (canonical_text concepts c))
answer_of d (question.Lookup wanted after limit) =
    ids_page (lookup_page wanted (option_map encode_utf8_all after) limit d)
answer_of d (question.Serialization s t c) = of_gathered (gathered d s t c)
