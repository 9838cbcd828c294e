-- What a request asks for: a command, a question or new metadata, or why it is refused. Causes are tried in this order:
-- no such path, the method, the identifiers, the path of an element, the query, the body, and then that the body's
-- identifier or name isn't the path's. This profile's own rule.
use Rattle.std.specs.Prelude.{◌≡◌, ◌⊎◌, ℕ, ◌+◌, List, [], length, bytes_eq, Bool, true, if◌then◌else◌, Option, Some}
use Rattle.std.specs.Prelude.{None, Result, Ok, Err}
use Rattle.std.specs.List.{last_or}
use Rattle.std.specs.Str.{chars}
use Rattle.percent_encoding.specs.Percent.{percent_decode}
use Rattle.serde_json.specs.Data.{Data}
use Rattle.aas_json_table.specs.Rows.{Pointer}
use Rattle.aas_json_table.specs.TooDeep.{Levels, limits}
use Rattle.aas_json_spelling.specs.Spells.{Trees}
use Rattle.aas_json_spelling.specs.Reading.{reading}
use Rattle.aas_json_spelling.specs.Reads.{IsPointer, ReadsBytes}
use Rattle.aas_json_mapping.specs.Metadata.{metadata_forms, submodel_metadata_forms}
use Rattle.aas_json_mapping.specs.Trees.{asset_informations, elements}
use Rattle.aas_reference.specs.Trees.{references}
use Rattle.aas_model.specs.declared.element.Element.{Element as ElementTree}
use Rattle.aas_model.specs.declared.path.Path.{Path}
use Rattle.aas_model.specs.declared.path.PathStep.{PathStep}
use Rattle.aas_model.specs.declared.path.PathStep.TheVariants.{Name}
use Rattle.aas_model.specs.declared.read_fault.ReadFault.{ReadFault}
use Rattle.aas_model.specs.declared.read_fault.ReadFault.TheVariants as read
use Rattle.aas_path_trees.specs.Children.{id_short_of}
use Rattle.aas_path_trees.specs.ElementAt.{is_text}
use Rattle.aas_path.specs.PathText.{IsPath, IsNoPath}
use Rattle.aas_edit_laws.specs.Laws.{at_level}
use Rattle.aas_command.specs.Refusals.{refusal_of_read}
use Rattle.aas_command.specs.declared.command.Command.{Command}
use Rattle.aas_command.specs.declared.command.Command.TheVariants.{SetAsset, AddReference, DropReference, InsertElement}
use Rattle.aas_command.specs.declared.command.Command.TheVariants.{ReplaceElement, DeleteElement, UpdateValue}
use Rattle.aas_command.specs.declared.refusal.Refusal.{Refusal}
use Rattle.aas_command.specs.declared.refusal.Refusal.TheVariants.{NoRoute, NotAllowed, BadIdentifier, BadPath}
use Rattle.aas_command.specs.declared.refusal.Refusal.TheVariants.{BadQuery, NotJson, NotMapping, IdMismatch}
use Rattle.aas_question.specs.declared.question.Question.{Question}
use Rattle.aas_question.specs.declared.question.Question.TheVariants as question
use Rattle.aas_http.specs.FirstRequest.{Message}
use Rattle.aas_page.specs.Segment.{StandsFor}
use Rattle.aas_target.specs.Given.{Gives, IsBadIn, concepts_of, extent_of, level_of, limit_of, selection_of, span_of}
use Rattle.aas_target.specs.Query.{parameter_name}
use Rattle.aas_target.specs.Routes.{Found, Texts, allow_text, method_among, methods_of, parameters_of, path_in}
use Rattle.aas_target.specs.Routes.{query_in, resource_at}
use Rattle.aas_target.specs.declared.given.Given.{Given}
use Rattle.aas_target.specs.declared.method.Method.{Method}
use Rattle.aas_target.specs.declared.method.Method.TheVariants.{Get, Post, Put, Patch, Delete}
use Rattle.aas_target.specs.declared.parameter.Parameter.{Parameter}
use Rattle.aas_target.specs.declared.routes.Resource.{Resource}
use Rattle.aas_target.specs.declared.routes.Resource.TheVariants.{Shells, ShellsReference, Shell, ShellReference}
use Rattle.aas_target.specs.declared.routes.Resource.TheVariants.{AssetInformation, ReferencesOf, ReferencesTo}
use Rattle.aas_target.specs.declared.routes.Resource.TheVariants.{Submodels, SubmodelsMetadata, SubmodelsValue}
use Rattle.aas_target.specs.declared.routes.Resource.TheVariants.{SubmodelsReference, Submodel, SubmodelMetadata}
use Rattle.aas_target.specs.declared.routes.Resource.TheVariants.{SubmodelValue, SubmodelReference, SubmodelPaths}
use Rattle.aas_target.specs.declared.routes.Resource.TheVariants.{Elements, ElementsMetadata, ElementsReference}
use Rattle.aas_target.specs.declared.routes.Resource.TheVariants.{Element, ElementMetadata, ElementValue}
use Rattle.aas_target.specs.declared.routes.Resource.TheVariants.{ElementReference, ElementPaths, Concepts, Concept}
use Rattle.aas_target.specs.declared.routes.Resource.TheVariants.{Lookup, Serialization}
use Rattle.aas_api.specs.Interfaces.{Interface, shell_interface, submodel_interface, concept_interface}
use Rattle.aas_api.specs.Numbers.{broken_number}
use Rattle.aas_api.specs.declared.ask.Ask.{Ask}
use Rattle.aas_api.specs.declared.ask.Ask.TheVariants.{Act, Answer, Describe}
use Rattle.aas_api.specs.declared.ask.Metadata.TheVariants as metadata
use Rattle.aas_api.specs.declared.ask.Call.{Call}

-- what is asked, or the refusal
abbrev pub Asked : Type 0
Asked = Result Ask Refusal

abbrev pub IsQuestion : Question → Asked → Type 0
IsQuestion q asked = asked ≡ Ok (Answer q)

abbrev pub IsCommand : Command → Asked → Type 0
IsCommand c asked = asked ≡ Ok (Act c)

-- ---- segments, queries and bodies

-- by the identifier for which a segment stands
abbrev pub ById : {A : Type 0} → List ℕ → (List ℕ → Result A Refusal → Type 0) → Result A Refusal → Type 0
ById segment Asks asked =
    ((id : List ℕ) × StandsFor segment id × Asks id asked)
    ⊎ (((id : List ℕ) → ¬ StandsFor segment id) × (asked ≡ Err BadIdentifier))

-- by the path that a segment writes, once it is percent-decoded
abbrev pub ByPath : List ℕ → (Path → Asked → Type 0) → Asked → Type 0
ByPath segment Asks asked =
    ((path : Path) × IsPath (percent_decode segment) path.steps × Asks path asked)
    ⊎ ((at : ℕ) × IsNoPath (percent_decode segment) at × (asked ≡ Err (BadPath at)))

-- by the identifier of a submodel and the path of an element
abbrev pub AtElement : Texts → (List ℕ → Path → Asked → Type 0) → Asked → Type 0
AtElement t Asks = ById t.id (λ id. ByPath t.path (Asks id))

-- by what a query gives of the parameters that are listed
abbrev pub ByQuery : List Parameter → List ℕ → (Given → Asked → Type 0) → Asked → Type 0
ByQuery listed query Asks asked =
    ((given : Given) × Gives listed query given × Asks given asked)
    ⊎ ((p : Parameter) × IsBadIn listed query p × (asked ≡ Err (BadQuery (chars (parameter_name p)))))

-- a question about a resource, by what its query gives
abbrev pub Shows : Resource → List ℕ → (Given → Question) → Asked → Type 0
Shows resource query ask = ByQuery (parameters_of resource) query (λ g. IsQuestion (ask g))

abbrev pub IsByRead : {A : Type 0} → (A → Asked) → Result A ReadFault → Asked → Type 0
IsByRead asks (Ok tree) asked = asked ≡ asks tree
IsByRead asks (Err read.NoMemory) asked = ⊥
IsByRead asks (Err fault) asked = asked ≡ Err (refusal_of_read fault)

-- by the tree that a body spells, where so many levels are left
abbrev pub ByBody : {A : Type 0} → Trees A → Levels → List ℕ → (A → Asked) → Asked → Type 0
ByBody {A = A} trees levels body asks asked =
    (result : Result A ReadFault) × ReadsBytes trees levels result body × IsByRead asks result asked

-- so, if no number is broken
abbrev pub UnlessBroken : Option Pointer → Asked → Asked → Type 0
UnlessBroken None asks asked = asked ≡ asks
UnlessBroken (Some p) asks asked = (pointer : List ℕ) × IsPointer (Some p) pointer × (asked ≡ Err (NotMapping pointer))

abbrev pub IsBySent : (Data → Asked) → Option Data → Asked → Type 0
IsBySent asks None asked = asked ≡ Err NotJson
IsBySent asks (Some v) asked = UnlessBroken (broken_number v) (asks v) asked

-- by the value that a body is read as, if its numbers are whole
abbrev pub BySent : List ℕ → (Data → Asked) → Asked → Type 0
BySent body asks = IsBySent asks (reading body)

-- what is put has the identifier or the name of the path
abbrev pub if_same : Bool → Ask → Asked
if_same same ask = if same then Ok ask else Err IdMismatch

-- the element has this name, where a path ends with one
abbrev pub has_last : Option PathStep → ElementTree → Bool
has_last (Some (Name name)) e = is_text name (id_short_of e)
has_last step e = true

-- ---- one row a method

abbrev pub AsksCollection : {D : Type 0} → Interface D → Resource → List ℕ → List ℕ → Method → Asked → Type 0
AsksCollection i resource query body Get asked = Shows resource query i.list asked
AsksCollection i resource query body Post asked = ByBody i.documents limits body (λ d. Ok (Act (i.create d))) asked
AsksCollection i resource query body method asked = ⊥

abbrev pub AsksDocument : {D : Type 0} → Interface D → Resource → List ℕ → List ℕ → List ℕ → Method → Asked → Type 0
AsksDocument i resource segment query body Get asked = ById segment (λ id. Shows resource query (i.get id)) asked
AsksDocument i resource segment query body Put asked =
    ById segment
    (λ id. ByBody i.documents limits body (λ d. if_same (bytes_eq id (i.id_of d)) (Act (i.replace d)))) asked
AsksDocument i resource segment query body Delete asked = ById segment (λ id. IsCommand (i.delete id)) asked
AsksDocument i resource segment query body method asked = ⊥

abbrev pub AsksAsset : List ℕ → List ℕ → Method → Asked → Type 0
AsksAsset segment body Get asked = ById segment (λ id. IsQuestion (question.Asset id)) asked
AsksAsset segment body Put asked =
    ById segment (λ id. ByBody asset_informations limits body (λ d. Ok (Act (SetAsset id d)))) asked
AsksAsset segment body method asked = ⊥

-- the references of a shell to submodels
abbrev pub AsksReferences : List ℕ → List ℕ → List ℕ → Method → Asked → Type 0
AsksReferences segment query body Get asked =
    ById segment (λ id. Shows ReferencesOf query (λ g. question.ReferencesOf id (span_of g))) asked
AsksReferences segment query body Post asked =
    ById segment (λ id. ByBody references limits body (λ r. Ok (Act (AddReference id r)))) asked
AsksReferences segment query body method asked = ⊥

-- what a body spells becomes a child of that to which a path leads: an element, or the submodel where the path is empty
abbrev pub Inserts : List ℕ → Path → List ℕ → Asked → Type 0
Inserts id path body = ByBody elements (at_level (length path.steps + 1)) body (λ e. Ok (Act (InsertElement id path e)))

-- it takes the place of the element to which the path leads
abbrev pub Replaces : List ℕ → Path → List ℕ → Asked → Type 0
Replaces id path body =
    ByBody elements (at_level (length path.steps)) body (λ e.
    if_same (has_last (last_or None path.steps) e) (Act (ReplaceElement id path e)))

-- the value that a body sends updates those of the element to which a path leads,
-- or of the submodel where the path is empty
abbrev pub Updates : List ℕ → Path → List ℕ → Asked → Type 0
Updates id path body = BySent body (λ v. Ok (Act (UpdateValue id path v)))

-- The metadata form that a body spells takes the place of that of the submodel, which has its identifier, ...
abbrev pub DescribesSubmodel : List ℕ → List ℕ → Asked → Type 0
DescribesSubmodel id body =
    ByBody submodel_metadata_forms limits body (λ d. if_same (bytes_eq id d.head.id) (Describe (metadata.Submodel d)))

-- ... or of the element to which a path leads, which has its name
abbrev pub DescribesElement : List ℕ → Path → List ℕ → Asked → Type 0
DescribesElement id path body =
    ByBody metadata_forms limits body (λ e.
    if_same (has_last (last_or None path.steps) e) (Describe (metadata.Element id path e)))

-- the submodel itself
abbrev pub root : Path
root = record { steps = [] }

abbrev pub AsksElements : List ℕ → List ℕ → List ℕ → Method → Asked → Type 0
AsksElements segment query body Get asked =
    ById segment (λ id. Shows Elements query (λ g. question.Elements id (span_of g) (level_of g) (extent_of g))) asked
AsksElements segment query body Post asked = ById segment (λ id. Inserts id root body) asked
AsksElements segment query body method asked = ⊥

abbrev pub AsksElement : Texts → List ℕ → List ℕ → Method → Asked → Type 0
AsksElement t query body Get asked =
    AtElement t (λ id p. Shows Element query (λ g. question.Element id p (level_of g) (extent_of g))) asked
AsksElement t query body Post asked = AtElement t (λ id p. Inserts id p body) asked
AsksElement t query body Put asked = AtElement t (λ id p. Replaces id p body) asked
AsksElement t query body Delete asked = AtElement t (λ id p. IsCommand (DeleteElement id p)) asked
AsksElement t query body method asked = ⊥

abbrev pub AsksSubmodelMetadata : List ℕ → List ℕ → Method → Asked → Type 0
AsksSubmodelMetadata segment body Get asked = ById segment (λ id. IsQuestion (question.SubmodelMetadata id)) asked
AsksSubmodelMetadata segment body Patch asked = ById segment (λ id. DescribesSubmodel id body) asked
AsksSubmodelMetadata segment body method asked = ⊥

abbrev pub AsksElementMetadata : Texts → List ℕ → Method → Asked → Type 0
AsksElementMetadata t body Get asked = AtElement t (λ id p. IsQuestion (question.ElementMetadata id p)) asked
AsksElementMetadata t body Patch asked = AtElement t (λ id p. DescribesElement id p body) asked
AsksElementMetadata t body method asked = ⊥

abbrev pub AsksSubmodelValue : List ℕ → List ℕ → List ℕ → Method → Asked → Type 0
AsksSubmodelValue segment query body Get asked =
    ById segment (λ id. Shows SubmodelValue query (λ g. question.SubmodelValue id (level_of g) (extent_of g))) asked
AsksSubmodelValue segment query body Patch asked = ById segment (λ id. Updates id root body) asked
AsksSubmodelValue segment query body method asked = ⊥

abbrev pub AsksElementValue : Texts → List ℕ → List ℕ → Method → Asked → Type 0
AsksElementValue t query body Get asked =
    AtElement t (λ id p. Shows ElementValue query (λ g. question.ElementValue id p (level_of g) (extent_of g))) asked
AsksElementValue t query body Patch asked = AtElement t (λ id p. Updates id p body) asked
AsksElementValue t query body method asked = ⊥

-- ---- one row a resource

-- By the parameters of its path, the query, the body and the method,
-- which is one of the resource's; some have only one.
abbrev pub AsksResource : Resource → Texts → List ℕ → List ℕ → Method → Asked → Type 0
AsksResource Shells t query body method = AsksCollection shell_interface Shells query body method
AsksResource ShellsReference t query body method =
    Shows ShellsReference query (λ g. question.ShellsReference (selection_of g))
AsksResource Shell t query body method = AsksDocument shell_interface Shell t.id query body method
AsksResource ShellReference t query body method = ById t.id (λ id. IsQuestion (question.ShellReference id))
AsksResource AssetInformation t query body method = AsksAsset t.id body method
AsksResource ReferencesOf t query body method = AsksReferences t.id query body method
AsksResource ReferencesTo t query body method =
    ById t.id (λ shell. ById t.submodel (λ submodel. IsCommand (DropReference shell submodel)))
AsksResource Submodels t query body method = AsksCollection submodel_interface Submodels query body method
AsksResource SubmodelsMetadata t query body method =
    Shows SubmodelsMetadata query (λ g. question.SubmodelsMetadata (selection_of g))
AsksResource SubmodelsValue t query body method =
    Shows SubmodelsValue query (λ g. question.SubmodelsValue (selection_of g) (level_of g) (extent_of g))
AsksResource SubmodelsReference t query body method =
    Shows SubmodelsReference query (λ g. question.SubmodelsReference (selection_of g))
AsksResource Submodel t query body method = AsksDocument submodel_interface Submodel t.id query body method
AsksResource SubmodelMetadata t query body method = AsksSubmodelMetadata t.id body method
AsksResource SubmodelValue t query body method = AsksSubmodelValue t.id query body method
AsksResource SubmodelReference t query body method = ById t.id (λ id. IsQuestion (question.SubmodelReference id))
AsksResource SubmodelPaths t query body method =
    ById t.id (λ id. Shows SubmodelPaths query (λ g. question.SubmodelPaths id (level_of g)))
AsksResource Elements t query body method = AsksElements t.id query body method
AsksResource ElementsMetadata t query body method =
    ById t.id (λ id. Shows ElementsMetadata query (λ g. question.ElementsMetadata id (span_of g)))
AsksResource ElementsReference t query body method =
    ById t.id (λ id. Shows ElementsReference query (λ g. question.ElementsReference id (span_of g)))
AsksResource Element t query body method = AsksElement t query body method
AsksResource ElementMetadata t query body method = AsksElementMetadata t body method
AsksResource ElementValue t query body method = AsksElementValue t query body method
AsksResource ElementReference t query body method = AtElement t (λ id p. IsQuestion (question.ElementReference id p))
AsksResource ElementPaths t query body method =
    AtElement t (λ id p. Shows ElementPaths query (λ g. question.ElementPaths id p (level_of g)))
AsksResource Concepts t query body method = AsksCollection concept_interface Concepts query body method
AsksResource Concept t query body method = AsksDocument concept_interface Concept t.id query body method
AsksResource Lookup t query body method = Shows Lookup query (λ g. question.Lookup g.asset_ids g.after (limit_of g))
AsksResource Serialization t query body method =
    Shows Serialization query (λ g. question.Serialization g.shells g.submodels (concepts_of g))

-- ---- requests

-- what is asked, with the shell through which it is, or the refusal
abbrev pub Called : Type 0
Called = Result Call Refusal

abbrev pub as_call : Option (List ℕ) → Asked → Called
as_call through (Ok ask) = Ok (record { through = through; ask = ask })
as_call through (Err refusal) = Err refusal

-- it is asked, through this shell, if there is one
abbrev pub IsCall : Option (List ℕ) → (Asked → Type 0) → Called → Type 0
IsCall through Asks called = (asked : Asked) × Asks asked × (called ≡ as_call through asked)

-- so, by the segment of a shell, where there is one
abbrev pub Through : Option (List ℕ) → (Asked → Type 0) → Called → Type 0
Through None Asks = IsCall None Asks
Through (Some segment) Asks = ById segment (λ shell. IsCall (Some shell) Asks)

abbrev pub IsByMethod : Option Method → List Method → (Method → Called → Type 0) → Called → Type 0
IsByMethod None methods Asks called = called ≡ Err (NotAllowed (chars (allow_text methods)))
IsByMethod (Some method) methods Asks called = Asks method called

-- by the method of this name, which is to be one of these
abbrev pub ByMethod : List ℕ → List Method → (Method → Called → Type 0) → Called → Type 0
ByMethod name methods Asks called = IsByMethod (method_among name methods) methods Asks called

abbrev pub ByRoute : Option Found → Message → Called → Type 0
ByRoute None m called = called ≡ Err NoRoute
ByRoute (Some found) m called =
    ByMethod m.method (methods_of found)
    (λ method. Through found.through (AsksResource found.resource found.texts (query_in m.target) m.body method)) called

unfoldable pub IsAsked : Message → Called → Type 0
IsAsked m called = ByRoute (resource_at (path_in m.target)) m called

-- it is what is asked, or memory was refused
abbrev pub OrNoMemory : {A : Type 0} → (Result A Refusal → Type 0) → Result A Refusal → Type 0
OrNoMemory Asks asked = (asked ≡ Err Refusal.NoMemory) ⊎ Asks asked
