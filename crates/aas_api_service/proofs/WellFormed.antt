-- What is asked for is well formed, since a tree that is read is whole;
-- and a metadata form that is asked for has the name of its path.
use Rattle.std.proofs.Common.{◌≡◌, inl, inr, ℕ, ◌+◌, List, length, Bool, true, false, Option, Some, None, Ok, Err, refl}
use Rattle.std.proofs.Common.{sym, subst}
use Rattle.std.specs.Prelude.{bytes_eq, if◌then◌else◌}
use Rattle.std.specs.List.{last_or}
use Rattle.serde_json.specs.Data.{Data}
use Rattle.aas_json_table.specs.Rows.{Pointer}
use Rattle.aas_json_table.specs.TooDeep.{Levels, limits}
use Rattle.aas_json_spelling.specs.Reading.{reading}
use Rattle.aas_json_spelling.specs.Reads.{ReadsIf}
use Rattle.aas_json_spelling.specs.Spells.{Trees}
use Rattle.aas_json_mapping.specs.Trees.{asset_informations, elements}
use Rattle.aas_reference.specs.Trees.{references}
use Rattle.aas_model.specs.declared.read_fault.ReadFault.TheVariants as read
use Rattle.aas_model.specs.declared.asset.AssetInformation.{AssetInformation as Asset_information}
use Rattle.aas_model.specs.declared.element.Element.{Element as ElementTree}
use Rattle.aas_model.specs.declared.path.Path.{Path}
use Rattle.aas_model.specs.declared.reference.Reference.{Reference}
use Rattle.aas_path_trees.specs.PathRule.{KeepsRule}
use Rattle.aas_edit_laws.specs.Laws.{at_level}
use Rattle.aas_command.specs.Commands.{IsPlace, IsSendable, IsWellFormed}
use Rattle.aas_command.proofs.Sendable.{read_sendable}
use Rattle.aas_command.specs.declared.command.Command.{Command}
use Rattle.aas_command.specs.declared.command.Command.TheVariants.{SetAsset, AddReference, DropReference, InsertElement}
use Rattle.aas_command.specs.declared.command.Command.TheVariants.{ReplaceElement, DeleteElement, UpdateValue}
use Rattle.aas_command.specs.declared.refusal.Refusal.TheVariants.{IdMismatch}
use Rattle.aas_command.proofs.PathTexts.{is_place}
use Rattle.aas_question.specs.declared.question.Question.TheVariants as question
use Rattle.aas_http.specs.FirstRequest.{Message}
use Rattle.aas_target.specs.Given.{extent_of, level_of, span_of}
use Rattle.aas_target.specs.Routes.{Texts, query_in}
use Rattle.aas_target.specs.declared.method.Method.{Method}
use Rattle.aas_target.specs.declared.method.Method.TheVariants.{Get, Post, Put, Patch, Delete}
use Rattle.aas_target.specs.declared.routes.Resource.{Resource}
use Rattle.aas_target.specs.declared.routes.Resource.TheVariants.{Shells, Shell, AssetInformation, ReferencesOf}
use Rattle.aas_target.specs.declared.routes.Resource.TheVariants.{ReferencesTo, Submodels, Submodel, SubmodelMetadata}
use Rattle.aas_target.specs.declared.routes.Resource.TheVariants.{SubmodelValue, Elements, Element, ElementMetadata}
use Rattle.aas_target.specs.declared.routes.Resource.TheVariants.{ElementValue, Concepts, Concept}
use Rattle.aas_api.proofs.BrokenNumbers.{unbroken}
use Rattle.aas_api.specs.Asked.{Asked, AsksAsset, AsksElementMetadata, AsksSubmodelMetadata, DescribesElement}
use Rattle.aas_api.specs.Asked.{DescribesSubmodel, AsksCollection, AsksDocument, AsksElement, AsksElements}
use Rattle.aas_api.specs.Asked.{AsksElementValue, AsksReferences, AsksResource, AsksSubmodelValue, ByBody, ById, BySent}
use Rattle.aas_api.specs.Asked.{Inserts, IsAsked, IsBySent, IsCommand, Replaces, UnlessBroken, Updates, has_last}
use Rattle.aas_api.specs.Asked.{if_same, root}
use Rattle.aas_api.specs.Interfaces.{Interface, concept_interface, shell_interface, submodel_interface}
use Rattle.aas_api.specs.Numbers.{broken_number}
use Rattle.aas_api.specs.declared.ask.Ask.{Ask}
use Rattle.aas_api.specs.declared.ask.Ask.TheVariants.{Act, Answer, Describe}
use Rattle.aas_api.specs.declared.ask.Metadata.TheVariants as metadata
use Rattle.aas_json_mapping.specs.Metadata.{metadata_forms, submodel_metadata_forms}
use Rattle.aas_api_service.proofs.Asking.{Implies, at_element, by_id, by_request}
use Rattle.aas_api_service.proofs.Safe.{IsTold, by_get, shown, shown_at, shows, told, told_at}
use Rattle.aas_api_service.specs.Laws.{AsksWellFormed}
use Rattle.aas_api_service.specs.WellFormed.{IsWellFormedAsk}

-- ---- interfaces

-- commands with a whole document are well formed
record TakesWhole {D : Type 0} (i : Interface D) : Type 0 where
  create : (d : D) → i.documents.IsWhole limits d → IsWellFormed (i.create d)
  replace : (d : D) → i.documents.IsWhole limits d → IsWellFormed (i.replace d)
  delete : (id : List ℕ) → IsWellFormed (i.delete id)

takes_shells : TakesWhole shell_interface
unfolding IsWellFormed
takes_shells = record { create = λ d whole. whole; replace = λ d whole. whole; delete = λ id. tt }

takes_submodels : TakesWhole submodel_interface
unfolding IsWellFormed
takes_submodels = record { create = λ d whole. whole; replace = λ d whole. whole; delete = λ id. tt }

takes_concepts : TakesWhole concept_interface
unfolding IsWellFormed
takes_concepts = record { create = λ d whole. whole; replace = λ d whole. whole; delete = λ id. tt }

takes_asset : (id : List ℕ) (asset : Asset_information)
    → asset_informations.IsWhole limits asset → IsWellFormed (SetAsset id asset)
unfolding IsWellFormed
takes_asset id asset whole = whole

takes_reference : (id : List ℕ) (r : Reference) → references.IsWhole limits r → IsWellFormed (AddReference id r)
unfolding IsWellFormed
takes_reference id r whole = whole

takes_drop : (id other : List ℕ) → IsWellFormed (DropReference id other)
unfolding IsWellFormed
takes_drop id other = tt

-- ---- bodies and identifiers

-- the form has the name with which the path ends
abbrev pub IsNamed : Ask → Type 0
IsNamed (Describe (metadata.Element id p m)) = has_last (last_or None p.steps) m ≡ true
IsNamed ask = Unit {0}

-- it is well formed, and has that name
abbrev IsRight : Ask → Type 0
IsRight a = IsWellFormedAsk a × IsNamed a

along : (b a : Ask) → ◌≡◌ {A = Asked} (Ok b) (Ok a) → IsRight b → IsRight a
along b a same right = let e : b ≡ a = cc in subst IsRight e right

by_same : (same : Bool) (b a : Ask) → (let asked : Asked = if same then Ok b else Err IdMismatch in asked ≡ Ok a)
    → (same ≡ true → IsRight b) → IsRight a
by_same true b a is right = along b a is (right refl)
by_same false b a is right = absurd (cc)

-- questions are
told_right : (a : Ask) → IsTold a → IsRight a
told_right (Act c) told = absurd told
told_right (Answer q) told = (tt, tt)
told_right (Describe m) told = absurd told

read_whole : {A : Type 0} (trees : Trees A) (levels : Levels) (t : A) (found : Option Data)
    → ReadsIf trees levels (Ok t) found
    → trees.IsWhole levels t
read_whole trees levels t None (inl none) = absurd (cc)
read_whole trees levels t None (inr none) = absurd (cc)
read_whole trees levels t (Some j) spells = spells.whole

takes_child : (id : List ℕ) (path : Path) (e : ElementTree)
    → IsPlace path.steps → elements.IsWhole (at_level (length path.steps + 1)) e
    → IsWellFormed (InsertElement id path e)
unfolding IsWellFormed
takes_child id path e place whole = (place, whole)

pub takes_element : (id : List ℕ) (path : Path) (e : ElementTree)
    → KeepsRule path.steps → elements.IsWhole (at_level (length path.steps)) e
    → IsWellFormed (ReplaceElement id path e)
unfolding IsWellFormed
takes_element id path e rule whole = (rule, whole)

takes_removal : (id : List ℕ) (path : Path) → KeepsRule path.steps → IsWellFormed (DeleteElement id path)
unfolding IsWellFormed
takes_removal id path rule = rule

takes_value : (id : List ℕ) (path : Path) (v : Data)
    → IsPlace path.steps → IsSendable v → IsWellFormed (UpdateValue id path v)
unfolding IsWellFormed
takes_value id path v place is = (place, is)

module _ (a : Ask) where
  -- where it is asked so, it is right
  abbrev Keeps : (Asked → Type 0) → Type 0
  Keeps Asks = Implies IsRight a Asks

  keeps_command : (d : Command) → IsWellFormed d → Keeps (IsCommand d)
  keeps_command d well is = along (Act d) a (sym is) (well, tt)

  by_body : {A : Type 0} (trees : Trees A) (levels : Levels) (body : List ℕ) (asks : A → Asked)
      → ((t : A) → trees.IsWhole levels t → asks t ≡ Ok a → IsRight a) → Keeps (ByBody trees levels body asks)
  by_body trees levels body asks each (Ok t, reads, is) =
      each t (read_whole trees levels t (reading body) reads) (sym is)
  by_body trees levels body asks each (Err read.NotJson, reads, is) = absurd (cc)
  by_body trees levels body asks each (Err (read.NotMapping pointer), reads, is) = absurd (cc)
  by_body trees levels body asks each (Err (read.TooDeep pointer), reads, is) = absurd (cc)
  by_body trees levels body asks each (Err read.NoMemory, reads, is) = absurd is

  unless_broken : (found : Option Pointer) (asks : Asked) → (found ≡ None → asks ≡ Ok a → IsRight a)
      → Keeps (UnlessBroken found asks)
  unless_broken None asks each is = each refl (sym is)
  unless_broken (Some at) asks each (pointer, writes, is) = absurd (cc)

  by_read : (body : List ℕ) (found : Option Data) (asks : Data → Asked) → reading body ≡ found
      → ((v : Data) → IsSendable v → asks v ≡ Ok a → IsRight a) → Keeps (IsBySent asks found)
  by_read body None asks read each is = absurd (cc)
  by_read body (Some v) asks read each is =
      unless_broken (broken_number v) (asks v) (λ none. each v (read_sendable body v read (unbroken v none))) is

  by_sent : (body : List ℕ) (asks : Data → Asked) → ((v : Data) → IsSendable v → asks v ≡ Ok a → IsRight a)
      → Keeps (BySent body asks)
  by_sent body asks = by_read body (reading body) asks refl

  -- ---- methods

  on_collection : {D : Type 0} (i : Interface D)
      → TakesWhole i → (resource : Resource) (query body : List ℕ) (method : Method)
      → Keeps (AsksCollection i resource query body method)
  on_collection i takes resource query body Get asks = told_right a (shows a resource query i.list asks)
  on_collection i takes resource query body Post asks =
      by_body i.documents limits body (λ d. Ok (Act (i.create d)))
      (λ d whole is. along (Act (i.create d)) a is (takes.create d whole, tt)) asks
  on_collection i takes resource query body Put asks = absurd asks
  on_collection i takes resource query body Patch asks = absurd asks
  on_collection i takes resource query body Delete asks = absurd asks

  on_document : {D : Type 0} (i : Interface D)
      → TakesWhole i → (resource : Resource) (segment query body : List ℕ) (method : Method)
      → Keeps (AsksDocument i resource segment query body method)
  on_document i takes resource segment query body Get asks = told_right a (shown a segment resource query i.get asks)
  on_document i takes resource segment query body Put asks =
      by_id IsRight a segment (λ id.
      ByBody i.documents limits body (λ d. if_same (bytes_eq id (i.id_of d)) (Act (i.replace d))))
      (λ id. by_body i.documents limits body (λ d. if_same (bytes_eq id (i.id_of d)) (Act (i.replace d)))
      (λ d whole is. by_same (bytes_eq id (i.id_of d)) (Act (i.replace d)) a is (λ _. (takes.replace d whole, tt))))
      asks
  on_document i takes resource segment query body Delete asks =
      by_id IsRight a segment (λ id. IsCommand (i.delete id)) (λ id. keeps_command (i.delete id) (takes.delete id)) asks
  on_document i takes resource segment query body Post asks = absurd asks
  on_document i takes resource segment query body Patch asks = absurd asks

  on_asset : (segment body : List ℕ) (method : Method) → Keeps (AsksAsset segment body method)
  on_asset segment body Get asks = told_right a (told a segment question.Asset asks)
  on_asset segment body Put asks =
      by_id IsRight a segment (λ id. ByBody asset_informations limits body (λ d. Ok (Act (SetAsset id d))))
      (λ id. by_body asset_informations limits body (λ d. Ok (Act (SetAsset id d)))
      (λ d whole is. along (Act (SetAsset id d)) a is (takes_asset id d whole, tt))) asks
  on_asset segment body Post asks = absurd asks
  on_asset segment body Patch asks = absurd asks
  on_asset segment body Delete asks = absurd asks

  on_references : (segment query body : List ℕ) (method : Method) → Keeps (AsksReferences segment query body method)
  on_references segment query body Get asks =
      told_right a (shown a segment ReferencesOf query (λ id g. question.ReferencesOf id (span_of g)) asks)
  on_references segment query body Post asks =
      by_id IsRight a segment (λ id. ByBody references limits body (λ r. Ok (Act (AddReference id r))))
      (λ id. by_body references limits body (λ r. Ok (Act (AddReference id r)))
      (λ r whole is. along (Act (AddReference id r)) a is (takes_reference id r whole, tt))) asks
  on_references segment query body Put asks = absurd asks
  on_references segment query body Patch asks = absurd asks
  on_references segment query body Delete asks = absurd asks

  drops : (segment shell : List ℕ) → Keeps (ById segment (λ submodel. IsCommand (DropReference shell submodel)))
  drops segment shell =
      by_id IsRight a segment (λ submodel. IsCommand (DropReference shell submodel))
      (λ submodel. keeps_command (DropReference shell submodel) (takes_drop shell submodel))

  inserts : (id : List ℕ) (path : Path) (body : List ℕ) → IsPlace path.steps → Keeps (Inserts id path body)
  inserts id path body place =
      by_body elements (at_level (length path.steps + 1)) body (λ e. Ok (Act (InsertElement id path e)))
      (λ e whole is. along (Act (InsertElement id path e)) a is (takes_child id path e place whole, tt))

  replaces : (id : List ℕ) (path : Path) (body : List ℕ) → KeepsRule path.steps → Keeps (Replaces id path body)
  replaces id path body rule =
      by_body elements (at_level (length path.steps)) body (λ e.
      if_same (has_last (last_or None path.steps) e) (Act (ReplaceElement id path e)))
      (λ e whole is. by_same (has_last (last_or None path.steps) e) (Act (ReplaceElement id path e)) a is (λ _.
      (takes_element id path e rule whole, tt)))

  updates : (id : List ℕ) (path : Path) (body : List ℕ) → IsPlace path.steps → Keeps (Updates id path body)
  updates id path body place =
      by_sent body (λ v. Ok (Act (UpdateValue id path v)))
      (λ v sendable is. along (Act (UpdateValue id path v)) a is (takes_value id path v place sendable, tt))

  on_elements : (segment query body : List ℕ) (method : Method) → Keeps (AsksElements segment query body method)
  on_elements segment query body Get asks =
      told_right a
      (shown a segment Elements query (λ id g. question.Elements id (span_of g) (level_of g) (extent_of g)) asks)
  on_elements segment query body Post asks =
      by_id IsRight a segment (λ id. Inserts id root body) (λ id. inserts id root body tt) asks
  on_elements segment query body Put asks = absurd asks
  on_elements segment query body Patch asks = absurd asks
  on_elements segment query body Delete asks = absurd asks

  on_element : (t : Texts) (query body : List ℕ) (method : Method) → Keeps (AsksElement t query body method)
  on_element t query body Get asks =
      told_right a (shown_at a t Element query (λ id p g. question.Element id p (level_of g) (extent_of g)) asks)
  on_element t query body Post asks =
      at_element IsRight a t (λ id p. Inserts id p body) (λ id p rule. inserts id p body (is_place p.steps rule)) asks
  on_element t query body Put asks =
      at_element IsRight a t (λ id p. Replaces id p body) (λ id p rule. replaces id p body rule) asks
  on_element t query body Delete asks =
      at_element IsRight a t (λ id p. IsCommand (DeleteElement id p))
      (λ id p rule. keeps_command (DeleteElement id p) (takes_removal id p rule)) asks
  on_element t query body Patch asks = absurd asks

  -- ---- metadata

  on_submodel_metadata : (segment body : List ℕ) (method : Method) → Keeps (AsksSubmodelMetadata segment body method)
  on_submodel_metadata segment body Get asks = told_right a (told a segment question.SubmodelMetadata asks)
  on_submodel_metadata segment body Patch asks =
      by_id IsRight a segment (λ id. DescribesSubmodel id body)
      (λ id. by_body submodel_metadata_forms limits body (λ d.
      if_same (bytes_eq id d.head.id) (Describe (metadata.Submodel d)))
      (λ d whole is. by_same (bytes_eq id d.head.id) (Describe (metadata.Submodel d)) a is (λ _. (whole, tt)))) asks
  on_submodel_metadata segment body Post asks = absurd asks
  on_submodel_metadata segment body Put asks = absurd asks
  on_submodel_metadata segment body Delete asks = absurd asks

  on_element_metadata : (t : Texts) (body : List ℕ) (method : Method) → Keeps (AsksElementMetadata t body method)
  on_element_metadata t body Get asks = told_right a (told_at a t question.ElementMetadata asks)
  on_element_metadata t body Patch asks =
      at_element IsRight a t (λ id p. DescribesElement id p body)
      (λ id p rule. by_body metadata_forms limits body (λ e.
      if_same (has_last (last_or None p.steps) e) (Describe (metadata.Element id p e)))
      (λ e whole is. by_same (has_last (last_or None p.steps) e) (Describe (metadata.Element id p e)) a is (λ same.
      ((rule, whole), same))))
      asks
  on_element_metadata t body Post asks = absurd asks
  on_element_metadata t body Put asks = absurd asks
  on_element_metadata t body Delete asks = absurd asks

  on_submodel_value : (segment query body : List ℕ) (method : Method)
      → Keeps (AsksSubmodelValue segment query body method)
  on_submodel_value segment query body Get asks =
      told_right a
      (shown a segment SubmodelValue query (λ id g. question.SubmodelValue id (level_of g) (extent_of g)) asks)
  on_submodel_value segment query body Patch asks =
      by_id IsRight a segment (λ id. Updates id root body) (λ id. updates id root body tt) asks
  on_submodel_value segment query body Post asks = absurd asks
  on_submodel_value segment query body Put asks = absurd asks
  on_submodel_value segment query body Delete asks = absurd asks

  on_element_value : (t : Texts) (query body : List ℕ) (method : Method) → Keeps (AsksElementValue t query body method)
  on_element_value t query body Get asks =
      told_right a
      (shown_at a t ElementValue query (λ id p g. question.ElementValue id p (level_of g) (extent_of g)) asks)
  on_element_value t query body Patch asks =
      at_element IsRight a t (λ id p. Updates id p body) (λ id p rule. updates id p body (is_place p.steps rule)) asks
  on_element_value t query body Post asks = absurd asks
  on_element_value t query body Put asks = absurd asks
  on_element_value t query body Delete asks = absurd asks

  -- ---- resources

  on_resource : (resource : Resource) (t : Texts) (query body : List ℕ) (method : Method)
      → Keeps (AsksResource resource t query body method)
  on_resource Shells t query body = on_collection shell_interface takes_shells Shells query body
  on_resource Shell t query body = on_document shell_interface takes_shells Shell t.id query body
  on_resource AssetInformation t query body = on_asset t.id body
  on_resource ReferencesOf t query body = on_references t.id query body
  on_resource ReferencesTo t query body =
      λ m. by_id IsRight a t.id
      (λ shell. ById t.submodel (λ submodel. IsCommand (DropReference shell submodel))) (drops t.submodel)
  on_resource Submodels t query body = on_collection submodel_interface takes_submodels Submodels query body
  on_resource Submodel t query body = on_document submodel_interface takes_submodels Submodel t.id query body
  on_resource SubmodelMetadata t query body = on_submodel_metadata t.id body
  on_resource SubmodelValue t query body = on_submodel_value t.id query body
  on_resource Elements t query body = on_elements t.id query body
  on_resource Element t query body = on_element t query body
  on_resource ElementMetadata t query body = on_element_metadata t body
  on_resource ElementValue t query body = on_element_value t query body
  on_resource Concepts t query body = on_collection concept_interface takes_concepts Concepts query body
  on_resource Concept t query body = on_document concept_interface takes_concepts Concept t.id query body
  -- the others have a GET alone
  on_resource resource t query body = λ m asks. told_right a (by_get a resource false (inl refl) t query body asks)

-- ---- requests

asks_right : (m : Message) (through : Option (List ℕ)) (ask : Ask)
    → IsAsked m (Ok (record { through = through; ask = ask })) → IsRight ask
asks_right m through ask =
    by_request IsRight through ask m
    (λ found method is b. on_resource b found.resource found.texts (query_in m.target) m.body method)

pub asks_well_formed : AsksWellFormed
asks_well_formed m through ask asked = (asks_right m through ask asked).0

pub asks_well : (m : Message) (through : Option (List ℕ)) (ask : Ask)
    → IsAsked m (Ok (record { through = through; ask = ask }))
    → IsWellFormedAsk ask
asks_well m through ask asked = asks_well_formed m through ask asked

pub asks_named : (m : Message) (through : Option (List ℕ)) (ask : Ask)
    → IsAsked m (Ok (record { through = through; ask = ask }))
    → IsNamed ask
asks_named m through ask asked = (asks_right m through ask asked).1
