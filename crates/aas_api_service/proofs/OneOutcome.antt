-- Where documents are valid, a request comes to one thing alone.
use Rattle.std.proofs.Common.{◌≡◌, ◌⊎◌, inl, inr, ℕ, ◌+◌, ◌<◌, List, [], ◌++◌, length, false, Option, Some, None}
use Rattle.std.proofs.Common.{Result, Ok, Err, sym, ap, ◌∙◌, subst, arith}
use Rattle.std.specs.Prelude.{bytes_eq, codes}
use Rattle.std.specs.List.{last_or}
use Rattle.std.specs.FinMap as map
use Rattle.std.specs.Str.{chars, encode_utf8_all}
use Rattle.percent_encoding.specs.Percent.{percent_decode}
use Rattle.serde_json.specs.Data.{Data}
use Rattle.serde_json.specs.Written.{compact_text}
use Rattle.aas_json_table.specs.Misfit.{misfit}
use Rattle.aas_json_table.specs.Rows.{Pointer}
use Rattle.aas_json_table.specs.Table.{one}
use Rattle.aas_json_table.specs.TooDeep.{Levels, limits, too_deep}
use Rattle.aas_json_spelling.specs.Mapped.{AnyShape}
use Rattle.aas_json_spelling.specs.Reading.{reading}
use Rattle.aas_json_spelling.specs.Reads.{IsFault, IsPointer, ReadsIf}
use Rattle.aas_json_spelling.specs.Spells.{Trees, Spells}
use Rattle.aas_json_spelling.proofs.Laws.{one_tree}
use Rattle.aas_json_mapping.specs.Metadata.{IsMetadata, IsSubmodelMetadata, metadata_forms, submodel_metadata_forms}
use Rattle.aas_json_mapping.specs.Shape.{IsShaped, IsShapedSubmodel}
use Rattle.aas_json_mapping.specs.Trees.{asset_informations, concepts, elements, shells, submodels}
use Rattle.aas_json_mapping.proofs.DocumentsLaws.{concepts_laws, shells_laws, submodels_laws}
use Rattle.aas_json_mapping.proofs.ElementsLaws.{elements_laws}
use Rattle.aas_json_mapping.proofs.MetadataLaws.{metadata_laws, submodel_metadata_laws}
use Rattle.aas_json_mapping.proofs.PartsLaws.{asset_informations_laws}
use Rattle.aas_reference.specs.Trees.{references}
use Rattle.aas_reference.proofs.Facts.{laws as references_laws}
use Rattle.aas_model.specs.declared.path.Path.{Path}
use Rattle.aas_model.specs.declared.path.PathStep.{PathStep}
use Rattle.aas_model.specs.declared.read_fault.ReadFault.{ReadFault}
use Rattle.aas_model.specs.declared.read_fault.ReadFault.TheVariants as read
use Rattle.aas_path.specs.PathText.{IsNoPath}
use Rattle.aas_path.proofs.PathSteps.{one_path}
use Rattle.aas_edit_laws.specs.Laws.{at_level}
use Rattle.aas_command.specs.declared.command.Command.{Command}
use Rattle.aas_command.specs.declared.command.Command.TheVariants.{SetAsset, AddReference, DropReference, InsertElement}
use Rattle.aas_command.specs.declared.command.Command.TheVariants.{ReplaceElement, DeleteElement, UpdateValue}
use Rattle.aas_command.specs.declared.command.Command.TheVariants.{ReplaceSubmodel}
use Rattle.aas_command.specs.declared.refusal.Absent.TheVariants as absent
use Rattle.aas_command.specs.declared.refusal.Refusal.{Refusal}
use Rattle.aas_command.specs.declared.refusal.Refusal.TheVariants as refusal
use Rattle.aas_question.specs.declared.question.Question.{Question}
use Rattle.aas_question.specs.declared.question.Question.TheVariants as question
use Rattle.aas_http.specs.FirstRequest.{Message}
use Rattle.aas_http.specs.declared.replies.Reply.{Reply}
use Rattle.aas_page.specs.Laws.{SegmentsStandForOne}
use Rattle.aas_meta_update.specs.WithMetadata.{with_submodel_metadata}
use Rattle.aas_rule.specs.Rule.{Repository, Room, Outcome}
use Rattle.aas_store.specs.Documents.{Documents}
use Rattle.aas_step.specs.Causes.{Cause}
use Rattle.aas_step.specs.Laws.{OneResult}
use Rattle.aas_step.specs.Valid.{AreValid}
use Rattle.aas_step.specs.Step.{Result as StepResult}
use Rattle.aas_target.specs.Given.{concepts_of, extent_of, level_of, limit_of, selection_of, span_of}
use Rattle.aas_target.specs.Laws.{QueriesSayOne}
use Rattle.aas_target.specs.Query.{parameter_name}
use Rattle.aas_target.specs.Routes.{Found, Texts, allow_text, method_among, methods_of, parameters_of, path_in}
use Rattle.aas_target.specs.Routes.{query_in, resource_at}
use Rattle.aas_target.specs.declared.given.Given.{Given}
use Rattle.aas_target.specs.declared.method.Method.{Method}
use Rattle.aas_target.specs.declared.method.Method.TheVariants.{Get, Post, Put, Patch, Delete}
use Rattle.aas_target.specs.declared.parameter.Parameter.{Parameter}
use Rattle.aas_target.specs.declared.routes.Resource.{Resource}
use Rattle.aas_target.specs.declared.routes.Resource.TheVariants.{Shells, ShellsReference, Shell, ShellReference}
use Rattle.aas_target.specs.declared.routes.Resource.TheVariants.{AssetInformation, ReferencesOf, ReferencesTo}
use Rattle.aas_target.specs.declared.routes.Resource.TheVariants.{Submodels, SubmodelsMetadata, SubmodelsValue}
use Rattle.aas_target.specs.declared.routes.Resource.TheVariants.{SubmodelsReference, Submodel, SubmodelMetadata}
use Rattle.aas_target.specs.declared.routes.Resource.TheVariants.{SubmodelValue, SubmodelReference, SubmodelPaths}
use Rattle.aas_target.specs.declared.routes.Resource.TheVariants.{Elements, ElementsMetadata, ElementsReference}
use Rattle.aas_target.specs.declared.routes.Resource.TheVariants.{Element, ElementMetadata, ElementValue}
use Rattle.aas_target.specs.declared.routes.Resource.TheVariants.{ElementReference, ElementPaths, Concepts, Concept}
use Rattle.aas_target.specs.declared.routes.Resource.TheVariants.{Lookup, Serialization}
use Rattle.aas_api.specs.Asked.{Asked, AsksAsset, AsksElementMetadata, AsksSubmodelMetadata, DescribesElement}
use Rattle.aas_api.specs.Asked.{DescribesSubmodel, AsksCollection, AsksDocument, AsksElement, AsksElements}
use Rattle.aas_api.specs.Asked.{AsksElementValue, AsksReferences, AsksResource, AsksSubmodelValue, AtElement, ByBody}
use Rattle.aas_api.specs.Asked.{ById, ByPath, ByQuery, ByRoute, Called, Inserts, IsAsked, IsByMethod, IsByRead}
use Rattle.aas_api.specs.Asked.{IsBySent, IsCall, IsCommand, IsQuestion, Replaces, Shows, Through, UnlessBroken}
use Rattle.aas_api.specs.Asked.{Updates, as_call, has_last, if_same, root}
use Rattle.aas_api.specs.Interfaces.{Interface, concept_interface, shell_interface, submodel_interface}
use Rattle.aas_api.specs.Numbers.{broken_number}
use Rattle.aas_api_service.specs.Replies.{messages, refusal_reply}
use Rattle.aas_api.specs.Submodels.{submodel_of}
use Rattle.aas_api.specs.declared.ask.Ask.{Ask}
use Rattle.aas_api.specs.declared.ask.Ask.TheVariants.{Act, Answer, Describe}
use Rattle.aas_api.specs.declared.ask.Call.{Call}
use Rattle.aas_api.specs.declared.ask.Metadata.{Metadata}
use Rattle.aas_api.specs.declared.ask.Metadata.TheVariants as metadata
use Rattle.aas_api_service.specs.Described.{ByFound, Described, IsDescribed, PutsElement, no_element}
use Rattle.aas_model.specs.declared.element.Element.{Element as ElementTree}
use Rattle.aas_path_trees.specs.ElementAt.{element_at}
use Rattle.aas_api_service.specs.Laws.{OneOutcome}
use Rattle.aas_api_service.specs.Turns.{ActComesTo, AskComesTo, CallComesTo, CalledComesTo, ComesUnless}
use Rattle.aas_api_service.specs.Turns.{DescribedComesTo, Turns, outcome_of, unchanged, unreached}

-- they ask for the same, or are refused with the same reply
abbrev Same : {A : Type 0} → Result A Refusal → Result A Refusal → Type 0
Same a b = (a ≡ b) ⊎ ((why : Refusal) × (other : Refusal) × (a ≡ Err why)
    × (b ≡ Err other) × (refusal_reply why ≡ refusal_reply other))

-- two trees that one value spells are the same
abbrev SpellsOnce : {A : Type 0} → Trees A → Type 0
SpellsOnce {A = A} trees =
    (levels : Levels) (j : Data) (t u : A) → Spells trees levels j t → Spells trees levels j u → t ≡ u

-- ---- trees

shells_once : SpellsOnce shells
shells_once = one_tree shells AnyShape shells_laws

submodels_once : SpellsOnce submodels
submodels_once = one_tree submodels IsShapedSubmodel submodels_laws

concepts_once : SpellsOnce concepts
concepts_once = one_tree concepts AnyShape concepts_laws

elements_once : SpellsOnce elements
elements_once = one_tree elements IsShaped elements_laws

forms_once : SpellsOnce metadata_forms
forms_once = one_tree metadata_forms IsMetadata metadata_laws

submodel_forms_once : SpellsOnce submodel_metadata_forms
submodel_forms_once = one_tree submodel_metadata_forms IsSubmodelMetadata submodel_metadata_laws

assets_once : SpellsOnce asset_informations
assets_once = one_tree asset_informations AnyShape asset_informations_laws

references_once : SpellsOnce references
references_once = one_tree references AnyShape references_laws

-- ---- bodies

no_pointer : (found : Option Pointer) (p : List ℕ) → IsPointer found p → found ≡ None → ⊥
no_pointer None p is none = cc
no_pointer (Some f) p is none = cc

same_pointer : (found : Option Pointer) (p q : List ℕ)
    → IsPointer found p → IsPointer found q → encode_utf8_all p ≡ encode_utf8_all q
same_pointer found p q first second =
    let e : Some (encode_utf8_all p) ≡ Some (encode_utf8_all q) = sym first ∙ second in cc

-- a bad request, with the text of a code and a place
abbrev bad_at : ℕ → List ℕ → List ℕ → Reply
bad_at code words place =
    record { status = 400; body = compact_text (messages code (words ++ place)); later = 0; allow = []; close = false }

same_misfits : (p q : List ℕ) → encode_utf8_all p ≡ encode_utf8_all q
    → refusal_reply (refusal.NotMapping p) ≡ refusal_reply (refusal.NotMapping q)
unfolding refusal_reply
same_misfits p q e = ap (bad_at 10 (codes "not in the mapping at ")) e

same_depths : (p q : List ℕ) → encode_utf8_all p ≡ encode_utf8_all q
    → refusal_reply (refusal.TooDeep p) ≡ refusal_reply (refusal.TooDeep q)
unfolding refusal_reply
same_depths p q e = ap (bad_at 11 (codes "too deep at ")) e

both : {A : Type 0} (a b c : Result A Refusal) → a ≡ c → b ≡ c → Same a b
both a b c first second = inl (first ∙ sym second)

module _ {A : Type 0} (trees : Trees A) (once : SpellsOnce trees)
    (levels : Levels) (asks : A → Asked) (a b : Asked) where
  -- where there is no value
  unread : (x y : Result A ReadFault)
      → ReadsIf trees levels x None → ReadsIf trees levels y None → IsByRead asks x a → IsByRead asks y b
      → Same a b
  unread x y (inl e) (inl f) first second =
      both a b (Err refusal.NotJson) (subst (λ (r : Result A ReadFault). IsByRead asks r a) e first)
      (subst (λ (r : Result A ReadFault). IsByRead asks r b) f second)
  unread x y (inr e) reads first second = absurd (subst (λ (r : Result A ReadFault). IsByRead asks r a) e first)
  unread x y (inl e) (inr f) first second = absurd (subst (λ (r : Result A ReadFault). IsByRead asks r b) f second)

  -- a value that spells a tree has no fault
  no_fault : (j : Data) (t : A) (fault : ReadFault) (c : Asked) → Spells trees levels j t → IsFault trees levels fault j
      → IsByRead asks (Err fault) c → ⊥
  no_fault j t read.NotJson c spells is by = is
  no_fault j t (read.NotMapping p) c spells is by = no_pointer (misfit (one trees.sort) j) p is spells.fits
  no_fault j t (read.TooDeep p) c spells is by = no_pointer (too_deep (one trees.sort) j levels) p is.1 spells.shallow
  no_fault j t read.NoMemory c spells is by = by

  same_fault : (j : Data) (f g : ReadFault)
      → IsFault trees levels f j → IsFault trees levels g j → IsByRead asks (Err f) a
      → IsByRead asks (Err g) b → Same a b
  same_fault j read.NotJson g is other first second = absurd is
  same_fault j read.NoMemory g is other first second = absurd first
  same_fault j (read.NotMapping p) read.NotJson is other first second = absurd other
  same_fault j (read.NotMapping p) read.NoMemory is other first second = absurd second
  same_fault j (read.NotMapping p) (read.NotMapping q) is other first second =
      let same = same_pointer (misfit (one trees.sort) j) p q is other in
      inr (refusal.NotMapping p, refusal.NotMapping q, first, second, same_misfits p q same)
  same_fault j (read.NotMapping p) (read.TooDeep q) is other first second =
      absurd (no_pointer (misfit (one trees.sort) j) p is other.0)
  same_fault j (read.TooDeep p) read.NotJson is other first second = absurd other
  same_fault j (read.TooDeep p) read.NoMemory is other first second = absurd second
  same_fault j (read.TooDeep p) (read.NotMapping q) is other first second =
      absurd (no_pointer (misfit (one trees.sort) j) q other is.0)
  same_fault j (read.TooDeep p) (read.TooDeep q) is other first second =
      let same = same_pointer (too_deep (one trees.sort) j levels) p q is.1 other.1 in
      inr (refusal.TooDeep p, refusal.TooDeep q, first, second, same_depths p q same)

  -- by the value that the bytes are read as
  same_read : (found : Option Data) (x y : Result A ReadFault)
      → ReadsIf trees levels x found → ReadsIf trees levels y found
      → IsByRead asks x a → IsByRead asks y b → Same a b
  same_read None x y reads other first second = unread x y reads other first second
  same_read (Some j) (Ok t) (Ok u) spells other first second =
      inl (first ∙ ap asks (once levels j t u spells other) ∙ sym second)
  same_read (Some j) (Ok t) (Err g) spells other first second = absurd (no_fault j t g b spells other second)
  same_read (Some j) (Err f) (Ok u) is spells first second = absurd (no_fault j u f a spells is first)
  same_read (Some j) (Err f) (Err g) is other first second = same_fault j f g is other first second

  same_by_body : (body : List ℕ) → ByBody trees levels body asks a → ByBody trees levels body asks b → Same a b
  same_by_body body (x, reads, first) (y, other, second) = same_read (reading body) x y reads other first second

-- ---- values that are sent

-- the characters that write a pointer are those of one text
same_broken : (found : Option Pointer) (asks a b : Asked)
    → UnlessBroken found asks a → UnlessBroken found asks b → Same a b
same_broken None asks a b first second = both a b asks first second
same_broken (Some at) asks a b (p, is, first) (q, other, second) =
    inr
    (refusal.NotMapping p, refusal.NotMapping q, first, second, same_misfits p q (same_pointer (Some at) p q is other))

same_by_sent : (found : Option Data) (asks : Data → Asked) (a b : Asked)
    → IsBySent asks found a → IsBySent asks found b → Same a b
same_by_sent None asks a b first second = both a b (Err refusal.NotJson) first second
same_by_sent (Some v) asks a b first second = same_broken (broken_number v) (asks v) a b first second

-- ---- segments and queries

-- a text that writes no path begins one to one length
one_length : (text : List ℕ) (m n : ℕ) → IsNoPath text m → IsNoPath text n → m ≡ n
one_length text m n first second =
    let above : m < n → ⊥ = λ less. first.no_longer n less second.within second.begins in
    let below : n < m → ⊥ = λ less. second.no_longer m less first.within first.begins in
    omega (arith, above, below)

-- where both are asked so, they ask for the same
abbrev AgreeOn : {A : Type 0} → Result A Refusal → Result A Refusal → (Result A Refusal → Type 0) → Type 0
AgreeOn a b Asks = Asks a → Asks b → Same a b

agree_by_id : {A : Type 0}
    → SegmentsStandForOne → (a b : Result A Refusal) (segment : List ℕ) (Asks : List ℕ → Result A Refusal → Type 0)
    → ((id : List ℕ) → AgreeOn a b (Asks id)) → AgreeOn a b (ById segment Asks)
agree_by_id {A = A} one_id a b segment Asks each (inl (id, stands, asks)) (inl (other, other_stands, other_asks)) =
    each id asks (subst (λ (i : List ℕ). Asks i b) (one_id segment other id other_stands stands) other_asks)
agree_by_id one_id a b segment Asks each (inl (id, stands, asks)) (inr (none, is)) = absurd (none id stands)
agree_by_id one_id a b segment Asks each (inr (none, is)) (inl (id, stands, asks)) = absurd (none id stands)
agree_by_id one_id a b segment Asks each (inr (none, is)) (inr (other, other_is)) =
    both a b (Err refusal.BadIdentifier) is other_is

module _ (one_id : SegmentsStandForOne) (one_query : QueriesSayOne) (a b : Asked) where
  abbrev Agree : (Asked → Type 0) → Type 0
  Agree Asks = AgreeOn a b Asks

  agree_question : (q : Question) → Agree (IsQuestion q)
  agree_question q first second = both a b (Ok (Answer q)) first second

  agree_command : (c : Command) → Agree (IsCommand c)
  agree_command c first second = both a b (Ok (Act c)) first second

  by_id : (segment : List ℕ) (Asks : List ℕ → Asked → Type 0)
      → ((id : List ℕ) → Agree (Asks id)) → Agree (ById segment Asks)
  by_id segment Asks each = agree_by_id one_id a b segment Asks each

  by_path : (segment : List ℕ) (Asks : Path → Asked → Type 0)
      → ((path : Path) → Agree (Asks path)) → Agree (ByPath segment Asks)
  by_path segment Asks each (inl (path, writes, asks)) (inl (other, other_writes, other_asks)) =
      let to_path : List PathStep → Path = λ steps. record { steps = steps } in
      let same : other ≡ path =
      ap to_path (one_path (percent_decode segment) other.steps path.steps other_writes writes) in
      each path asks (subst (λ (p : Path). Asks p b) same other_asks)
  by_path segment Asks each (inl (path, writes, asks)) (inr (at, none, is)) = absurd (none.none path.steps writes)
  by_path segment Asks each (inr (at, none, is)) (inl (path, writes, asks)) = absurd (none.none path.steps writes)
  by_path segment Asks each (inr (at, none, is)) (inr (other, other_none, other_is)) =
      let same : at ≡ other = one_length (percent_decode segment) at other none other_none in
      both a b (Err (refusal.BadPath other)) (is ∙ ap (λ n. Err (refusal.BadPath n)) same) other_is

  by_query : (listed : List Parameter) (query : List ℕ) (Asks : Given → Asked → Type 0) → ((g : Given) → Agree (Asks g))
      → Agree (ByQuery listed query Asks)
  by_query listed query Asks each (inl (g, gives, asks)) (inl (other, other_gives, other_asks)) =
      each g asks (subst (λ (h : Given). Asks h b) (one_query.gives listed query other g other_gives gives) other_asks)
  by_query listed query Asks each (inl (g, gives, asks)) (inr (p, bad, is)) =
      absurd (one_query.either listed query g p gives bad)
  by_query listed query Asks each (inr (p, bad, is)) (inl (g, gives, asks)) =
      absurd (one_query.either listed query g p gives bad)
  by_query listed query Asks each (inr (p, bad, is)) (inr (q, other_bad, other_is)) =
      let same : p ≡ q = one_query.bad listed query p q bad other_bad in
      let refused : Parameter → Asked = λ r. Err (refusal.BadQuery (chars (parameter_name r))) in
      both a b (refused q) (is ∙ ap refused same) other_is

  by_shown : (resource : Resource) (query : List ℕ) (ask : Given → Question) → Agree (Shows resource query ask)
  by_shown resource query ask =
      by_query (parameters_of resource) query (λ g. IsQuestion (ask g)) (λ g. agree_question (ask g))

  at_element : (t : Texts) (Asks : List ℕ → Path → Asked → Type 0)
      → ((id : List ℕ) (path : Path) → Agree (Asks id path))
      → Agree (AtElement t Asks)
  at_element t Asks each = by_id t.id (λ id. ByPath t.path (Asks id)) (λ id. by_path t.path (Asks id) (each id))

  -- what is told by an identifier, or by the path of an element too
  told : (segment : List ℕ) (ask : List ℕ → Question) → Agree (ById segment (λ id. IsQuestion (ask id)))
  told segment ask = by_id segment (λ id. IsQuestion (ask id)) (λ id. agree_question (ask id))

  shown : (segment : List ℕ) (resource : Resource) (query : List ℕ) (ask : List ℕ → Given → Question)
      → Agree (ById segment (λ id. Shows resource query (ask id)))
  shown segment resource query ask =
      by_id segment (λ id. Shows resource query (ask id)) (λ id. by_shown resource query (ask id))

  told_at : (t : Texts) (ask : List ℕ → Path → Question) → Agree (AtElement t (λ id p. IsQuestion (ask id p)))
  told_at t ask = at_element t (λ id p. IsQuestion (ask id p)) (λ id p. agree_question (ask id p))

  shown_at : (t : Texts) (resource : Resource) (query : List ℕ) (ask : List ℕ → Path → Given → Question)
      → Agree (AtElement t (λ id p. Shows resource query (ask id p)))
  shown_at t resource query ask =
      at_element t (λ id p. Shows resource query (ask id p)) (λ id p. by_shown resource query (ask id p))

  -- ---- methods

  on_collection : {D : Type 0} (i : Interface D)
      → SpellsOnce i.documents → (resource : Resource) (query body : List ℕ) (method : Method)
      → Agree (AsksCollection i resource query body method)
  on_collection i once resource query body Get = by_shown resource query i.list
  on_collection i once resource query body Post =
      same_by_body i.documents once limits (λ d. Ok (Act (i.create d))) a b body
  on_collection i once resource query body Put = λ first second. absurd first
  on_collection i once resource query body Patch = λ first second. absurd first
  on_collection i once resource query body Delete = λ first second. absurd first

  on_document : {D : Type 0} (i : Interface D)
      → SpellsOnce i.documents → (resource : Resource) (segment query body : List ℕ)
      (method : Method) → Agree (AsksDocument i resource segment query body method)
  on_document i once resource segment query body Get = shown segment resource query i.get
  on_document i once resource segment query body Put =
      by_id segment (λ id. ByBody i.documents limits body (λ d. if_same (bytes_eq id (i.id_of d)) (Act (i.replace d))))
      (λ id. same_by_body i.documents once limits (λ d. if_same (bytes_eq id (i.id_of d)) (Act (i.replace d))) a b body)
  on_document i once resource segment query body Delete =
      by_id segment (λ id. IsCommand (i.delete id)) (λ id. agree_command (i.delete id))
  on_document i once resource segment query body Post = λ first second. absurd first
  on_document i once resource segment query body Patch = λ first second. absurd first

  on_asset : (segment body : List ℕ) (method : Method) → Agree (AsksAsset segment body method)
  on_asset segment body Get = told segment question.Asset
  on_asset segment body Put =
      by_id segment (λ id. ByBody asset_informations limits body (λ d. Ok (Act (SetAsset id d))))
      (λ id. same_by_body asset_informations assets_once limits (λ d. Ok (Act (SetAsset id d))) a b body)
  on_asset segment body Post = λ first second. absurd first
  on_asset segment body Patch = λ first second. absurd first
  on_asset segment body Delete = λ first second. absurd first

  on_references : (segment query body : List ℕ) (method : Method) → Agree (AsksReferences segment query body method)
  on_references segment query body Get = shown segment ReferencesOf query (λ id g. question.ReferencesOf id (span_of g))
  on_references segment query body Post =
      by_id segment (λ id. ByBody references limits body (λ r. Ok (Act (AddReference id r))))
      (λ id. same_by_body references references_once limits (λ r. Ok (Act (AddReference id r))) a b body)
  on_references segment query body Put = λ first second. absurd first
  on_references segment query body Patch = λ first second. absurd first
  on_references segment query body Delete = λ first second. absurd first

  drops : (segment : List ℕ) (shell : List ℕ)
      → Agree (ById segment (λ submodel. IsCommand (DropReference shell submodel)))
  drops segment shell =
      by_id segment (λ submodel. IsCommand (DropReference shell submodel))
      (λ submodel. agree_command (DropReference shell submodel))

  inserts : (id : List ℕ) (path : Path) (body : List ℕ) → Agree (Inserts id path body)
  inserts id path body =
      same_by_body elements elements_once (at_level (length path.steps + 1))
      (λ e. Ok (Act (InsertElement id path e))) a b body

  replaces : (id : List ℕ) (path : Path) (body : List ℕ) → Agree (Replaces id path body)
  replaces id path body =
      same_by_body elements elements_once (at_level (length path.steps))
      (λ e. if_same (has_last (last_or None path.steps) e) (Act (ReplaceElement id path e))) a b body

  updates : (id : List ℕ) (path : Path) (body : List ℕ) → Agree (Updates id path body)
  updates id path body = same_by_sent (reading body) (λ v. Ok (Act (UpdateValue id path v))) a b

  on_elements : (segment query body : List ℕ) (method : Method) → Agree (AsksElements segment query body method)
  on_elements segment query body Get =
      shown segment Elements query (λ id g. question.Elements id (span_of g) (level_of g) (extent_of g))
  on_elements segment query body Post = by_id segment (λ id. Inserts id root body) (λ id. inserts id root body)
  on_elements segment query body Put = λ first second. absurd first
  on_elements segment query body Patch = λ first second. absurd first
  on_elements segment query body Delete = λ first second. absurd first

  on_element : (t : Texts) (query body : List ℕ) (method : Method) → Agree (AsksElement t query body method)
  on_element t query body Get = shown_at t Element query (λ id p g. question.Element id p (level_of g) (extent_of g))
  on_element t query body Post = at_element t (λ id p. Inserts id p body) (λ id p. inserts id p body)
  on_element t query body Put = at_element t (λ id p. Replaces id p body) (λ id p. replaces id p body)
  on_element t query body Delete =
      at_element t (λ id p. IsCommand (DeleteElement id p)) (λ id p. agree_command (DeleteElement id p))
  on_element t query body Patch = λ first second. absurd first

  on_submodel_metadata : (segment body : List ℕ) (method : Method) → Agree (AsksSubmodelMetadata segment body method)
  on_submodel_metadata segment body Get = told segment question.SubmodelMetadata
  on_submodel_metadata segment body Patch =
      by_id segment (λ id. DescribesSubmodel id body)
      (λ id. same_by_body submodel_metadata_forms submodel_forms_once limits
      (λ d. if_same (bytes_eq id d.head.id) (Describe (metadata.Submodel d))) a b body)
  on_submodel_metadata segment body Post = λ first second. absurd first
  on_submodel_metadata segment body Put = λ first second. absurd first
  on_submodel_metadata segment body Delete = λ first second. absurd first

  on_element_metadata : (t : Texts) (body : List ℕ) (method : Method) → Agree (AsksElementMetadata t body method)
  on_element_metadata t body Get = told_at t question.ElementMetadata
  on_element_metadata t body Patch =
      at_element t (λ id p. DescribesElement id p body)
      (λ id p. same_by_body metadata_forms forms_once limits
      (λ e. if_same (has_last (last_or None p.steps) e) (Describe (metadata.Element id p e))) a b body)
  on_element_metadata t body Post = λ first second. absurd first
  on_element_metadata t body Put = λ first second. absurd first
  on_element_metadata t body Delete = λ first second. absurd first

  on_submodel_value : (segment query body : List ℕ) (method : Method)
      → Agree (AsksSubmodelValue segment query body method)
  on_submodel_value segment query body Get =
      shown segment SubmodelValue query (λ id g. question.SubmodelValue id (level_of g) (extent_of g))
  on_submodel_value segment query body Patch = by_id segment (λ id. Updates id root body) (λ id. updates id root body)
  on_submodel_value segment query body Post = λ first second. absurd first
  on_submodel_value segment query body Put = λ first second. absurd first
  on_submodel_value segment query body Delete = λ first second. absurd first

  on_element_value : (t : Texts) (query body : List ℕ) (method : Method) → Agree (AsksElementValue t query body method)
  on_element_value t query body Get =
      shown_at t ElementValue query (λ id p g. question.ElementValue id p (level_of g) (extent_of g))
  on_element_value t query body Patch = at_element t (λ id p. Updates id p body) (λ id p. updates id p body)
  on_element_value t query body Post = λ first second. absurd first
  on_element_value t query body Put = λ first second. absurd first
  on_element_value t query body Delete = λ first second. absurd first

  -- ---- resources

  on_resource : (resource : Resource) (t : Texts) (query body : List ℕ) (method : Method)
      → Agree (AsksResource resource t query body method)
  on_resource Shells t query body = on_collection shell_interface shells_once Shells query body
  on_resource ShellsReference t query body = λ m.
      by_shown ShellsReference query (λ g. question.ShellsReference (selection_of g))
  on_resource Shell t query body = on_document shell_interface shells_once Shell t.id query body
  on_resource ShellReference t query body = λ m. told t.id question.ShellReference
  on_resource AssetInformation t query body = on_asset t.id body
  on_resource ReferencesOf t query body = on_references t.id query body
  on_resource ReferencesTo t query body =
      λ m.
      by_id t.id (λ shell. ById t.submodel (λ submodel. IsCommand (DropReference shell submodel))) (drops t.submodel)
  on_resource Submodels t query body = on_collection submodel_interface submodels_once Submodels query body
  on_resource SubmodelsMetadata t query body = λ m.
      by_shown SubmodelsMetadata query (λ g. question.SubmodelsMetadata (selection_of g))
  on_resource SubmodelsValue t query body =
      λ m. by_shown SubmodelsValue query (λ g. question.SubmodelsValue (selection_of g) (level_of g) (extent_of g))
  on_resource SubmodelsReference t query body = λ m.
      by_shown SubmodelsReference query (λ g. question.SubmodelsReference (selection_of g))
  on_resource Submodel t query body = on_document submodel_interface submodels_once Submodel t.id query body
  on_resource SubmodelMetadata t query body = on_submodel_metadata t.id body
  on_resource SubmodelValue t query body = on_submodel_value t.id query body
  on_resource SubmodelReference t query body = λ m. told t.id question.SubmodelReference
  on_resource SubmodelPaths t query body = λ m.
      shown t.id SubmodelPaths query (λ id g. question.SubmodelPaths id (level_of g))
  on_resource Elements t query body = on_elements t.id query body
  on_resource ElementsMetadata t query body = λ m.
      shown t.id ElementsMetadata query (λ id g. question.ElementsMetadata id (span_of g))
  on_resource ElementsReference t query body = λ m.
      shown t.id ElementsReference query (λ id g. question.ElementsReference id (span_of g))
  on_resource Element t query body = on_element t query body
  on_resource ElementMetadata t query body = on_element_metadata t body
  on_resource ElementValue t query body = on_element_value t query body
  on_resource ElementReference t query body = λ m. told_at t question.ElementReference
  on_resource ElementPaths t query body = λ m.
      shown_at t ElementPaths query (λ id p g. question.ElementPaths id p (level_of g))
  on_resource Concepts t query body = on_collection concept_interface concepts_once Concepts query body
  on_resource Concept t query body = on_document concept_interface concepts_once Concept t.id query body
  on_resource Lookup t query body = λ m. by_shown Lookup query (λ g. question.Lookup g.asset_ids g.after (limit_of g))
  on_resource Serialization t query body =
      λ m. by_shown Serialization query (λ g. question.Serialization g.shells g.submodels (concepts_of g))

-- ---- requests

-- what asks for the same is the same call through one shell
same_call : (through : Option (List ℕ)) (x y : Asked) (a b : Called)
    → a ≡ as_call through x → b ≡ as_call through y → Same x y → Same a b
same_call through x y a b first second (inl e) = both a b (as_call through y) (first ∙ ap (as_call through) e) second
same_call through x y a b first second (inr (why, other, is, other_is, same)) =
    inr (why, other, first ∙ ap (as_call through) is, second ∙ ap (as_call through) other_is, same)

module _ (one_id : SegmentsStandForOne) (one_query : QueriesSayOne) (a b : Called) where
  is_call : (through : Option (List ℕ)) (Asks : Asked → Type 0)
      → ((x y : Asked) → AgreeOn x y Asks) → AgreeOn a b (IsCall through Asks)
  is_call through Asks each (x, asks, is) (y, other_asks, other_is) =
      same_call through x y a b is other_is (each x y asks other_asks)

  by_shell : (segment : Option (List ℕ)) (Asks : Asked → Type 0)
      → ((x y : Asked) → AgreeOn x y Asks) → AgreeOn a b (Through segment Asks)
  by_shell None Asks each = is_call None Asks each
  by_shell (Some segment) Asks each =
      agree_by_id one_id a b segment (λ shell. IsCall (Some shell) Asks) (λ shell. is_call (Some shell) Asks each)

  by_method : (method : Option Method) (methods : List Method) (Asks : Method → Called → Type 0)
      → ((m : Method) → AgreeOn a b (Asks m))
      → AgreeOn a b (IsByMethod method methods Asks)
  by_method None methods Asks each first second =
      both a b (Err (refusal.NotAllowed (chars (allow_text methods)))) first second
  by_method (Some method) methods Asks each first second = each method first second

  by_route : (found : Option Found) (m : Message) → AgreeOn a b (ByRoute found m)
  by_route None m first second = both a b (Err refusal.NoRoute) first second
  by_route (Some found) m first second =
      let AsksBy : Method → Asked → Type 0 = AsksResource found.resource found.texts (query_in m.target) m.body in
      by_method (method_among m.method (methods_of found)) (methods_of found) (λ method.
      Through found.through (AsksBy method))
      (λ method. by_shell found.through (AsksBy method)
      (λ x y. on_resource one_id one_query x y found.resource found.texts (query_in m.target) m.body method))
      first second

-- a request asks for one call alone
pub one_call : SegmentsStandForOne → QueriesSayOne → (m : Message) (call : Call) (other : Called)
    → IsAsked m (Ok call) → IsAsked m other → other ≡ Ok call
unfolding IsAsked
one_call one_id one_query m call other asked other_asked =
    same_as (by_route one_id one_query (Ok call) other (resource_at (path_in m.target)) m asked other_asked)
  where
    same_as : Same (Ok call) other → other ≡ Ok call
    same_as (inl is) = sym is
    same_as (inr (why, another, is, other_is, same)) = absurd (cc)

-- ---- outcomes

-- a command comes to one thing alone
one_of_act : OneResult → (room : Room) (r : Repository Documents) (c : Command) (x y : Outcome Documents Reply)
    → AreValid r.documents
    → ActComesTo room r c x → ActComesTo room r c y → x ≡ y
one_of_act one_result room r c x y valid (result, steps, read, is) (other, other_steps, other_read, other_is) =
    is ∙ ap (λ (s : StepResult). outcome_of r c s) (one_result room r c result other valid steps other_steps)
    ∙ sym other_is

one_described : OneResult → (room : Room) (r : Repository Documents) (c : Described) (x y : Outcome Documents Reply)
    → AreValid r.documents
    → DescribedComesTo room r c x → DescribedComesTo room r c y → x ≡ y
one_described one_result room r (Err why) x y valid first second = first ∙ sym second
one_described one_result room r (Ok c) x y valid first second =
    one_of_act one_result room r c x y valid first.1 second.1

-- metadata is put by one command alone, or refused by one cause
one_found : {A : Type 0} (found : Option A) (why : Refusal) (Asks : A → Described → Type 0) (c d : Described)
    → ((a : A) → Asks a c → Asks a d → c ≡ d)
    → ByFound found why Asks c → ByFound found why Asks d → c ≡ d
one_found None why Asks c d each first second = first ∙ sym second
one_found (Some a) why Asks c d each first second = each a first second

one_put : (id : List ℕ) (p : Path) (m e : ElementTree) (c d : Described)
    → PutsElement id p m e c → PutsElement id p m e d → c ≡ d
one_put id p m e c d (inl a) (inl b) = a.1 ∙ sym b.1
one_put id p m e c d (inl a) (inr b) = absurd (b.0 a.0)
one_put id p m e c d (inr a) (inl b) = absurd (a.0 b.0)
one_put id p m e c d (inr a) (inr b) = a.1 ∙ sym b.1

one_command : (documents : Documents) (m : Metadata) (c d : Described)
    → IsDescribed documents m c → IsDescribed documents m d → c ≡ d
one_command documents (metadata.Submodel m) c d first second =
    one_found (map.get documents.submodels (encode_utf8_all m.head.id)) (refusal.NotFound absent.Submodel)
    (λ s command. command ≡ Ok (ReplaceSubmodel (with_submodel_metadata s m))) c d (λ s a b. a ∙ sym b) first second
one_command documents (metadata.Element id p m) c d first second =
    one_found (map.get documents.submodels (encode_utf8_all id)) (refusal.NotFound absent.Submodel)
    (λ s. ByFound (element_at s p.steps) (no_element s p) (PutsElement id p m)) c d
    (λ s a b.
    one_found (element_at s p.steps) (no_element s p) (PutsElement id p m) c d (λ e. one_put id p m e c d) a b)
    first second

one_of_ask : OneResult → (room : Room) (r : Repository Documents) (ask : Ask) (x y : Outcome Documents Reply)
    → AreValid r.documents
    → AskComesTo room r ask x → AskComesTo room r ask y → x ≡ y
unfolding AskComesTo
one_of_ask one_result room r (Answer q) x y valid first second = first ∙ sym second
one_of_ask one_result room r (Act c) x y valid first second = one_of_act one_result room r c x y valid first second
one_of_ask one_result room r (Describe m) x y valid (c, by, comes) (d, other_by, other_comes) =
    one_described one_result room r d x y valid
    (subst (λ e. DescribedComesTo room r e x) (one_command r.documents m c d by other_by) comes) other_comes

one_unless : OneResult
    → (cause : Cause) (room : Room) (r : Repository Documents) (ask : Ask) (x y : Outcome Documents Reply)
    → AreValid r.documents → ComesUnless cause room r ask x → ComesUnless cause room r ask y → x ≡ y
one_unless one_result (Some why) room r ask x y valid first second = first ∙ sym second
one_unless one_result None room r ask x y valid first second = one_of_ask one_result room r ask x y valid first second

one_of_same : OneResult → (room : Room) (r : Repository Documents) (called : Called) (x y : Outcome Documents Reply)
    → AreValid r.documents
    → CalledComesTo room r called x → CalledComesTo room r called y → x ≡ y
unfolding CallComesTo
one_of_same one_result room r (Ok call) x y valid first second =
    one_unless one_result
    (unreached r.documents call.through (submodel_of call.ask)) room r call.ask x y valid first second
one_of_same one_result room r (Err why) x y valid first second = first ∙ sym second

one_by : OneResult → (room : Room) (r : Repository Documents) (a b : Called) (x y : Outcome Documents Reply)
    → AreValid r.documents
    → Same a b → CalledComesTo room r a x → CalledComesTo room r b y → x ≡ y
one_by one_result room r a b x y valid (inl e) first second =
    one_of_same one_result room r b x y valid (subst (λ (c : Called). CalledComesTo room r c x) e first) second
one_by one_result room r a b x y valid (inr (why, other, is, other_is, same)) first second =
    let left : x ≡ unchanged r (refusal_reply why) = subst (λ (c : Called). CalledComesTo room r c x) is first in
    let right : y ≡ unchanged r (refusal_reply other) =
    subst (λ (c : Called). CalledComesTo room r c y) other_is second in
    left ∙ ap (λ (reply : Reply). unchanged r reply) same ∙ sym right

pub one_outcome : SegmentsStandForOne → QueriesSayOne → OneResult → OneOutcome
unfolding Turns IsAsked
one_outcome one_id one_query one_result room r m x y valid (a, asked, comes) (b, other, other_comes) =
    one_by one_result room r a b x y valid
    (by_route one_id one_query a b (resource_at (path_in m.target)) m asked other) comes other_comes
