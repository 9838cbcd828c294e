-- A GET asks a question.
use Rattle.std.proofs.Common.{◌≡◌, inl, inr, List, [], ◌∷◌, ℕ, Bool, Option, Some, Ok, refl, sym, subst}
use Rattle.std.specs.Prelude.{codes, is_some}
use Rattle.aas_model.specs.declared.path.Path.{Path}
use Rattle.aas_question.specs.declared.question.Question.{Question}
use Rattle.aas_http.specs.FirstRequest.{Message}
use Rattle.aas_rule.specs.State.{State}
use Rattle.aas_session.specs.Safe.{IsSafe, IsUnchanged}
use Rattle.aas_target.specs.Routes.{IsOneOf, Texts, method_among, methods_by, methods_of, query_in}
use Rattle.aas_target.specs.declared.given.Given.{Given}
use Rattle.aas_target.specs.declared.method.Method.{Method}
use Rattle.aas_target.specs.declared.method.Method.TheVariants.{Get, Post, Put, Patch, Delete}
use Rattle.aas_target.specs.declared.routes.Resource.{Resource}
use Rattle.aas_target.specs.declared.routes.Resource.TheVariants.{Shells, ShellsReference, Shell, ShellReference}
use Rattle.aas_target.specs.declared.routes.Resource.TheVariants.{AssetInformation, ReferencesOf, ReferencesTo}
use Rattle.aas_target.specs.declared.routes.Resource.TheVariants.{Submodels, SubmodelsMetadata, SubmodelsValue}
use Rattle.aas_target.specs.declared.routes.Resource.TheVariants.{SubmodelsReference, Submodel, SubmodelMetadata}
use Rattle.aas_target.specs.declared.routes.Resource.TheVariants.{SubmodelValue, SubmodelReference, SubmodelPaths}
use Rattle.aas_target.specs.declared.routes.Resource.TheVariants.{Elements, ElementsMetadata, ElementsReference}
use Rattle.aas_target.specs.declared.routes.Resource.TheVariants.{Element, ElementMetadata, ElementValue}
use Rattle.aas_target.specs.declared.routes.Resource.TheVariants.{ElementReference, ElementPaths, Concepts, Concept}
use Rattle.aas_target.specs.declared.routes.Resource.TheVariants.{Lookup, Serialization}
use Rattle.aas_api.specs.Asked.{Asked, AsksResource, AtElement, ById, IsAsked, IsQuestion, Shows}
use Rattle.aas_api.specs.declared.ask.Ask.{Ask}
use Rattle.aas_api.specs.declared.ask.Ask.TheVariants.{Act, Answer, Describe}
use Rattle.aas_api_service.proofs.Asking.{Implies, at_element, by_id, by_request}

-- it is a question
abbrev pub IsTold : Ask → Type 0
IsTold (Answer q) = Unit {0}
IsTold ask = ⊥

module _ (a : Ask) where
  -- what is asked for so is a question
  abbrev pub Tells : (Asked → Type 0) → Type 0
  Tells Asks = Implies IsTold a Asks

  tells_question : (q : Question) → Tells (IsQuestion q)
  tells_question q is = let same : Answer q ≡ a = cc in subst IsTold same tt

  pub shows : (resource : Resource) (query : List ℕ) (ask : Given → Question) → Tells (Shows resource query ask)
  shows resource query ask (inl (g, gives, is)) = tells_question (ask g) is
  shows resource query ask (inr (p, bad, is)) = absurd (cc)

  pub told : (segment : List ℕ) (ask : List ℕ → Question) → Tells (ById segment (λ id. IsQuestion (ask id)))
  told segment ask = by_id IsTold a segment (λ id. IsQuestion (ask id)) (λ id. tells_question (ask id))

  pub shown : (segment : List ℕ) (resource : Resource) (query : List ℕ) (ask : List ℕ → Given → Question)
      → Tells (ById segment (λ id. Shows resource query (ask id)))
  shown segment resource query ask =
      by_id IsTold a segment (λ id. Shows resource query (ask id)) (λ id. shows resource query (ask id))

  pub told_at : (t : Texts) (ask : List ℕ → Path → Question) → Tells (AtElement t (λ id p. IsQuestion (ask id p)))
  told_at t ask = at_element IsTold a t (λ id p. IsQuestion (ask id p)) (λ id p rule. tells_question (ask id p))

  pub shown_at : (t : Texts) (resource : Resource) (query : List ℕ) (ask : List ℕ → Path → Given → Question)
      → Tells (AtElement t (λ id p. Shows resource query (ask id p)))
  shown_at t resource query ask =
      at_element IsTold a t (λ id p. Shows resource query (ask id p)) (λ id p rule. shows resource query (ask id p))

  -- a GET of a resource that has it
  pub by_get : (resource : Resource) (is_through : Bool)
      → IsOneOf Get (methods_by resource is_through) → (t : Texts) (query body : List ℕ)
      → Tells (AsksResource resource t query body Get)
  by_get Shells is_through has t query body = shows Shells query _
  by_get ShellsReference is_through has t query body = shows ShellsReference query _
  by_get Shell is_through has t query body = shown t.id Shell query _
  by_get ShellReference is_through has t query body = told t.id _
  by_get AssetInformation is_through has t query body = told t.id _
  by_get ReferencesOf is_through has t query body = shown t.id ReferencesOf query _
  by_get ReferencesTo is_through (inl other) t query body = absurd (cc)
  by_get ReferencesTo is_through (inr none) t query body = absurd none
  by_get Submodels is_through has t query body = shows Submodels query _
  by_get SubmodelsMetadata is_through has t query body = shows SubmodelsMetadata query _
  by_get SubmodelsValue is_through has t query body = shows SubmodelsValue query _
  by_get SubmodelsReference is_through has t query body = shows SubmodelsReference query _
  by_get Submodel is_through has t query body = shown t.id Submodel query _
  by_get SubmodelMetadata is_through has t query body = told t.id _
  by_get SubmodelValue is_through has t query body = shown t.id SubmodelValue query _
  by_get SubmodelReference is_through has t query body = told t.id _
  by_get SubmodelPaths is_through has t query body = shown t.id SubmodelPaths query _
  by_get Elements is_through has t query body = shown t.id Elements query _
  by_get ElementsMetadata is_through has t query body = shown t.id ElementsMetadata query _
  by_get ElementsReference is_through has t query body = shown t.id ElementsReference query _
  by_get Element is_through has t query body = shown_at t Element query _
  by_get ElementMetadata is_through has t query body = told_at t _
  by_get ElementValue is_through has t query body = shown_at t ElementValue query _
  by_get ElementReference is_through has t query body = told_at t _
  by_get ElementPaths is_through has t query body = shown_at t ElementPaths query _
  by_get Concepts is_through has t query body = shows Concepts query _
  by_get Concept is_through has t query body = shown t.id Concept query _
  by_get Lookup is_through has t query body = shows Lookup query _
  by_get Serialization is_through has t query body = shows Serialization query _

-- ---- requests

-- the method named GET, among those of a resource
named_get : (methods : List Method) (method : Method) → method_among (codes "GET") methods ≡ Some method
    → (Get ≡ method) × IsOneOf Get methods
named_get [] method is = absurd (cc)
named_get (Get ∷ others) method is = (cc, inl refl)
named_get (Post ∷ others) method is = let rest = named_get others method is in (rest.0, inr rest.1)
named_get (Put ∷ others) method is = let rest = named_get others method is in (rest.0, inr rest.1)
named_get (Patch ∷ others) method is = let rest = named_get others method is in (rest.0, inr rest.1)
named_get (Delete ∷ others) method is = let rest = named_get others method is in (rest.0, inr rest.1)

tells : (m : Message) (through : Option (List ℕ)) (a : Ask)
    → IsSafe m → IsAsked m (Ok (record { through = through; ask = a })) → IsTold a
tells m through a safe =
    by_request IsTold through a m
    (λ found method is b.
    let named : (Get ≡ method) × IsOneOf Get (methods_of found) =
    named_get (methods_of found) method
    (subst (λ (name : List ℕ). method_among name (methods_of found) ≡ Some method) safe is) in
    subst (λ (by : Method). Tells b (AsksResource found.resource found.texts (query_in m.target) m.body by)) named.0
    (by_get b found.resource (is_some found.through) named.1 found.texts (query_in m.target) m.body))

by_told : (a : Ask) → IsTold a → (q : Question) × (a ≡ Answer q)
by_told (Act c) told = absurd told
by_told (Answer q) told = (q, refl)
by_told (Describe m) told = absurd told

pub asks_question : (m : Message) (through : Option (List ℕ)) (ask : Ask)
    → IsSafe m → IsAsked m (Ok (record { through = through; ask = ask }))
    → (q : Question) × (ask ≡ Answer q)
asks_question m through ask safe asked = by_told ask (tells m through ask safe asked)

-- ---- states

-- what is the same hasn't changed
pub same_unchanged : {H D I : Type 0} (state : H → State D I) (old new : H)
    → new ≡ old → IsUnchanged (state old) (state new)
same_unchanged {H = H} state old new same =
    subst (λ (held : H). IsUnchanged (state old) (state held)) (sym same)
    (record { documents = refl; kept = λ payloads. (λ kept. kept, λ kept. kept); moment = refl })
