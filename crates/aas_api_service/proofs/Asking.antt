-- What holds of what a request asks for, by the forms that this has.
use Rattle.std.proofs.Common.{◌≡◌, inl, inr, List, ℕ, Option, Some, None, Ok, Err, refl, subst, ap}
use Rattle.aas_model.specs.declared.path.Path.{Path}
use Rattle.aas_path_trees.specs.PathRule.{KeepsRule}
use Rattle.aas_http.specs.FirstRequest.{Message}
use Rattle.aas_target.specs.Routes.{Found, Texts, method_among, methods_of, path_in, query_in, resource_at}
use Rattle.aas_target.specs.declared.method.Method.{Method}
use Rattle.aas_api.specs.Asked.{Asked, AsksResource, AtElement, ById, ByPath, ByRoute, Called, IsAsked, IsByMethod}
use Rattle.aas_api.specs.Asked.{IsCall, Through}
use Rattle.aas_api.specs.declared.ask.Ask.{Ask}

module _ (Fact : Ask → Type 0) (a : Ask) where
  -- where it is asked for so, this holds of it
  abbrev pub Implies : (Asked → Type 0) → Type 0
  Implies Asks = Asks (Ok a) → Fact a

  pub by_id : (segment : List ℕ) (Asks : List ℕ → Asked → Type 0)
      → ((id : List ℕ) → Implies (Asks id)) → Implies (ById segment Asks)
  by_id segment Asks each (inl (id, stands, asks)) = each id asks
  by_id segment Asks each (inr (none, is)) = absurd (cc)

  by_path : (segment : List ℕ) (Asks : Path → Asked → Type 0)
      → ((path : Path) → KeepsRule path.steps → Implies (Asks path))
      → Implies (ByPath segment Asks)
  by_path segment Asks each (inl (path, writes, asks)) = each path writes.1 asks
  by_path segment Asks each (inr (at, none, is)) = absurd (cc)

  pub at_element : (t : Texts) (Asks : List ℕ → Path → Asked → Type 0)
      → ((id : List ℕ) (path : Path) → KeepsRule path.steps → Implies (Asks id path)) → Implies (AtElement t Asks)
  at_element t Asks each = by_id t.id (λ id. ByPath t.path (Asks id)) (λ id. by_path t.path (Asks id) (each id))

-- ---- requests

abbrev asked_in : Called → Option Ask
asked_in (Ok call) = Some call.ask
asked_in (Err why) = None

module _ (Fact : Ask → Type 0) (through : Option (List ℕ)) (a : Ask) where
  -- where it is called for so, this holds of it
  abbrev CallImplies : (Called → Type 0) → Type 0
  CallImplies Calls = Calls (Ok (record { through = through; ask = a })) → Fact a

  is_call : (shell : Option (List ℕ)) (Asks : Asked → Type 0)
      → ((b : Ask) → Implies Fact b Asks) → CallImplies (IsCall shell Asks)
  is_call shell Asks each (Ok b, asks, is) =
      let same_ask : Some a ≡ Some b = ap asked_in is in
      let same : b ≡ a = cc in subst Fact same (each b asks)
  is_call shell Asks each (Err why, asks, is) = absurd (cc)

  by_shell : (segment : Option (List ℕ)) (Asks : Asked → Type 0) → ((b : Ask) → Implies Fact b Asks)
      → CallImplies (Through segment Asks)
  by_shell None Asks each calls = is_call None Asks each calls
  by_shell (Some segment) Asks each (inl (id, stands, calls)) = is_call (Some id) Asks each calls
  by_shell (Some segment) Asks each (inr (none, is)) = absurd (cc)

  by_method : (method : Option Method) (methods : List Method) (Calls : Method → Called → Type 0)
      → ((m : Method) → method ≡ Some m → CallImplies (Calls m)) → CallImplies (IsByMethod method methods Calls)
  by_method None methods Calls each is = absurd (cc)
  by_method (Some method) methods Calls each calls = each method refl calls

  -- it holds of each thing for which the request asks by a method that a resource has
  abbrev pub HoldsByMethods : Message → Type 0
  HoldsByMethods m =
      (found : Found) (method : Method) → method_among m.method (methods_of found) ≡ Some method → (b : Ask)
      → Implies Fact b (AsksResource found.resource found.texts (query_in m.target) m.body method)

  by_route : (found : Option Found) (m : Message) → HoldsByMethods m → CallImplies (ByRoute found m)
  by_route None m each is = absurd (cc)
  by_route (Some found) m each calls =
      let AsksBy : Method → Asked → Type 0 = AsksResource found.resource found.texts (query_in m.target) m.body in
      by_method (method_among m.method (methods_of found)) (methods_of found) (λ method.
      Through found.through (AsksBy method))
      (λ method is. by_shell found.through (AsksBy method) (each found method is)) calls

  pub by_request : (m : Message) → HoldsByMethods m → CallImplies (IsAsked m)
  unfolding IsAsked
  by_request m each asked = by_route (resource_at (path_in m.target)) m each asked
