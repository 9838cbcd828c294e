-- Documents that are put in one after another, each under its own identifier.
use Rattle.std.proofs.Common.{◌≡◌, ℕ, zero, suc, Bool, true, false, cond, T, List, [], ◌∷◌, map, slice_get, Option}
use Rattle.std.proofs.Common.{Some, None, refl, sym, ap, ap₂, ◌∙◌}
use Rattle.std.specs.FinMap as fin
use Rattle.std.specs.FinMap.{entries_sorted, get-empty, get-entries, get-insert, same_map}
use Rattle.std.specs.List.{fold}
use Rattle.std.specs.Option.{option_or}
use Rattle.std.specs.Ordering.{eq_by_cmp, is_eq}
use Rattle.std.specs.Str.{encode_utf8_all}
use Rattle.std.specs.declared.cmp.Ordering.{Ordering}
use Rattle.std.specs.declared.cmp.Ordering.TheVariants.{Less, Equal, Greater}
use Rattle.std.proofs.lemmas.Cmp.{nat_list_cmp_total}
use Rattle.aas_model.specs.declared.documents.Concept.{Concept}
use Rattle.aas_model.specs.declared.documents.Environment.{Environment}
use Rattle.aas_model.specs.declared.documents.Shell.{Shell}
use Rattle.aas_model.specs.declared.documents.Submodel.{Submodel}
use Rattle.aas_step.proofs.Imported.{with_all_documents}
use Rattle.aas_step.specs.Made.{documents_in, with_documents}
use Rattle.aas_store.specs.Documents.{Documents, Identifier, Map, empty, with_concept, with_submodel}
use Rattle.aas_store.specs.Merged.{with_each}
use Rattle.aas_store.proofs.Ordered.{found_none, head_below, order, same_id, tail}
use Rattle.aas_store.proofs.PutOver.{shells_put, submodels_put, concepts_put}
use Rattle.aas_environment.specs.Environments.{environment_of}

-- ---- into one map

none_or : {X : Type 0} (o : Option X) → option_or o None ≡ o
none_or None = refl
none_or (Some x) = refl

module _ {D : Type 0} (id_of : D → Identifier) where
  -- the last of some documents that has an identifier
  last_of : Identifier → List D → Option D
  last_of q [] = None
  last_of q (d ∷ ds) = option_or (last_of q ds) (cond (eq_by_cmp order q (id_of d)) (Some d) None)

  get_put : (ds : List D) (m : Map D) (q : Identifier)
      → fin.get (with_each id_of m ds) q ≡ option_or (last_of q ds) (fin.get m q)
  unfolding last_of
  get_put [] m q = refl
  get_put (d ∷ ds) m q =
      get_put ds (fin.insert m (id_of d) d) q
      ∙ ap (option_or (last_of q ds)) (get-insert nat_list_cmp_total m (id_of d) d q)
      ∙ by (last_of q ds) (eq_by_cmp order q (id_of d))
    where
      by : (later : Option D) (b : Bool)
          → option_or later (cond b (Some d) (fin.get m q))
          ≡ option_or (option_or later (cond b (Some d) None)) (fin.get m q)
      by None true = refl
      by None false = refl
      by (Some x) b = refl

  put_twice : (ds : List D) (m : Map D) → with_each id_of (with_each id_of m ds) ds ≡ with_each id_of m ds
  put_twice ds m =
      same_map nat_list_cmp_total same_id (with_each id_of (with_each id_of m ds) ds) (with_each id_of m ds) (λ q.
      get_put ds (with_each id_of m ds) q ∙ ap (option_or (last_of q ds)) (get_put ds m q)
      ∙ again (last_of q ds) (fin.get m q) ∙ sym (get_put ds m q))
    where
      again : (later before : Option D) → option_or later (option_or later before) ≡ option_or later before
      again None before = refl
      again (Some d) before = refl

  -- each stands under its own identifier
  abbrev pub AreOwn : List (Identifier × D) → Type 0
  AreOwn es = (k : ℕ) (e : Identifier × D) → slice_get es k ≡ Some e → id_of e.1 ≡ e.0

  last_is_found : (es : List (Identifier × D)) → T (fin.is_sorted order es) → AreOwn es → (q : Identifier)
      → last_of q (map (λ e. e.1) es) ≡ fin.find order q es
  unfolding last_of
  last_is_found [] sorted own q = refl
  last_is_found (e ∷ es) sorted own q =
      ap₂ (λ later id. option_or later (cond (eq_by_cmp order q id) (Some e.1) None))
      (last_is_found es (tail e es sorted) (λ k f at. own (suc k) f at) q) (own zero e refl)
      ∙ by (order q e.0) refl
    where
      by : (r : Ordering) → order q e.0 ≡ r
          → option_or (fin.find order q es) (cond (is_eq r) (Some e.1) None)
          ≡ cond (is_eq r) (Some e.1) (fin.find order q es)
      by Less is = none_or (fin.find order q es)
      by Equal is = ap (λ o. option_or o (Some e.1)) (found_none es q (λ i f at.
          ap is_eq (ap (λ id. order id f.0) (same_id q e.0 is) ∙ head_below e f es i sorted at)))
      by Greater is = none_or (fin.find order q es)

  put_back : (m : Map D) → AreOwn (fin.entries m) → with_each id_of fin.empty (fin.values m) ≡ m
  put_back m own = same_map nat_list_cmp_total same_id (with_each id_of fin.empty (fin.values m)) m (λ q.
      get_put (fin.values m) fin.empty q
      ∙ ap₂ option_or (last_is_found (fin.entries m) (entries_sorted m) own q) (get-empty order q)
      ∙ none_or (fin.find order q (fin.entries m)) ∙ sym (get-entries m q))

-- ---- into all three

abbrev pub shell_id : Shell → Identifier
shell_id s = encode_utf8_all s.head.id

abbrev pub submodel_id : Submodel → Identifier
submodel_id s = encode_utf8_all s.head.id

abbrev pub concept_id : Concept → Identifier
concept_id c = encode_utf8_all c.head.id

-- map by map
each_put : Documents → Environment → Documents
each_put d e = record {
  shells = with_each shell_id d.shells e.shells;
  submodels = with_each submodel_id d.submodels e.submodels;
  concepts = with_each concept_id d.concepts e.concepts;
}

put_each : (d : Documents) (e : Environment) → with_documents d (documents_in e) ≡ each_put d e
unfolding each_put
put_each d e =
    with_all_documents d e
    ∙ ap (λ (d : Documents). fold with_concept (fold with_submodel d e.submodels) e.concepts) (shells_put d e.shells)
    ∙ ap (λ (d : Documents). fold with_concept d e.concepts)
    (submodels_put (record d { shells = with_each shell_id d.shells e.shells }) e.submodels)
    ∙ concepts_put (record d {
      shells = with_each shell_id d.shells e.shells;
      submodels = with_each submodel_id d.submodels e.submodels;
    })
    e.concepts

same_three : {a b : Map Shell} {c d : Map Submodel} {e f : Map Concept} → a ≡ b → c ≡ d → e ≡ f
    → ◌≡◌ {A = Documents} (record { shells = a; submodels = c; concepts = e })
    (record { shells = b; submodels = d; concepts = f })
same_three p q r = λ i. record { shells = p i; submodels = q i; concepts = r i }

-- putting in twice what is put in
pub all_twice : (d : Documents) (e : Environment)
    → with_documents (with_documents d (documents_in e)) (documents_in e) ≡ with_documents d (documents_in e)
unfolding each_put
all_twice d e =
    put_each (with_documents d (documents_in e)) e ∙ ap (λ (d : Documents). each_put d e) (put_each d e)
    ∙ same_three (put_twice shell_id e.shells d.shells)
    (put_twice submodel_id e.submodels d.submodels) (put_twice concept_id e.concepts d.concepts)
    ∙ sym (put_each d e)

-- putting in all documents of some maps where there are none
pub all_back : (d : Documents) → AreOwn shell_id (fin.entries d.shells)
    → AreOwn submodel_id (fin.entries d.submodels) → AreOwn concept_id (fin.entries d.concepts)
    → with_documents empty (documents_in (environment_of d)) ≡ d
unfolding each_put
all_back d shells submodels concepts =
    put_each empty (environment_of d)
    ∙ same_three (put_back shell_id d.shells shells)
    (put_back submodel_id d.submodels submodels) (put_back concept_id d.concepts concepts)
