-- What an edit of one table makes of the documents of a store.
use Rattle.std.proofs.Common.{◌≡◌, ℕ, Option, Some, None, option_map, IfSome, MatchOption, Result, Ok, Err, OnErr, OnOk, sym, ap, ap₂, ◌∙◌, subst}
use Rattle.std.specs.FinMap as fin
use Rattle.std.specs.Str.{encode_utf8_all}
use Rattle.std.specs.Option.{option_map_or}
use Rattle.aas_model.specs.declared.documents.Submodel.{Submodel}
use Rattle.aas_store.specs.DocumentStore.{documents, kept_all, with_table}
use Rattle.aas_store.specs.Documents.{Documents, Identifier, Map, empty, with_submodel}
use Rattle.aas_store.specs.Edited.{Holds, with_changed}
use Rattle.aas_store.specs.declared.document_store.DocumentStore.{DocumentStore}
use Rattle.aas_store.proofs.KeptAll.{empty_kept, get_kept, insert_kept}
use Rattle.aas_store.proofs.Shelves.{inserted_same}

module _ {T : Type 0} (kept : T → Submodel) (store : DocumentStore T) (id : Identifier) where
  -- the documents with the submodel of one table in their midst
  holding : Map Submodel → Documents
  holding m = record (documents kept store) { submodels = m }

  changed_found : (f : Submodel → Submodel) (o : Option Submodel) → Documents
  changed_found f o = option_map_or (λ s. holding (fin.insert (kept_all kept store.submodels) id (f s))) o (documents kept store)

  kept_there : (o : Option T) → fin.get store.submodels id ≡ o → fin.get (kept_all kept store.submodels) id ≡ option_map kept o
  kept_there o is = get_kept kept store.submodels id ∙ ap (option_map kept) is

  -- where there is no table, nothing changes
  pub nothing_changed : (f : Submodel → Submodel) → fin.get store.submodels id ≡ None → documents kept store ≡ with_changed (documents kept store) id f
  unfolding changed_found holding
  nothing_changed f none = sym (ap (changed_found f) (kept_there None none))

  module _ (t : T) (there : fin.get store.submodels id ≡ Some t) where
    pub of_table : (P : Submodel → Type 0) → Holds (documents kept store) id P → P (kept t)
    of_table P holds = subst (λ (o : Option Submodel). MatchOption o ⊥ P) (kept_there (Some t) there) holds

    pub of_table_if : (o : Option ℕ) (P : ℕ → Submodel → Type 0) → IfSome o (λ n. Holds (documents kept store) id (P n)) → IfSome o (λ n. P n (kept t))
    of_table_if None P holds = tt
    of_table_if (Some n) P holds = of_table (P n) holds

    pub changed : (new : T) (f : Submodel → Submodel) → kept new ≡ f (kept t) → documents kept (with_table store id new) ≡ with_changed (documents kept store) id f
    unfolding changed_found holding
    changed new f is =
        ap holding (insert_kept kept store.submodels id new ∙ ap (fin.insert (kept_all kept store.submodels) id) is)
        ∙ sym (ap (changed_found f) (kept_there (Some t) there))

    pub changed_if : {A B : Type 0} (r : Result A B) (new : T) (f : Submodel → Submodel) → OnOk r (kept new ≡ f (kept t)) → OnOk r (documents kept (with_table store id new) ≡ with_changed (documents kept store) id f)
    changed_if (Ok a) new f ok = changed new f ok
    changed_if (Err b) new f ok = tt

    pub unchanged_if : {A B : Type 0} (r : Result A B) (new : T) → OnErr r (kept new ≡ kept t) → OnErr r (documents kept (with_table store id new) ≡ documents kept store)
    unfolding holding
    unchanged_if (Ok a) new err = tt
    unchanged_if (Err b) new err =
        ap holding (
        insert_kept kept store.submodels id new ∙ ap (fin.insert (kept_all kept store.submodels) id) err
        ∙ inserted_same (kept_all kept store.submodels) id (kept t) (kept_there (Some t) there))

module _ {T : Type 0} (kept : T → Submodel) (store : DocumentStore T) where
  pub nothing_held : store.shells ≡ fin.empty → store.submodels ≡ fin.empty → store.concepts ≡ fin.empty → documents kept store ≡ empty
  nothing_held shells submodels concepts =
      let none = ap (kept_all kept) submodels ∙ empty_kept kept in
      λ i. record { shells = shells i; submodels = none i; concepts = concepts i }

  -- a table of s is put under the identifier of s
  pub put_if : {A B : Type 0} (r : Result A B) (new : Map T) (id : Identifier) (t : T) (s : Submodel) → kept t ≡ s → id ≡ encode_utf8_all s.head.id → OnOk r (new ≡ fin.insert store.submodels id t)
      → OnOk r (documents kept (record store { submodels = new }) ≡ with_submodel (documents kept store) s)
  put_if (Ok a) new id t s is named ok =
      let all = ap (kept_all kept) ok ∙ insert_kept kept store.submodels id t ∙ ap₂ (λ id s. fin.insert (kept_all kept store.submodels) id s) named is in
      λ i. record (documents kept store) { submodels = all i }
  put_if (Err b) new id t s is named ok = tt
