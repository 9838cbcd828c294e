-- What importing comes to that is done again, and of what was exported.
use Rattle.std.proofs.Common.{◌≡◌, ℕ, zero, suc, Bool, true, false, cond, T, List, [], ◌∷◌, ◌++◌, length, map}
use Rattle.std.proofs.Common.{slice_get, Option, Some, None, refl, sym, ap, ap₂, ◌∙◌, subst}
use Rattle.std.specs.Prelude.{◌↔◌, bytes_eq, flat_map, is_some, option_map, ◌||◌}
use Rattle.std.specs.FinMap as fin
use Rattle.std.specs.FinMap.{entries_sorted, get-entries}
use Rattle.std.specs.Option.{option_or}
use Rattle.std.specs.Str.{encode_utf8_all}
use Rattle.std.specs.declared.cmp.Ordering.TheVariants.{Less, Equal}
use Rattle.std.proofs.lemmas.Cmp.{nat_list_cmp_total, tied_itself}
use Rattle.std.proofs.lemmas.List.{append-nil}
use Rattle.std.proofs.lemmas.List.Folds.{list_any-append}
use Rattle.std.proofs.lemmas.Slice.Eq.{bytes_eq-Decides}
use Rattle.aas_command.specs.Refusals.{refusal_of_fault}
use Rattle.aas_command.specs.declared.command.Command.TheVariants.{Import}
use Rattle.aas_command.specs.declared.refusal.Refusal.TheVariants.{Conflict, StorageFull, TooMany}
use Rattle.aas_constraint_rules.specs.Faults.{Document, concept, faults_of, shell, submodel}
use Rattle.aas_constraint_rules.specs.Texts.{is_among}
use Rattle.aas_model.specs.declared.path.Fault.{Fault}
use Rattle.aas_model_names.specs.declared.collection.Collection.{Collection}
use Rattle.aas_model_names.specs.declared.collection.Collection.TheVariants.{Concepts, Shells, Submodels}
use Rattle.aas_reference.specs.Rules.{first}
use Rattle.aas_step.specs.Causes.{Cause, causes, document_causes, first_of, first_repeated, first_repeated_after}
use Rattle.aas_step.specs.Causes.{has_too_many, unless, when}
use Rattle.aas_step.specs.Made.{documents_in, with_documents}
use Rattle.aas_step.specs.Step.{ComesBy, ComesTo, Result, accepted, later_causes, result_of}
use Rattle.aas_step.specs.Valid.{AreValid, IsValidAt}
use Rattle.aas_store.proofs.Ordered.{found_at, head_below, order, tail}
use Rattle.aas_store.specs.Documents.{Documents, Identifier, Map, empty}
use Rattle.aas_environment.specs.Environments.{environment_of}
use Rattle.aas_environment.specs.Laws.{ExportsComeBack, TwiceIsOnce, put_in}
use Rattle.aas_environment.proofs.Put.{AreOwn, all_back, all_twice, concept_id, shell_id, submodel_id}

-- ---- identifiers that rise

module _ {X : Type 0} (name : X → List ℕ) where
  abbrev own_id : X → Identifier
  own_id x = encode_utf8_all (name x)

  -- what stands before is below all that follows
  AreBelow : List (List ℕ) → List (Identifier × X) → Type 0
  AreBelow before es = (id : List ℕ) → is_among id before ≡ true → (k : ℕ) (e : Identifier × X)
      → slice_get es k ≡ Some e → order (encode_utf8_all id) e.0 ≡ Less

  none_among : (before : List (List ℕ)) (e : Identifier × X) (es : List (Identifier × X))
      → AreBelow before (e ∷ es) → own_id e.1 ≡ e.0 → is_among (name e.1) before ≡ false
  unfolding AreBelow
  none_among before e es below own = by (is_among (name e.1) before) refl
    where
      by : (b : Bool) → is_among (name e.1) before ≡ b → b ≡ false
      by false is = refl
      by true is =
          let lower : Less ≡ Equal = sym (ap (λ id. order id e.0) (sym own) ∙ below (name e.1) is zero e refl)
          ∙ tied_itself nat_list_cmp_total e.0 in
          absurd (cc)

  one_more_below : (before : List (List ℕ)) (e : Identifier × X) (es : List (Identifier × X))
      → T (fin.is_sorted order (e ∷ es)) → AreBelow before (e ∷ es) → own_id e.1 ≡ e.0
      → AreBelow (before ++ name e.1 ∷ []) es
  unfolding AreBelow
  one_more_below before e es sorted below own id among k f at =
      by (is_among id before) refl (sym (list_any-append (bytes_eq id) before (name e.1 ∷ [])) ∙ among)
    where
      last : (b : Bool) → bytes_eq id (name e.1) ≡ b → (b || false) ≡ true → order (encode_utf8_all id) f.0 ≡ Less
      last true is e_true =
          ap (λ id. order (encode_utf8_all id) f.0) ((bytes_eq-Decides id (name e.1)).0 is)
          ∙ ap (λ id. order id f.0) own ∙ head_below e f es k sorted at
      last false is e_true = absurd (cc)

      by : (b : Bool) → is_among id before ≡ b → (b || (bytes_eq id (name e.1) || false)) ≡ true
          → order (encode_utf8_all id) f.0 ≡ Less
      by true is e_true = below id is (suc k) f at
      by false is e_true = last (bytes_eq id (name e.1)) refl e_true

  none_repeated : (before : List (List ℕ)) (es : List (Identifier × X))
      → T (fin.is_sorted order es) → AreOwn own_id es → AreBelow before es
      → first_repeated_after before (map name (map (λ e. e.1) es)) ≡ None
  unfolding AreBelow
  none_repeated before [] sorted own below = refl
  none_repeated before (e ∷ es) sorted own below =
      ap (λ b.
      cond b (Some (length before)) (first_repeated_after (before ++ name e.1 ∷ []) (map name (map (λ e. e.1) es))))
      (none_among before e es below (own zero e refl))
      ∙ none_repeated (before ++ name e.1 ∷ []) es (tail e es sorted)
      (λ k f at. own (suc k) f at) (one_more_below before e es sorted below (own zero e refl))

  none_twice : (m : Map X) → AreOwn own_id (fin.entries m) → first_repeated (map name (fin.values m)) ≡ None
  unfolding AreBelow
  none_twice m own = none_repeated [] (fin.entries m) (entries_sorted m) own (λ id among k e at. absurd (cc))

-- ---- valid documents

module _ {X : Type 0} (wrap : X → Document) where
  abbrev AllAt : Map X → Type 0
  AllAt m = (id : Identifier) (x : X) → fin.get m id ≡ Some x → IsValidAt id (wrap x)

  at_place : (m : Map X) → AllAt m → (k : ℕ) (e : Identifier × X)
      → slice_get (fin.entries m) k ≡ Some e → IsValidAt e.0 (wrap e.1)
  at_place m valid k e at = valid e.0 e.1 (get-entries m e.0 ∙ found_at (fin.entries m) k e.0 e.1 (entries_sorted m) at)

  no_causes : (x : Document) (more : List Cause)
      → faults_of x ≡ [] → has_too_many x ≡ false → first_of (document_causes x ++ more) ≡ first_of more
  no_causes x more faultless few =
      ap₂ (λ (fs : List Fault) many. first_of (option_map refusal_of_fault (first fs) ∷ when many TooMany ∷ more))
      faultless few

  none_faulty : (es : List (Identifier × X)) (more : List Document) (last : List Cause)
      → ((k : ℕ) (e : Identifier × X) → slice_get es k ≡ Some e → IsValidAt e.0 (wrap e.1))
      → first_of (flat_map document_causes (map wrap (map (λ e. e.1) es) ++ more) ++ last)
      ≡ first_of (flat_map document_causes more ++ last)
  none_faulty [] more last valid = refl
  none_faulty (e ∷ es) more last valid =
      let here = valid zero e refl in
      no_causes (wrap e.1) (flat_map document_causes (map wrap (map (λ (e : Identifier × X). e.1) es) ++ more) ++ last)
      here.valid.faultless here.few
      ∙ none_faulty es more last (λ k f at. valid (suc k) f at)

-- ---- the laws

abbrev at : Collection → Option ℕ → Option (Collection × ℕ)
at c place = option_map (λ place. (c, place)) place

abbrev cause_by : Option ℕ → Option ℕ → Option ℕ → Cause
cause_by a b c =
    first_of (when (is_some (option_or (at Shells a) (option_or (at Submodels b) (at Concepts c)))) Conflict ∷ [])

uncaused : (a b c : Option ℕ) → a ≡ None → b ≡ None → c ≡ None → cause_by a b c ≡ None
uncaused a b c p q r = ap (λ o. cause_by o b c) p ∙ ap (λ o. cause_by None o c) q ∙ ap (cause_by None None) r

-- of valid documents, where there are none before
pub comes_by : (has_room : Bool) (d : Documents) → AreValid d → (result : Result)
    → ComesTo has_room empty (Import (environment_of d)) result ↔ (result ≡ put_in has_room d)
unfolding ComesTo
comes_by has_room d valid result =
    subst (λ o. ComesBy o has_room empty (Import (environment_of d)) result ↔ (result ≡ put_in has_room d))
    (sym first_none) (comes_to, comes_from)
  where
    shells : AreOwn shell_id (fin.entries d.shells)
    shells k e at = (at_place shell d.shells valid.shells k e at).own

    submodels : AreOwn submodel_id (fin.entries d.submodels)
    submodels k e at = (at_place submodel d.submodels valid.submodels k e at).own

    concepts : AreOwn concept_id (fin.entries d.concepts)
    concepts k e at = (at_place concept d.concepts valid.concepts k e at).own

    first_none : first_of (causes empty (Import (environment_of d))) ≡ None
    first_none =
        uncaused _ _ _ (none_twice (λ s. s.head.id) d.shells shells)
        (none_twice (λ s. s.head.id) d.submodels submodels) (none_twice (λ c. c.head.id) d.concepts concepts)

    later : first_of (later_causes has_room (documents_in (environment_of d)))
        ≡ first_of (unless has_room StorageFull ∷ [])
    later =
        let last = unless has_room StorageFull ∷ [] in
        let those = map concept (fin.values d.concepts) in
        none_faulty shell (fin.entries d.shells)
        (map submodel (fin.values d.submodels) ++ those) last (at_place shell d.shells valid.shells)
        ∙ none_faulty submodel (fin.entries d.submodels) those last (at_place submodel d.submodels valid.submodels)
        ∙ ap (λ xs. first_of (flat_map document_causes xs ++ last)) (sym (append-nil those))
        ∙ none_faulty concept (fin.entries d.concepts) [] last (at_place concept d.concepts valid.concepts)

    by_room : (b : Bool) → result_of (first_of (unless b StorageFull ∷ [])) d ≡ put_in b d
    by_room true = refl
    by_room false = refl

    is_put : (new : List Document) → new ≡ documents_in (environment_of d)
        → result_of (first_of (later_causes has_room new)) (with_documents empty new) ≡ put_in has_room d
    is_put new made =
        ap (λ (new : List Document). result_of (first_of (later_causes has_room new)) (with_documents empty new)) made
        ∙ ap₂ result_of later (all_back d shells submodels concepts) ∙ by_room has_room

    comes_to : ComesBy None has_room empty (Import (environment_of d)) result → result ≡ put_in has_room d
    comes_to (new, made, is) = is ∙ is_put new made

    comes_from : result ≡ put_in has_room d → ComesBy None has_room empty (Import (environment_of d)) result
    comes_from is = (documents_in (environment_of d), refl, is ∙ sym (is_put (documents_in (environment_of d)) refl))

pub comes_back : ExportsComeBack
comes_back d valid = (comes_by true d valid (accepted d)).1 refl

pub twice_is_once : TwiceIsOnce
unfolding ComesTo
twice_is_once d once e first = by (first_of (causes d (Import e))) first
  where
    later : (o : Cause) (new : List Document) → new ≡ documents_in e
        → accepted once ≡ result_of o (with_documents d new) → accepted once ≡ result_of o (with_documents once new)
    later (Some why) new made is = absurd (cc)
    later None new made is =
        let so : once ≡ with_documents d new = cc in
        let whole : once ≡ with_documents d (documents_in e) = so ∙ ap (with_documents d) made in
        ap accepted (whole ∙ sym (all_twice d e)
        ∙ ap (λ (d : Documents). with_documents d (documents_in e)) (sym whole) ∙ ap (with_documents once) (sym made))

    by : (o : Cause) → ComesBy o true d (Import e) (accepted once) → ComesBy o true once (Import e) (accepted once)
    by (Some why) is = is
    by None comes = (comes.0, comes.1, later (first_of (later_causes true comes.0)) comes.0 comes.1 comes.2)
