-- What an import comes to, by the causes that were tried.
use Rattle.std.proofs.Common.{◌≡◌, ◌+◌, ℕ, zero, suc, Bool, true, false, List, [], ◌∷◌, ◌++◌, arith, Option, Some, None}
use Rattle.std.proofs.Common.{refl, sym, ap, ap₂, ◌∙◌, subst}
use Rattle.std.specs.Prelude.{◌&&◌, ◌==◌, ◌≢◌, All, not, flat_map, is_some, map, option_map}
use Rattle.std.specs.BTreeMap.{is_at}
use Rattle.std.specs.BTreeSet.{BTreeSet, insert_key}
use Rattle.std.specs.Cmp.Lexicographic.{slice_cmp}
use Rattle.std.specs.List.{list_all, list_any}
use Rattle.std.specs.Ordering.{nat_cmp}
use Rattle.std.specs.Str.{IsUtf8, chars, encode_utf8_all}
use Rattle.std.specs.Option.{option_map_or, option_or}
use Rattle.std.proofs.lemmas.Bool.{and_parts}
use Rattle.std.proofs.lemmas.Grind.{flat_map-append}
use Rattle.std.proofs.lemmas.Str.{encodes-chars, encodes_same}
use denote.Ref.{Bor}
use Rattle.aas_command.specs.Refusals.{refusal_of_fault}
use Rattle.aas_command.specs.declared.command.Command.TheVariants.{Import}
use Rattle.aas_command.specs.declared.refusal.Refusal.{Refusal}
use Rattle.aas_command.specs.declared.refusal.Refusal.TheVariants.{Conflict, StorageFault, StorageFull, TooMany}
use Rattle.aas_constraint_parts.proofs.Sets.{again, one_more}
use Rattle.aas_constraint_parts.specs.Repeats.{HasTexts}
use Rattle.aas_constraint_rules.specs.Texts.{is_among}
use Rattle.aas_constraint_rules.specs.Faults.{Document, concept, faults_of, shell, submodel}
use Rattle.aas_json_mapping.specs.Whole.{is_whole_concept, is_whole_environment, is_whole_shell, is_whole_submodel}
use Rattle.aas_json_table.specs.TooDeep.{limits}
use Rattle.aas_model.specs.declared.documents.Environment.{Environment}
use Rattle.aas_model.specs.declared.documents.Submodel.{Submodel}
use Rattle.aas_model.specs.declared.path.Fault.{Fault}
use Rattle.aas_model_names.specs.declared.collection.Collection.{Collection}
use Rattle.aas_model_names.specs.declared.collection.Collection.TheVariants.{Shells, Submodels, Concepts}
use Rattle.aas_reference.specs.Rules.{first}
use Rattle.aas_step.proofs.Imported.{with_all_documents}
use Rattle.aas_step.specs.Causes.{Cause, document_causes, first_of, first_repeated, first_repeated_in, has_repeated}
use Rattle.aas_step.specs.Causes.{has_too_many, unless, when}
use Rattle.aas_step.specs.Laws.{ValidIsStorable}
use Rattle.aas_step.specs.Made.{documents_in, with_documents}
use Rattle.aas_step.specs.Step.{ComesBy, ComesTo, Result, accepted, later_causes, refused, result_of}
use Rattle.aas_step.proofs.Validity.{no_cause}
use Rattle.aas_store.specs.Documents.{Documents, with_all}
use Rattle.aas_store.specs.Storable.{IsStorable}
use Rattle.aas_repo_documents.specs.Decisions.{IsDecision}
use Rattle.aas_repo.specs.Faulty.{first_faulty_from, first_faulty_in, in_list, own_cause}
use Rattle.aas_repo_documents.proofs.Decided.{first_in, of_fault}
use Rattle.aas_repo_documents.specs.declared.decision.Decision.TheVariants as decision

-- ---- identifiers that were seen

text_of : (bytes text : List ℕ) → IsUtf8 bytes → bytes ≡ encode_utf8_all text → chars bytes ≡ text
text_of bytes text utf8 is = encodes_same (chars bytes) text (encodes-chars bytes utf8 ∙ is)

pub again_seen : (s : BTreeSet (Bor (List ℕ))) (k : Bor (List ℕ)) (is_new : Bool)
    → IsUtf8 k.now → is_new ≡ not (list_any (is_at (λ (y : Bor (List ℕ)). slice_cmp nat_cmp k.now y.now)) s.keys)
    → (text : List ℕ) (ids : List (List ℕ))
    → k.now ≡ encode_utf8_all text → HasTexts s ids → not is_new ≡ is_among text ids
again_seen s k is_new utf8 added text ids is has =
    again s k is_new utf8 added ids has ∙ ap (λ t. is_among t ids) (text_of k.now text utf8 is)

pub one_more_seen : (s n : BTreeSet (Bor (List ℕ))) (k : Bor (List ℕ))
    → IsUtf8 k.now → n.keys ≡ insert_key (λ (x y : Bor (List ℕ)). slice_cmp nat_cmp x.now y.now) s.keys k
    → (text : List ℕ) (ids : List (List ℕ))
    → k.now ≡ encode_utf8_all text → HasTexts s ids → HasTexts n (ids ++ text ∷ [])
one_more_seen s n k utf8 keys text ids is has =
    subst (λ t. HasTexts n (ids ++ t ∷ [])) (text_of k.now text utf8 is) (one_more s n k utf8 keys ids has)

-- ---- causes in turn

alone : (o : Cause) → first_of (o ∷ []) ≡ o
alone None = refl
alone (Some why) = refl

-- the first of all causes of some documents
abbrev pub cause_of : {D : Type 0} → (D → Document) → List D → Cause
cause_of wrap xs = first_of (flat_map document_causes (map wrap xs))

-- the first cause of each list of an environment, in turn
by_lists : (has_room : Bool) (e : Environment) → first_of (later_causes has_room (documents_in e)) ≡
    option_or
    (option_or (cause_of shell e.shells)
    (option_or (cause_of submodel e.submodels) (cause_of concept e.concepts)))
    (unless has_room StorageFull)
by_lists has_room e =
    let ss : List Document = map shell e.shells in
    let ms : List Document = map submodel e.submodels in
    let cs : List Document = map concept e.concepts in
    let both = ap first_of (flat_map-append document_causes ms cs)
    ∙ first_in (flat_map document_causes ms) (flat_map document_causes cs) in
    let all =
    ap first_of (flat_map-append document_causes ss (ms ++ cs))
    ∙ first_in (flat_map document_causes ss) (flat_map document_causes (ms ++ cs))
    ∙ ap (option_or (first_of (flat_map document_causes ss))) both in
    first_in (flat_map document_causes (ss ++ (ms ++ cs))) (unless has_room StorageFull ∷ [])
    ∙ ap (option_or (first_of (flat_map document_causes (ss ++ (ms ++ cs))))) (alone (unless has_room StorageFull))
    ∙ ap (λ o. option_or o (unless has_room StorageFull)) all

none_in : (o more : Cause) → None ≡ option_or o more → (o ≡ None) × (more ≡ None)
none_in None more e = (refl, sym e)
none_in (Some why) more e = absurd (cc)

-- ---- refusals

by_document : (faults : List Fault) (many : Bool) (more : List Cause) (refusal : Refusal)
    → (Some refusal ≡ first_of more → refusal ≢ StorageFault)
    → Some refusal ≡ first_of (option_map refusal_of_fault (first faults) ∷ when many TooMany ∷ more)
    → refusal ≢ StorageFault
by_document [] true more refusal rest e is = absurd (cc)
by_document [] false more refusal rest e is = rest e is
by_document (f ∷ fs) many more refusal rest e is = of_fault (f.number == 0) f refusal e is

no_storage_fault : (has_room : Bool) (new : List Document) (refusal : Refusal)
    → Some refusal ≡ first_of (later_causes has_room new) → refusal ≢ StorageFault
no_storage_fault true [] refusal e is = absurd (cc)
no_storage_fault false [] refusal e is = absurd (cc)
no_storage_fault has_room (x ∷ xs) refusal e is =
    by_document (faults_of x) (has_too_many x) (later_causes has_room xs) refusal
    (no_storage_fault has_room xs refusal) e is

-- ---- what it comes to

-- why the first faulty document isn't taken
why_from : (n : ℕ) (xs : List Document)
    → option_map (λ f. f.1) (first_faulty_from n xs) ≡ first_of (flat_map document_causes xs)
why_from n [] = refl
why_from n (x ∷ xs) =
    by (first_of (document_causes x)) (why_from (n + 1) xs)
    ∙ sym (first_in (document_causes x) (flat_map document_causes xs))
  where
    by : (o : Cause) → option_map (λ f. f.1) (first_faulty_from (n + 1) xs) ≡ first_of (flat_map document_causes xs)
        → option_map (λ f. f.1) (option_map_or (λ why. Some (n, why)) o (first_faulty_from (n + 1) xs))
        ≡ option_or o (first_of (flat_map document_causes xs))
    by None rest = rest
    by (Some why) rest = refl

abbrev why : Option (ℕ × Refusal) → Cause
why found = option_map (λ f. f.1) found

in_lists : (a b c : Option (ℕ × Refusal))
    → option_map (λ f. f.1) (option_or (in_list Shells a) (option_or (in_list Submodels b) (in_list Concepts c)))
    ≡ option_or (why a) (option_or (why b) (why c))
in_lists (Some f) b c = refl
in_lists None (Some f) c = refl
in_lists None None (Some f) = refl
in_lists None None None = refl

why_in : (e : Environment)
    → option_map (λ f. f.1) (first_faulty_in e)
    ≡ option_or (cause_of shell e.shells) (option_or (cause_of submodel e.submodels) (cause_of concept e.concepts))
why_in e =
    in_lists (first_faulty_from 0 (map shell e.shells))
    (first_faulty_from 0 (map submodel e.submodels)) (first_faulty_from 0 (map concept e.concepts))
    ∙ ap₂ option_or (why_from 0 (map shell e.shells))
    (ap₂ option_or (why_from 0 (map submodel e.submodels)) (why_from 0 (map concept e.concepts)))

-- of all documents that an environment makes
pub later_cause : (has_room : Bool) (e : Environment)
    → first_of (later_causes has_room (documents_in e))
    ≡ option_or (option_map (λ f. f.1) (first_faulty_in e)) (unless has_room StorageFull)
later_cause has_room e = by_lists has_room e ∙ ap (λ o. option_or o (unless has_room StorageFull)) (sym (why_in e))

-- the first place at which an identifier is repeated, list by list
pub places : (e : Environment) (a b c : Option ℕ)
    → a ≡ first_repeated (map (λ s. s.head.id) e.shells) → b ≡ first_repeated (map (λ s. s.head.id) e.submodels)
    → c ≡ first_repeated (map (λ c. c.head.id) e.concepts)
    → option_or (option_map (λ n. (Shells, n)) a)
    (option_or (option_map (λ n. (Submodels, n)) b) (option_map (λ n. (Concepts, n)) c))
    ≡ first_repeated_in e
places e a b c is_a is_b is_c =
    ap (λ o. option_or (option_map (λ n. (Shells, n)) o)
    (option_or (option_map (λ n. (Submodels, n)) b) (option_map (λ n. (Concepts, n)) c)))
    is_a
    ∙ ap (λ o. option_or (option_map (λ n. (Shells, n)) (first_repeated (map (λ s. s.head.id) e.shells)))
    (option_or (option_map (λ n. (Submodels, n)) o) (option_map (λ n. (Concepts, n)) c)))
    is_b
    ∙ ap (λ o. option_or (option_map (λ n. (Shells, n)) (first_repeated (map (λ s. s.head.id) e.shells)))
    (option_or (option_map (λ n. (Submodels, n)) (first_repeated (map (λ s. s.head.id) e.submodels)))
    (option_map (λ n. (Concepts, n)) o)))
    is_c

-- an environment's own cause, by what is found in it
pub own_is : (e : Environment) (repeated : Option (Collection × ℕ)) (faulty : Option ((Collection × ℕ) × Refusal))
    → first_repeated_in e ≡ repeated → first_faulty_in e ≡ faulty
    → own_cause e ≡ option_or (when (is_some repeated) Conflict) (option_map (λ f. f.1) faulty)
own_is e repeated faulty is_repeated is_faulty =
    ap₂ (λ (r : Option (Collection × ℕ)) (f : Option ((Collection × ℕ) × Refusal)).
    option_or (when (is_some r) Conflict) (option_map (λ f. f.1) f))
    is_repeated is_faulty

-- by its own cause, and else by the room
module _ (has_room : Bool) (d : Documents) (e : Environment) where
  abbrev came : Cause → Result
  came own = result_of (option_or own (unless has_room StorageFull)) (with_documents d (documents_in e))

  abbrev Comes : Bool → Result → Type 0
  Comes b result = ComesBy (first_of (when b Conflict ∷ [])) has_room d (Import e) result

  abbrev own_by : Bool → Cause
  own_by b = option_or (when b Conflict) (option_map (λ f. f.1) (first_faulty_in e))

  to_own : (b : Bool) → Comes b (came (own_by b))
  to_own true = refl
  to_own false = (
    documents_in e,
    refl,
    ap (λ (o : Cause). result_of o (with_documents d (documents_in e))) (sym (later_cause has_room e)),
  )

  pub comes : (own : Cause) → own_cause e ≡ own → ComesTo has_room d (Import e) (came own)
  unfolding ComesTo
  comes own is = subst (λ (o : Cause). Comes (has_repeated e) (came o)) is (to_own (has_repeated e))

  from_own : (b : Bool) (result : Result) → Comes b result → result ≡ came (own_by b)
  from_own true result is = is
  from_own false result is =
      is.2 ∙ ap (λ new. result_of (first_of (later_causes has_room new)) (with_documents d new)) is.1
      ∙ ap (λ (o : Cause). result_of o (with_documents d (documents_in e))) (later_cause has_room e)

  pub only_full : (refusal : Refusal) → own_cause e ≡ None → ComesTo has_room d (Import e) (refused refusal)
      → refusal ≡ StorageFull
  unfolding ComesTo
  only_full refusal none is = by has_room (from_own (has_repeated e) (refused refusal) is ∙ ap came none)
    where
      by : (b : Bool) → refused refusal ≡ result_of (unless b StorageFull) (with_documents d (documents_in e))
          → refusal ≡ StorageFull
      by true is = absurd (cc)
      by false is = cc

  no_fault : (b : Bool) (refusal : Refusal) → own_by b ≡ Some refusal → refusal ≢ StorageFault
  no_fault true refusal is = λ fault. absurd (cc)
  no_fault false refusal is =
      no_storage_fault has_room (documents_in e) refusal
      (sym (later_cause has_room e ∙ ap (λ o. option_or o (unless has_room StorageFull)) is))

  pub refuses : (new : Documents) (refusal : Refusal) → Some refusal ≡ own_cause e → new ≡ d
      → IsDecision has_room d (Import e) new (decision.Refused refusal)
  refuses new refusal why same =
      (same, no_fault (has_repeated e) refusal (sym why), comes (Some refusal) (sym why))

pub imports : (d new : Documents) (e : Environment) → own_cause e ≡ None → new ≡ with_all d e
    → IsDecision true d (Import e) new decision.Made
imports d new e none same = (
  refl,
  subst (λ (n : Documents). ComesTo true d (Import e) (accepted n))
      (with_all_documents d e ∙ sym same) (comes true d e None none),
)

-- ---- submodels that a store takes

all_of : {X : Type 0} (P : X → Type 0) (x : X) (xs : List X) → P x → All P xs → All P (x ∷ xs)
all_of P x xs here rest zero d lt = here
all_of P x xs here rest (suc k) d lt = rest k d (omega (arith, lt))

all_storable : (ss : List Submodel) → ValidIsStorable → list_all (is_whole_submodel limits) ss ≡ true
    → first_of (flat_map document_causes (map submodel ss)) ≡ None → All IsStorable ss
all_storable [] law whole none = λ k d lt. absurd (omega (arith, lt))
all_storable (s ∷ ss) law whole none =
    let wholes = and_parts (is_whole_submodel limits s) (list_all (is_whole_submodel limits) ss) whole in
    let nones =
    none_in (first_of (document_causes (submodel s))) (first_of (flat_map document_causes (map submodel ss)))
    (sym none ∙ first_in (document_causes (submodel s)) (flat_map document_causes (map submodel ss))) in
    let own = no_cause (faults_of (submodel s)) (has_too_many (submodel s)) nones.0 in
    all_of IsStorable s ss (law s (record { whole = wholes.0; faultless = own.0 }) own.1)
    (all_storable ss law wholes.1 nones.1)

pub storable : (e : Environment) → ValidIsStorable → is_whole_environment limits e ≡ true
    → own_cause e ≡ None → All IsStorable e.submodels
storable e law whole none =
    let faultless = none_in (when (has_repeated e) Conflict) _ (sym none) in
    let behind = none_in (cause_of shell e.shells) _ (sym faultless.1 ∙ why_in e) in
    let own = none_in (cause_of submodel e.submodels) _ (sym behind.1) in
    let front = and_parts (list_all (is_whole_shell limits) e.shells && list_all (is_whole_submodel limits) e.submodels)
    (list_all (is_whole_concept limits) e.concepts) whole in
    all_storable e.submodels law
    (and_parts (list_all (is_whole_shell limits) e.shells) (list_all (is_whole_submodel limits) e.submodels) front.0).1
    own.0
