-- What a command that is accepted makes of valid documents is valid.
use Rattle.std.proofs.Common.{◌≡◌, Bool, true, false, cond, List, [], ◌∷◌, ◌++◌, Option, Some, None, refl, sym, ap, ◌∙◌}
use Rattle.std.proofs.Common.{subst, Ordering, Less, Equal, Greater}
use Rattle.std.specs.Prelude.{ℕ, ◌&&◌, filter, flat_map, length, map as each, not, option_map}
use Rattle.std.specs.FinMap as map
use Rattle.std.specs.FinMap.{get-empty, get-insert, get-remove, slice_cmp-IsAntisymmetric, nat_cmp-IsAntisymmetric}
use Rattle.std.specs.List.{AllByRecursion, list_all}
use Rattle.std.specs.Option.{option_map_or}
use Rattle.std.specs.Ordering.{nat_cmp, is_eq}
use Rattle.std.specs.Cmp.Lexicographic.{slice_cmp, nat_list_cmp_total}
use Rattle.std.specs.Str.{encode_utf8_all}
use Rattle.std.proofs.lemmas.Bool.{and_from, and_parts}
use Rattle.std.proofs.lemmas.List.{append-nil}
use Rattle.std.proofs.lemmas.List.Elements.{All-filter}
use Rattle.std.proofs.lemmas.List.Folds.{list_all-append}
use Rattle.std.proofs.lemmas.List.Sums.{AllPass-from_list_all, list_all-from_AllPass}
use Rattle.aas_json_table.specs.TooDeep.{limits}
use Rattle.aas_reference.specs.Rules.{first}
use Rattle.aas_reference.specs.Whole.{is_whole, whole_if_there}
use Rattle.aas_json_mapping.specs.Whole.{is_whole_concept, is_whole_element, is_whole_environment, is_whole_shell}
use Rattle.aas_json_mapping.specs.Whole.{is_whole_submodel, whole_asset_information, whole_head}
use Rattle.aas_model.specs.declared.asset.AssetInformation.{AssetInformation}
use Rattle.aas_model.specs.declared.documents.Environment.{Environment}
use Rattle.aas_model.specs.declared.documents.Shell.{Shell}
use Rattle.aas_model.specs.declared.documents.Submodel.{Submodel}
use Rattle.aas_model.specs.declared.element.Element.{Element}
use Rattle.aas_model.specs.declared.path.Fault.{Fault}
use Rattle.aas_model.specs.declared.path.PathStep.{PathStep}
use Rattle.aas_model.specs.declared.reference.Reference.{Reference}
use Rattle.aas_path_trees.specs.Children.{role_of, with_role}
use Rattle.aas_path_trees.specs.Edits.{fits_role, inserted, removed, replaced}
use Rattle.aas_path_trees.specs.ElementAt.{element_at}
use Rattle.aas_path_trees.specs.WithElement.{with_element}
use Rattle.aas_edit_laws.specs.Laws.{at_level}
use Rattle.aas_edit_laws.proofs.Edits.{insert_keeps_whole, remove_keeps_whole, replace_keeps_whole}
use Rattle.aas_model_names.specs.declared.collection.Collection.TheVariants.{Submodels}
use Rattle.aas_constraint_laws.specs.Valid as valid
use Rattle.aas_constraint_rules.specs.Faults.{Document, shell, submodel, concept, faults_of}
use Rattle.aas_command.specs.Commands.{IsWellFormed}
use Rattle.aas_command.specs.Refusals.{refusal_of_fault}
use Rattle.aas_command.specs.declared.command.Command.{Command}
use Rattle.aas_command.specs.declared.command.Command.TheVariants.{CreateShell, CreateSubmodel, CreateConcept}
use Rattle.aas_command.specs.declared.command.Command.TheVariants.{ReplaceShell, ReplaceSubmodel, ReplaceConcept}
use Rattle.aas_command.specs.declared.command.Command.TheVariants.{DeleteShell, DeleteSubmodel, DeleteConcept, SetAsset}
use Rattle.aas_command.specs.declared.command.Command.TheVariants.{AddReference, DropReference, InsertElement}
use Rattle.aas_command.specs.declared.command.Command.TheVariants.{ReplaceElement, DeleteElement, UpdateValue, Import}
use Rattle.aas_command.specs.declared.refusal.Refusal.TheVariants.{NotAContainer, TooMany}
use Rattle.aas_command.specs.declared.refusal.Refusal.{Refusal}
use Rattle.aas_value_update.proofs.WholeSubmodel.{update_stays_whole}
use Rattle.aas_store.specs.Documents.{Documents, Identifier, Map, empty}
use Rattle.aas_step.specs.Causes.{Cause, causes, document_causes, first_of, has_too_many, is_absent, is_lost, refers_to}
use Rattle.aas_step.specs.Causes.{replace_causes, unless, when}
use Rattle.aas_step.specs.Laws.{StaysValid}
use Rattle.aas_step.specs.Made.{IsMade, documents_in, id_of, left, with_document, with_documents}
use Rattle.aas_step.specs.Made.{with_reference, without_references}
use Rattle.aas_step.specs.Step.{accepted, result_of, later_causes, ComesBy, ComesTo}
use Rattle.aas_step.specs.Valid.{AreValid, IsValidAt}

-- ---- causes

none_in_first : (os more : List Cause) → first_of (os ++ more) ≡ None → first_of os ≡ None
none_in_first [] more e = refl
none_in_first (None ∷ os) more e = none_in_first os more e
none_in_first (Some why ∷ os) more e = absurd (cc)

none_in_second : (os more : List Cause) → first_of (os ++ more) ≡ None → first_of more ≡ None
none_in_second [] more e = e
none_in_second (None ∷ os) more e = none_in_second os more e
none_in_second (Some why ∷ os) more e = absurd (cc)

pub no_cause : (faults : List Fault) (many : Bool)
    → first_of (option_map refusal_of_fault (first faults) ∷ when many TooMany ∷ []) ≡ None
    → (faults ≡ []) × (many ≡ false)
no_cause [] true e = absurd (cc)
no_cause [] false e = (refl, refl)
no_cause (f ∷ fs) many e = absurd (cc)

-- ---- maps

same_key : (o : Ordering) → is_eq o ≡ true → o ≡ Equal
same_key Less e = absurd (cc)
same_key Equal e = refl
same_key Greater e = absurd (cc)

-- each document of a map is valid
abbrev AllAt : {X : Type 0} → (X → Document) → Map X → Type 0
AllAt {X = X} wrap m = (id : Identifier) (x : X) → map.get m id ≡ Some x → IsValidAt id (wrap x)

all_put : {X : Type 0} (wrap : X → Document) (m : Map X) (own : Identifier) (x : X)
    → AllAt wrap m → IsValidAt own (wrap x) → AllAt wrap (map.insert m own x)
all_put {X = X} wrap m own x all at id y there =
    by_key (is_eq (slice_cmp nat_cmp id own)) refl (sym (get-insert nat_list_cmp_total m own x id) ∙ there)
  where
    by_key : (b : Bool)
        → is_eq (slice_cmp nat_cmp id own) ≡ b → cond b (Some x) (map.get m id) ≡ Some y → IsValidAt id (wrap y)
    by_key true is e =
        let key : id ≡ own =
        slice_cmp-IsAntisymmetric nat_cmp-IsAntisymmetric id own (same_key (slice_cmp nat_cmp id own) is) in
        let same : x ≡ y = cc in
        subst (λ (k : Identifier). IsValidAt k (wrap y)) (sym key) (subst (λ (z : X). IsValidAt own (wrap z)) same at)
    by_key false is e = all id y e

all_left : {X : Type 0} (wrap : X → Document) (m : Map X) (gone : Identifier)
    → AllAt wrap m → AllAt wrap (map.remove m gone)
all_left {X = X} wrap m gone all id y there =
    by_key (is_eq (slice_cmp nat_cmp id gone)) (sym (get-remove nat_list_cmp_total m gone id) ∙ there)
  where
    by_key : (b : Bool) → cond b None (map.get m id) ≡ Some y → IsValidAt id (wrap y)
    by_key true e = absurd (cc)
    by_key false e = all id y e

none_at : {X : Type 0} (wrap : X → Document) → AllAt wrap map.empty
none_at {X = X} wrap id x there =
    let none : None ≡ Some x = sym (get-empty (slice_cmp nat_cmp) id) ∙ there in absurd (cc)

-- ---- documents

pub empty_valid : AreValid empty
empty_valid = record { shells = none_at shell; submodels = none_at submodel; concepts = none_at concept }

put_valid : (d : Documents) (x : Document)
    → AreValid d → IsValidAt (encode_utf8_all (id_of x)) x → AreValid (with_document d x)
put_valid d (shell s) all at = record {
  shells = all_put shell d.shells (encode_utf8_all s.head.id) s all.shells at;
  submodels = all.submodels;
  concepts = all.concepts;
}
put_valid d (submodel s) all at = record {
  shells = all.shells;
  submodels = all_put submodel d.submodels (encode_utf8_all s.head.id) s all.submodels at;
  concepts = all.concepts;
}
put_valid d (concept c) all at = record {
  shells = all.shells;
  submodels = all.submodels;
  concepts = all_put concept d.concepts (encode_utf8_all c.head.id) c all.concepts at;
}

abbrev IsWhole : Document → Type 0
IsWhole x = valid.is_whole x ≡ true

puts_valid : (new : List Document) (d : Documents) → AreValid d → AllByRecursion IsWhole new
    → first_of (flat_map document_causes new) ≡ None → AreValid (with_documents d new)
puts_valid [] d all whole e = all
puts_valid (x ∷ xs) d all whole e =
    let clear =
    no_cause (faults_of x) (has_too_many x) (none_in_first (document_causes x) (flat_map document_causes xs) e) in
    let at : IsValidAt (encode_utf8_all (id_of x)) x =
    record { own = refl; valid = record { whole = whole.0; faultless = clear.0 }; few = clear.1 } in
    puts_valid xs (with_document d x) (put_valid d x all at) whole.1
    (none_in_second (document_causes x) (flat_map document_causes xs) e)

left_valid : (d : Documents) (c : Command) → AreValid d → AreValid (left d c)
left_valid d (DeleteShell id) all = record {
  shells = all_left shell d.shells (encode_utf8_all id) all.shells;
  submodels = all.submodels;
  concepts = all.concepts;
}
left_valid d (DeleteSubmodel id) all = record {
  shells = all.shells;
  submodels = all_left submodel d.submodels (encode_utf8_all id) all.submodels;
  concepts = all.concepts;
}
left_valid d (DeleteConcept id) all = record {
  shells = all.shells;
  submodels = all.submodels;
  concepts = all_left concept d.concepts (encode_utf8_all id) all.concepts;
}
left_valid d c all = all

-- ---- what is made is whole

-- a whole shell with other whole asset information
pub whole_with_asset : (s : Shell) (a : AssetInformation) → is_whole_shell limits s ≡ true
    → whole_asset_information limits a ≡ true → is_whole_shell limits (record s { asset = a }) ≡ true
whole_with_asset s a whole new =
    let head : Bool = whole_head limits s.head && whole_if_there limits s.derived_from in
    let behind : Bool = list_all (is_whole limits) s.submodels in
    let old = (and_parts head (whole_asset_information limits s.asset)
    (and_parts (head && whole_asset_information limits s.asset) behind whole).0).1 in
    ap (λ b. head && b && behind) (new ∙ sym old) ∙ whole

-- one with other references, which are whole where its own are
with_others : (s : Shell) (others : List Reference) → is_whole_shell limits s ≡ true
    → (list_all (is_whole limits) s.submodels ≡ true → list_all (is_whole limits) others ≡ true)
    → is_whole_shell limits (record s { submodels = others }) ≡ true
with_others s others whole keeps =
    let own : Bool =
    whole_head limits s.head && whole_if_there limits s.derived_from && whole_asset_information limits s.asset in
    let parts = and_parts own (list_all (is_whole limits) s.submodels) whole in
    and_from own (list_all (is_whole limits) others) parts.0 (keeps parts.1)

-- a whole shell with a whole reference more
pub whole_with_reference : (r : Reference) (s : Shell) → is_whole limits r ≡ true → is_whole_shell limits s ≡ true
    → is_whole_shell limits (with_reference r s) ≡ true
whole_with_reference r s new whole = with_others s (s.submodels ++ r ∷ []) whole
    (λ own. list_all-append (is_whole limits) s.submodels (r ∷ [])
    ∙ and_from (list_all (is_whole limits) s.submodels) (is_whole limits r && true) own
    (and_from (is_whole limits r) true new refl))

-- a whole shell with fewer references
pub whole_without_references : (id : List ℕ) (s : Shell) → is_whole_shell limits s ≡ true
    → is_whole_shell limits (without_references id s) ≡ true
whole_without_references id s whole =
    let stays : Reference → Bool = λ r. not (refers_to id r) in
    with_others s (filter stays s.submodels) whole
    (λ own. list_all-from_AllPass (is_whole limits) (filter stays s.submodels)
    (All-filter stays (λ r. is_whole limits r ≡ true) s.submodels
    (AllPass-from_list_all (is_whole limits) s.submodels own)))

changed_whole : (d : Documents) (id : Identifier) (change : Shell → Shell) (found : Option Shell)
    → AreValid d → map.get d.shells id ≡ found
    → ((s : Shell) → is_whole_shell limits s ≡ true → is_whole_shell limits (change s) ≡ true)
    → AllByRecursion IsWhole (option_map_or (λ s. shell (change s) ∷ []) found [])
changed_whole d id change None all is keeps = tt
changed_whole d id change (Some s) all is keeps = (keeps s (all.shells id s is).valid.whole, tt)

-- ---- edits of a submodel

edited_whole : (d : Documents) (id : Identifier) (change : Submodel → Submodel) (found : Option Submodel)
    → AreValid d → map.get d.submodels id ≡ found
    → ((s : Submodel) → found ≡ Some s → is_whole_submodel limits s ≡ true → is_whole_submodel limits (change s) ≡ true)
    → AllByRecursion IsWhole (option_map_or (λ s. submodel (change s) ∷ []) found [])
edited_whole d id change None all is keeps = tt
edited_whole d id change (Some s) all is keeps = (keeps s refl (all.submodels id s is).valid.whole, tt)

-- no cause in the submodel, where there is none at all
none_in : (absent : Cause) (causes_in : Submodel → List Cause) (s : Submodel) (found : Option Submodel) → found ≡ Some s
    → first_of (absent ∷ option_map_or causes_in found []) ≡ None → first_of (causes_in s) ≡ None
none_in absent causes_in s found is none =
    subst (λ (f : Option Submodel). first_of (option_map_or causes_in f []) ≡ None) is
    (none_in_second (absent ∷ []) (option_map_or causes_in found []) none)

clears : (b : Bool) (why : Refusal) → first_of (unless b why ∷ []) ≡ None → b ≡ true
clears true why none = refl
clears false why none = absurd (cc)

pub replaced_whole : (s : Submodel) (p : List PathStep) (e : Element) (found : Option Element) → element_at s p ≡ found
    → first_of (replace_causes p e s) ≡ None → is_whole_submodel limits s ≡ true
    → is_whole_element (at_level (length p)) e ≡ true
    → is_whole_submodel limits (replaced s p e) ≡ true
replaced_whole s p e None is none whole new =
    subst (λ (d : Submodel). is_whole_submodel limits d ≡ true)
    (sym (ap (λ (f : Option Element). option_map_or (λ o. with_element s p (with_role e (role_of o))) f s) is)) whole
replaced_whole s p e (Some o) is none whole new =
    let fits = clears (option_map_or (λ o. fits_role e (role_of o)) (element_at s p) false) NotAContainer
    (none_in_second (is_lost s p ∷ []) _ none) in
    replace_keeps_whole s p e o whole new is
    (sym (ap (λ (f : Option Element). option_map_or (λ o. fits_role e (role_of o)) f false) is) ∙ fits)

-- ---- documents of an environment

each_whole : {X : Type 0} (wrap : X → Document) (xs : List X) (more : List Document)
    → list_all (λ x. valid.is_whole (wrap x)) xs ≡ true → AllByRecursion IsWhole more
    → AllByRecursion IsWhole (each wrap xs ++ more)
each_whole wrap [] more all rest = rest
each_whole wrap (x ∷ xs) more all rest =
    let p = and_parts (valid.is_whole (wrap x)) (list_all (λ x. valid.is_whole (wrap x)) xs) all in
    (p.0, each_whole wrap xs more p.1 rest)

documents_whole : (e : Environment) → is_whole_environment limits e ≡ true → AllByRecursion IsWhole (documents_in e)
documents_whole e whole =
    let behind =
    and_parts (list_all (is_whole_shell limits) e.shells && list_all (is_whole_submodel limits) e.submodels)
    (list_all (is_whole_concept limits) e.concepts) whole in
    let front =
    and_parts (list_all (is_whole_shell limits) e.shells) (list_all (is_whole_submodel limits) e.submodels) behind.0 in
    each_whole shell e.shells (each submodel e.submodels ++ each concept e.concepts) front.0
    (each_whole submodel e.submodels (each concept e.concepts) front.1
    (subst (AllByRecursion IsWhole) (append-nil (each concept e.concepts))
    (each_whole concept e.concepts [] behind.1 tt)))

-- ---- the new documents

new_whole : (d : Documents) (c : Command) (new : List Document)
    → IsWellFormed c → AreValid d → first_of (causes d c) ≡ None → IsMade d c new → AllByRecursion IsWhole new
unfolding IsWellFormed
new_whole d (CreateShell s) new whole all none made = subst (AllByRecursion IsWhole) (sym made) (whole, tt)
new_whole d (CreateSubmodel s) new whole all none made = subst (AllByRecursion IsWhole) (sym made) (whole, tt)
new_whole d (CreateConcept c) new whole all none made = subst (AllByRecursion IsWhole) (sym made) (whole, tt)
new_whole d (ReplaceShell s) new whole all none made = subst (AllByRecursion IsWhole) (sym made) (whole, tt)
new_whole d (ReplaceSubmodel s) new whole all none made = subst (AllByRecursion IsWhole) (sym made) (whole, tt)
new_whole d (ReplaceConcept c) new whole all none made = subst (AllByRecursion IsWhole) (sym made) (whole, tt)
new_whole d (DeleteShell id) new whole all none made = subst (AllByRecursion IsWhole) (sym made) tt
new_whole d (DeleteSubmodel id) new whole all none made = subst (AllByRecursion IsWhole) (sym made) tt
new_whole d (DeleteConcept id) new whole all none made = subst (AllByRecursion IsWhole) (sym made) tt
new_whole d (SetAsset id a) new whole all none made =
    subst (AllByRecursion IsWhole) (sym made)
    (changed_whole d (encode_utf8_all id) (λ s. record s { asset = a }) (map.get d.shells (encode_utf8_all id)) all refl
    (λ s old. whole_with_asset s a old whole))
new_whole d (AddReference id r) new whole all none made =
    subst (AllByRecursion IsWhole) (sym made)
    (changed_whole d (encode_utf8_all id) (with_reference r) (map.get d.shells (encode_utf8_all id)) all refl
    (λ s old. whole_with_reference r s whole old))
new_whole d (DropReference id submodel_id) new whole all none made =
    subst (AllByRecursion IsWhole) (sym made)
    (changed_whole d (encode_utf8_all id) (without_references submodel_id)
    (map.get d.shells (encode_utf8_all id)) all refl
    (whole_without_references submodel_id))
new_whole d (InsertElement id p e) new whole all none made =
    subst (AllByRecursion IsWhole) (sym made)
    (edited_whole d (encode_utf8_all id) (λ s. inserted s p.steps e) (map.get d.submodels (encode_utf8_all id)) all refl
    (λ s is old. insert_keeps_whole s p.steps e old whole.1))
new_whole d (ReplaceElement id p e) new whole all none made =
    subst (AllByRecursion IsWhole) (sym made)
    (edited_whole d (encode_utf8_all id) (λ s. replaced s p.steps e) (map.get d.submodels (encode_utf8_all id)) all refl
    (λ s is old. replaced_whole s p.steps e (element_at s p.steps) refl
    (none_in (is_absent Submodels id d) (replace_causes p.steps e) s (map.get d.submodels (encode_utf8_all id)) is none)
    old whole.1))
new_whole d (DeleteElement id p) new whole all none made =
    subst (AllByRecursion IsWhole) (sym made)
    (edited_whole d (encode_utf8_all id) (λ s. removed s p.steps) (map.get d.submodels (encode_utf8_all id)) all refl
    (λ s is old. remove_keeps_whole s p.steps old))
new_whole d (UpdateValue id p v) new whole all none made =
    let valid = (all.submodels (encode_utf8_all id) made.old made.there).valid in
    subst (AllByRecursion IsWhole) (sym made.made)
    (update_stays_whole made.old made.updated p.steps v valid whole.1.order made.update, tt)
new_whole d (Import e) new whole all none made = subst (AllByRecursion IsWhole) (sym made) (documents_whole e whole)

-- ---- the law

by_result : (o : Cause) (d new : Documents) → accepted new ≡ result_of o d → (o ≡ None) × (d ≡ new)
by_result None d new e = (refl, cc)
by_result (Some why) d new e = absurd (cc)

by_cause : (o : Cause) (has_room : Bool) (d new : Documents) (c : Command)
    → first_of (causes d c) ≡ o → IsWellFormed c → AreValid d
    → ComesBy o has_room d c (accepted new) → AreValid new
by_cause (Some why) has_room d new c is whole all comes = absurd (cc)
by_cause None has_room d new c is whole all comes =
    let made = comes.0 in
    let result = by_result (first_of (later_causes has_room made)) (with_documents (left d c) made) new comes.2 in
    subst AreValid result.1
    (puts_valid made (left d c) (left_valid d c all) (new_whole d c made whole all is comes.1)
    (none_in_first (flat_map document_causes made) _ result.0))

pub stays_valid : StaysValid
unfolding ComesTo
stays_valid has_room d new c whole all comes = by_cause (first_of (causes d c)) has_room d new c refl whole all comes
