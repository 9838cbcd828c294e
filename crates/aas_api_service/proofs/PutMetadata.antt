-- What an accepted update of metadata leaves.
use Rattle.std.proofs.Common.{◌≡◌, ℕ, Bool, true, List, [], ◌∷◌, length, Option, Some, None, option_map, Ok, Err, refl}
use Rattle.std.proofs.Common.{sym, ap, ◌∙◌, subst, arith}
use Rattle.std.specs.List.{last_or}
use Rattle.std.specs.Option.{option_map_or}
use Rattle.std.specs.Str.{encode_utf8_all}
use Rattle.aas_model.specs.declared.documents.Submodel.{Submodel}
use Rattle.aas_model.specs.declared.element.Element.{Element, Element-F, out-Element, roll-Element}
use Rattle.aas_model.specs.declared.element.Element.{out-roll-Element, roll-out-Element}
use Rattle.aas_model.specs.declared.element.Role.{Role}
use Rattle.aas_model.specs.declared.element.Role.TheVariants as role
use Rattle.aas_model.specs.declared.path.Fault.{Fault}
use Rattle.aas_model.specs.declared.path.Path.{Path}
use Rattle.aas_model.specs.declared.path.PathStep.{PathStep}
use Rattle.aas_model.specs.declared.path.PathStep.TheVariants.{Name}
use Rattle.aas_reference.specs.Rules.{first}
use Rattle.aas_json_mapping.specs.Metadata.{IsMetadata, metadata_form}
use Rattle.aas_json_mapping.specs.Whole.{is_member}
use Rattle.aas_path_trees.specs.Children.{id_short_of, role_of, with_role}
use Rattle.aas_path_trees.specs.Edits.{replaced}
use Rattle.aas_path_trees.specs.ElementAt.{element_at}
use Rattle.aas_path_trees.specs.WithElement.{with_element}
use Rattle.aas_path_trees.proofs.OnePath.{text_is}
use Rattle.aas_constraint_rules.specs.Faults.{Document, faults, submodel, HasNoFault}
use Rattle.aas_edit_faults.specs.Laws.{ListsHaveNoNames}
use Rattle.aas_meta_update.specs.Laws.{MetadataIsPut, OnlyMetadataChanges, ValuesStay}
use Rattle.aas_meta_update.specs.WithMetadata.{IsAlike, with_metadata, with_shown, with_submodel_metadata}
use Rattle.aas_command.specs.Commands.{payload_of}
use Rattle.aas_command.specs.Refusals.{refusal_of_fault}
use Rattle.aas_command.specs.declared.command.Command.{Command}
use Rattle.aas_command.specs.declared.command.Command.TheVariants.{ReplaceElement, ReplaceSubmodel}
use Rattle.aas_command.specs.declared.refusal.Refusal.{Refusal}
use Rattle.aas_command.specs.declared.refusal.Refusal.TheVariants as refusal
use Rattle.aas_http.specs.FirstRequest.{Message}
use Rattle.aas_http.specs.declared.replies.Reply.{Reply}
use Rattle.aas_page.specs.Laws.{SegmentsStandForOne}
use Rattle.aas_rule.specs.Rule.{Repository, Room, Outcome}
use Rattle.aas_store.specs.Documents.{Documents}
use Rattle.aas_step.specs.Causes.{Cause, causes, first_of}
use Rattle.aas_step.specs.Made.{IsMade, left, with_documents}
use Rattle.aas_step.specs.Step.{accepted, refused, later_causes, result_of, ComesBy, ComesTo, Steps}
use Rattle.aas_step.specs.Valid.{AreValid}
use Rattle.aas_target.specs.Laws.{QueriesSayOne}
use Rattle.aas_api.specs.Asked.{Called, IsAsked, has_last}
use Rattle.aas_api.specs.Submodels.{submodel_of}
use Rattle.aas_api.specs.declared.ask.Ask.{Ask}
use Rattle.aas_api.specs.declared.ask.Ask.TheVariants.{Describe}
use Rattle.aas_api.specs.declared.ask.Call.{Call}
use Rattle.aas_api.specs.declared.ask.Metadata.{Metadata}
use Rattle.aas_api.specs.declared.ask.Metadata.TheVariants as metadata
use Rattle.aas_api_service.specs.Described.{IsDescribed}
use Rattle.aas_api_service.specs.MetadataUpdates.{PutsAtElement, PutsAtSubmodel, UpdatesPutMetadata, describing}
use Rattle.aas_api_service.specs.Replies.{refusal_reply, status_of}
use Rattle.aas_api_service.specs.Turns.{AskComesTo, CallComesTo, CalledComesTo, ComesUnless, Turns}
use Rattle.aas_api_service.specs.Turns.{unchanged, unreached}
use Rattle.aas_api_service.proofs.OneOutcome.{one_call}
use Rattle.aas_api_service.proofs.SameNames.{same_name}
use Rattle.aas_api_service.proofs.WellDescribed.{puts_at, puts_in}
use Rattle.aas_api_service.proofs.WellFormed.{asks_named, asks_well}

-- ---- an accepted update

no_success : (why : Refusal) → status_of why ≡ 204 → ⊥
no_success refusal.NoRoute e = absurd (omega (arith, e))
no_success (refusal.NotAllowed allow) e = absurd (omega (arith, e))
no_success (refusal.NotFound what) e = absurd (omega (arith, e))
no_success refusal.Conflict e = absurd (omega (arith, e))
no_success refusal.TooLarge e = absurd (omega (arith, e))
no_success refusal.StorageFault e = absurd (omega (arith, e))
no_success refusal.NotImplemented e = absurd (omega (arith, e))
no_success refusal.NoMemory e = absurd (omega (arith, e))
no_success refusal.StorageFull e = absurd (omega (arith, e))
no_success why e = absurd (omega (arith, e))

not_refused : (r : Repository Documents) (why : Refusal) (outcome : Outcome Documents Reply)
    → outcome ≡ unchanged r (refusal_reply why) → outcome.reply.status ≡ 204 → ⊥
unfolding refusal_reply
not_refused r why outcome is ok = no_success why (sym (ap (λ (o : Outcome Documents Reply). o.reply.status) is) ∙ ok)

-- the command by which it is done
record Accepts (room : Room) (r : Repository Documents) (m : Metadata) (outcome : Outcome Documents Reply) :
    Type 0 where
  command : Command
  by : IsDescribed r.documents m (Ok command)
  steps : Steps room r command (accepted outcome.documents)

accepts : (room : Room) (r : Repository Documents) (m : Metadata) (outcome : Outcome Documents Reply)
    → AskComesTo room r (Describe m) outcome → outcome.reply.status ≡ 204
    → Accepts room r m outcome
unfolding AskComesTo
accepts room r m outcome (Err why, by, is) ok = absurd (not_refused r why outcome is ok)
accepts room r m outcome (Ok c, by, (well, (refused why, steps, read, is))) ok =
    absurd (not_refused r why outcome is ok)
accepts room r m outcome (Ok c, by, (well, (accepted new, steps, fields, is))) ok =
    let same : outcome.documents ≡ new = ap (λ (o : Outcome Documents Reply). o.documents) is in record {
      command = c;
      by = by;
      steps = subst (λ (d : Documents). Steps room r c (accepted d)) (sym same) steps;
    }

by_cause : (cause : Cause) (room : Room) (r : Repository Documents) (ask : Ask) (outcome : Outcome Documents Reply)
    → ComesUnless cause room r ask outcome
    → outcome.reply.status ≡ 204 → AskComesTo room r ask outcome
by_cause (Some why) room r ask outcome is ok = absurd (not_refused r why outcome is ok)
by_cause None room r ask outcome comes ok = comes

by_call : (room : Room) (r : Repository Documents) (call : Call) (outcome : Outcome Documents Reply)
    → CallComesTo room r call outcome → outcome.reply.status ≡ 204
    → AskComesTo room r call.ask outcome
unfolding CallComesTo
by_call room r call outcome comes ok =
    by_cause (unreached r.documents call.through (submodel_of call.ask)) room r call.ask outcome comes ok

by_turn : SegmentsStandForOne → QueriesSayOne
    → (room : Room) (r : Repository Documents) (message : Message) (call : Call) (outcome : Outcome Documents Reply)
    → IsAsked message (Ok call) → Turns room r message outcome → outcome.reply.status ≡ 204
    → AskComesTo room r call.ask outcome
unfolding Turns
by_turn one_id one_query room r message call outcome asked (called, other, comes) ok =
    by_call room r call outcome
    (subst (λ (c : Called). CalledComesTo room r c outcome)
    (one_call one_id one_query message call called asked other) comes)
    ok

-- ---- the documents that a command makes

record Makes (has_room : Bool) (d : Documents) (c : Command) (new : Documents) : Type 0 where
  made : List Document
  is_made : IsMade d c made
  documents : new ≡ with_documents (left d c) made
  no_cause : first_of (later_causes has_room made) ≡ None

by_made : (cause : Cause) (d new : Documents) → accepted new ≡ result_of cause d → (new ≡ d) × (cause ≡ None)
by_made None d new is = (cc, refl)
by_made (Some why) d new is = absurd (cc)

by_causes : (cause : Cause) (has_room : Bool) (d : Documents) (c : Command) (new : Documents)
    → ComesBy cause has_room d c (accepted new) → Makes has_room d c new
by_causes (Some why) has_room d c new is = absurd (cc)
by_causes None has_room d c new (made, is_made, is) =
    let by = by_made (first_of (later_causes has_room made)) (with_documents (left d c) made) new is in
    record { made = made; is_made = is_made; documents = by.0; no_cause = by.1 }

makes : (room : Room) (r : Repository Documents) (c : Command) (new : Documents) → Steps room r c (accepted new)
    → Makes (room r.records (length (payload_of c))) r.documents c new
unfolding Steps ComesTo
makes room r c new steps =
    by_causes (first_of (causes r.documents c)) (room r.records (length (payload_of c))) r.documents c new steps

no_fault : (fs : List Fault) (more : List Cause)
    → first_of (option_map refusal_of_fault (first fs) ∷ more) ≡ None → fs ≡ []
no_fault [] more e = refl
no_fault (f ∷ fs) more e = absurd (cc)

-- where it makes one submodel, that has no fault
faultless : (has_room : Bool) (s : Submodel)
    → first_of (later_causes has_room (submodel s ∷ [])) ≡ None → HasNoFault (submodel s)
faultless has_room s e = no_fault (faults s) _ e

-- ---- an element

-- what another element takes the role from, whatever its own
with_roles : (e : Element) (r t : Role) → with_role (with_role e r) t ≡ with_role e t
with_roles e r t =
    ap (λ (y : Element-F Element). roll-Element (record y { role = t }))
    (out-roll-Element (record (out-Element e) { role = r }))

own_role : (e : Element) → with_role e (role_of e) ≡ e
own_role e = roll-out-Element e

role_put : (e m : Element) → role_of (with_metadata e m) ≡ role_of e
role_put e m =
    ap (λ (y : Element-F Element). y.role) (out-roll-Element (record (out-Element e) {
      common = (out-Element m).common;
      payload = with_shown (out-Element e).payload (out-Element m).payload;
    }))

-- the element of the command, in the role of the old one
back : (e m : Element) → with_role (with_role (with_metadata e m) role.Member) (role_of e) ≡ with_metadata e m
back e m =
    with_roles (with_metadata e m) role.Member (role_of e)
    ∙ ap (with_role (with_metadata e m)) (sym (role_put e m)) ∙ own_role (with_metadata e m)

name_put : (e m : Element) → id_short_of (with_metadata e m) ≡ id_short_of m
name_put e m =
    ap (λ (y : Element-F Element). y.common.id_short) (out-roll-Element (record (out-Element e) {
      common = (out-Element m).common;
      payload = with_shown (out-Element e).payload (out-Element m).payload;
    }))

only_member : (r : Role) → is_member r ≡ true → r ≡ role.Member
only_member role.Member is = refl
only_member r is = absurd (cc)

-- the form that was sent
sent_form : MetadataIsPut → (e m : Element)
    → IsAlike e m → IsMetadata m → with_role (metadata_form (with_metadata e m)) role.Member ≡ m
sent_form put e m alike shape =
    let member : role_of m ≡ role.Member = only_member (role_of m) shape.role in
    ap (λ (x : Element). with_role x role.Member) (put.element e m alike)
    ∙ with_roles (metadata_form m) (role_of e) role.Member
    ∙ ap (λ (x : Element). with_role x role.Member) shape.form ∙ ap (with_role m) (sym member) ∙ own_role m

replaced_is : (s : Submodel) (p : List PathStep) (e m : Element) → element_at s p ≡ Some e
    → replaced s p (with_role (with_metadata e m) role.Member) ≡ with_element s p (with_metadata e m)
replaced_is s p e m found =
    ap (λ (o : Option Element).
    option_map_or (λ k. with_element s p (with_role (with_role (with_metadata e m) role.Member) (role_of k))) o s)
    found
    ∙ ap (with_element s p) (back e m)

-- the name with which the path ends
named : (step : Option PathStep) (m : Element) (n : List ℕ)
    → has_last step m ≡ true → step ≡ Some (Name n) → id_short_of m ≡ Some n
named step m n has is = text_is n (id_short_of m) (ap (λ (s : Option PathStep). has_last s m) (sym is) ∙ has)

put_at_element : MetadataIsPut → ValuesStay → OnlyMetadataChanges → ListsHaveNoNames
    → (room : Room) (r : Repository Documents) (id : List ℕ) (p : Path) (m : Element)
    (outcome : Outcome Documents Reply) → AreValid r.documents → IsMetadata m → has_last (last_or None p.steps) m ≡ true
    → Accepts room r (metadata.Element id p m) outcome → PutsAtElement r.documents outcome.documents id p m
put_at_element put stay only lists room r id p m outcome valid shape has update =
    let at = puts_at r.documents id p m update.command update.by in
    let w = with_metadata at.element m in
    let u = with_element at.submodel p.steps w in
    let new = makes room r (ReplaceElement id p (with_role w role.Member)) outcome.documents
    (subst (λ (c : Command). Steps room r c (accepted outcome.documents)) at.is update.steps) in
    let made : new.made ≡ submodel u ∷ [] =
    new.is_made
    ∙ ap (λ (o : Option Submodel).
    option_map_or (λ s. submodel (replaced s p.steps (with_role w role.Member)) ∷ []) o [])
    at.there
    ∙ ap (λ (s : Submodel). submodel s ∷ []) (replaced_is at.submodel p.steps at.element m at.found) in
    let has_room = room r.records (length (payload_of (ReplaceElement id p (with_role w role.Member)))) in
    let new_none =
    faultless has_room u (ap (λ (ds : List Document). first_of (later_causes has_room ds)) (sym made) ∙ new.no_cause) in
    let old_none = (valid.submodels (encode_utf8_all id) at.submodel at.there).valid.faultless in
    let name = same_name lists at.submodel p.steps at.element w old_none new_none at.found (λ n is.
    name_put at.element m ∙ named (last_or None p.steps) m n has is) in
    record {
      submodel = at.submodel;
      there = at.there;
      element = at.element;
      found = at.found;
      documents = new.documents ∙ ap (with_documents r.documents) made;
      form = sent_form put at.element m at.alike shape;
      value = λ x. stay.element x at.element m at.alike;
      only = only at.submodel p.steps at.element m at.found at.alike (sym (name_put at.element m) ∙ name);
    }

-- ---- a submodel

put_at_submodel : ValuesStay
    → (room : Room) (r : Repository Documents) (m : Submodel) (outcome : Outcome Documents Reply) → m.kids ≡ []
    → Accepts room r (metadata.Submodel m) outcome → PutsAtSubmodel r.documents outcome.documents m
put_at_submodel stay room r m outcome shape update =
    let at = puts_in r.documents m update.command update.by in
    let w = with_submodel_metadata at.submodel m in
    let new = makes room r (ReplaceSubmodel w) outcome.documents
    (subst (λ (c : Command). Steps room r c (accepted outcome.documents)) at.is update.steps) in
    record {
      submodel = at.submodel;
      there = at.there;
      documents = new.documents ∙ ap (with_documents r.documents) new.is_made;
      form = ap (λ (ks : List Element). record m { kids = ks }) (sym shape);
      value = λ x. stay.submodel x at.submodel m;
    }

-- ---- the law

pub updates_put_metadata : SegmentsStandForOne → QueriesSayOne → MetadataIsPut
    → ValuesStay → OnlyMetadataChanges → ListsHaveNoNames → UpdatesPutMetadata
updates_put_metadata one_id one_query put stay only lists = record {
  element = λ room r message through id p m outcome valid asked turns ok.
      let well = asks_well message through (Describe (metadata.Element id p m)) asked in
      put_at_element put stay only lists room r id p m outcome valid well.1.shape
      (asks_named message through (Describe (metadata.Element id p m)) asked)
      (accepts room r (metadata.Element id p m) outcome
      (by_turn one_id one_query room r message (describing through (metadata.Element id p m)) outcome asked turns ok)
      ok);
  submodel = λ room r message through m outcome valid asked turns ok.
      let well = asks_well message through (Describe (metadata.Submodel m)) asked in
      put_at_submodel stay room r m outcome well.shape
      (accepts room r (metadata.Submodel m) outcome
      (by_turn one_id one_query room r message (describing through (metadata.Submodel m)) outcome asked turns ok) ok);
}
