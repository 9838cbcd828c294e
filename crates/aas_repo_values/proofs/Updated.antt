-- What an update of values comes to, by the place that its path leads to.
use Rattle.std.proofs.Common.{◌≡◌, ◌⊎◌, inl, inr, ℕ, Bool, true, false, List, [], ◌∷◌, ◌++◌, map as each, Option, Some}
use Rattle.std.proofs.Common.{None, Result, Ok, Err, refl, sym, ap, ap₂, ◌∙◌, subst}
use Rattle.std.specs.Prelude.{◌≢◌, ◌==◌, if◌then◌else◌, is_some, IfErr, IsErr, IsErrAnd, MatchOption, nat_lt, take}
use Rattle.std.specs.Prelude.{option_and_then, option_map}
use Rattle.std.specs.FinMap as map
use Rattle.std.specs.Option.{option_map_or}
use Rattle.std.specs.Str.{encode_utf8_all}
use Rattle.std.proofs.lemmas.Bool.Decides.{Decides-eqb}
use Rattle.serde_json.specs.Data.{Data}
use Rattle.aas_command.specs.Refusals.{refusal_of_fault}
use Rattle.aas_command.specs.declared.command.Command.{Command}
use Rattle.aas_command.specs.declared.command.Command.TheVariants.{UpdateValue}
use Rattle.aas_command.specs.declared.refusal.Absent.TheVariants as absent
use Rattle.aas_command.specs.declared.refusal.Refusal.{Refusal}
use Rattle.aas_command.specs.declared.refusal.Refusal.TheVariants.{Constraint, Lexical, NoMemory, NotFound, NoValueForm}
use Rattle.aas_command.specs.declared.refusal.Refusal.TheVariants.{Shape, StorageFault, StorageFull, TooMany}
use Rattle.aas_constraint_laws.proofs.Bridge.{law}
use Rattle.aas_constraint_laws.specs.Law.{behind, local_faults}
use Rattle.aas_constraint_laws.specs.Valid.{IsValid}
use Rattle.aas_constraint_rules.specs.Faults.{faults, submodel}
use Rattle.aas_json_spelling.specs.Values.{IsOrdered}
use Rattle.aas_model.specs.declared.common.Head.{Head}
use Rattle.aas_model.specs.declared.documents.Submodel.{Submodel}
use Rattle.aas_model.specs.declared.element.Element.{Element}
use Rattle.aas_model.specs.declared.patch.PatchRow.{PatchRow}
use Rattle.aas_model.specs.declared.path.Fault.{Fault}
use Rattle.aas_model.specs.declared.path.Missing.{Missing}
use Rattle.aas_model.specs.declared.path.Path.{Path}
use Rattle.aas_model.specs.declared.path.PathStep.{PathStep}
use Rattle.aas_model.specs.declared.payload.Payload.{Payload}
use Rattle.aas_model_names.specs.declared.collection.Collection.TheVariants.{Submodels}
use Rattle.aas_model_names.specs.declared.modifiers.Extent.TheVariants as extent
use Rattle.aas_path_trees.specs.Children.{kids_of}
use Rattle.aas_path_trees.specs.ElementAt.{element_at}
use Rattle.aas_path_trees.specs.Patched.{Fits, kinds, kinds_of_all, patched, patched_submodel, element_count}
use Rattle.aas_path_trees.specs.WithElement.{with_element}
use Rattle.aas_reference.specs.Rules.{first}
use Rattle.aas_step.specs.Causes.{Cause, absent_of, causes, first_of, has_too_many, is_lost, unless}
use Rattle.aas_step.specs.Causes.{update_causes, when}
use Rattle.aas_step.specs.Step.{later_causes}
use Rattle.aas_step.specs.Valid.{AreValid}
use Rattle.aas_store.specs.Documents.{Documents, with_submodel}
use Rattle.aas_store.specs.Edited.{FitsAt, Holds, LeadsNowhere, patched_at, with_changed}
use Rattle.aas_store.specs.Reads.{IsRowOf}
use Rattle.aas_store.specs.declared.lack.Lack.{Lack}
use Rattle.aas_store.specs.declared.lack.Lack.TheVariants as lack
use Rattle.aas_rows.specs.Rows.{Line}
use Rattle.aas_rows.specs.declared.view.RowView.{RowView}
use Rattle.aas_step.specs.Lost.{IsRefusalOf}
use Rattle.aas_lemmas.proofs.Lists.{no_map}
use Rattle.aas_path_trees.proofs.Paths.{with_element-same}
use Rattle.aas_value.specs.ValueForm.{value_form}
use Rattle.aas_value_patch.specs.Prepared.{Bears, Breaks, IsValueFault}
use Rattle.aas_value_patch.specs.declared.preparing.ValueFault.{ValueFault}
use Rattle.aas_value_patch.specs.declared.preparing.ValueFault.TheVariants as fault
use Rattle.aas_value_update.specs.Shape.{HasShape, first_misshapen}
use Rattle.aas_value_update.specs.Update.{IsElementUpdate, IsSubmodelUpdate, IsValueUpdate, body, valued_at}
use Rattle.aas_value_update.specs.Laws.{IsInOrder}
use Rattle.aas_value_update.proofs.Judged.{shape_is_judged}
use Rattle.aas_value_update.proofs.Place.{faults_after_update}
use Rattle.aas_value_update.proofs.Sent.{form_there}
use Rattle.aas_value_update.proofs.WholeSubmodel.{update_stays_whole}
use Rattle.aas_value_update.proofs.Order.{body_order, order_at, body_kids}
use Rattle.aas_repo_values.proofs.Bodies.{as_many, is_body, kids_differ}
use Rattle.aas_repo_documents.proofs.Decided.{makes, refused_by, refuses}
use Rattle.aas_repo_documents.proofs.Reached.{found_there, is_missing_at}
use Rattle.aas_repo_documents.specs.Decisions.{IsDecision, Makes}
use Rattle.aas_repo_values.specs.Patches.{IsPatchFor, IsRefused, refusal_behind}
use Rattle.aas_repo_documents.proofs.Accepted.{some_steps}
use Rattle.aas_repo_documents.specs.declared.decision.Decision.TheVariants as decision

-- ---- causes, at what a path leads to

found_with : (p : List PathStep) (v : Data) (lost : Cause) (found : Option Element) → Cause
found_with p v lost found =
    first_of (lost
    ∷ unless (is_some (option_and_then (value_form extent.WithBlobValue) found)) NoValueForm
    ∷ option_map (λ q. Shape (record { steps = p ++ q })) (option_and_then (λ e. first_misshapen e v) found)
    ∷ [])

with_form : List PathStep → Bool → Option (List PathStep) → Cause
with_form p form misshapen =
    first_of (unless form NoValueForm ∷ option_map (λ q. Shape (record { steps = p ++ q })) misshapen ∷ [])

causes_at : (s : Submodel) (p : List PathStep) (v : Data) (e : Element) → is_lost s p ≡ None → valued_at s p ≡ Some e
    → first_of (update_causes p v s) ≡ with_form p (is_some (value_form extent.WithBlobValue e)) (first_misshapen e v)
unfolding found_with with_form
causes_at s p v e lost at = ap₂ (found_with p v) lost at

pub no_cause : (s : Submodel) (p : List PathStep) (v : Data) (e : Element)
    → is_lost s p ≡ None → valued_at s p ≡ Some e → HasShape e v
    → first_of (update_causes p v s) ≡ None
unfolding with_form
no_cause s p v e lost at shape =
    causes_at s p v e lost at ∙ ap₂ (with_form p) (form_there e v shape) ((shape_is_judged e v).0 shape)

no_form : (s : Submodel) (p : List PathStep) (v : Data) (e : Element) → is_lost s p ≡ None → valued_at s p ≡ Some e
    → value_form extent.WithBlobValue e ≡ None → first_of (update_causes p v s) ≡ Some NoValueForm
unfolding with_form
no_form s p v e lost at none =
    causes_at s p v e lost at ∙ ap (λ (f : Option Data). with_form p (is_some f) (first_misshapen e v)) none

no_shape : (s : Submodel) (p q : List PathStep) (v : Data) (e : Element) → is_lost s p ≡ None → valued_at s p ≡ Some e
    → is_some (value_form extent.WithBlobValue e) ≡ true → first_misshapen e v ≡ Some q
    → first_of (update_causes p v s) ≡ Some (Shape (record { steps = p ++ q }))
unfolding with_form
no_shape s p q v e lost at form misshapen = causes_at s p v e lost at ∙ ap₂ (with_form p) form misshapen

-- ---- what an update makes of a submodel

-- s, where what p leads to becomes u by v
pub record BecomesBy (s : Submodel) (p : List PathStep) (v : Data) (u : Element) : Type 0 where
  pub new : Submodel
  pub update : IsValueUpdate s p v new
  pub faults : faults new ≡ each (behind p) (local_faults u)
  pub count : element_count new ≡ element_count s

-- e is what p leads to in the valid submodel s
pub record IsThere (s : Submodel) (p : List PathStep) (e : Element) : Type 0 where
  pub lost : is_lost s p ≡ None
  pub at : valued_at s p ≡ Some e
  pub becomes : (v : Data) (u : Element) → IsElementUpdate e v u → BecomesBy s p v u

pub element_there : (s : Submodel) (t : PathStep) (p : List PathStep) (e : Element)
    → IsValid (submodel s) → element_at s (t ∷ p) ≡ Some e → IsThere s (t ∷ p) e
element_there s t p e valid there = record {
  lost = found_there s t p e there;
  at = there;
  becomes = λ v u update. record {
    new = with_element s (t ∷ p) u;
    update = record { old = e; new = u; found = there; update = update; outside = refl };
    faults = law s (t ∷ p) e u valid.faultless there update.metadata;
    count = as_many s (with_element s (t ∷ p) u) (kids_differ s (t ∷ p) e u there update.metadata);
  };
}

pub body_there : (s : Submodel) → IsValid (submodel s) → IsThere s [] (body s)
body_there s valid = record {
  lost = refl;
  at = refl;
  becomes = λ v u update.
      let b = is_body s u update.metadata in
      let new : Submodel = record s { kids = kids_of u } in
      let made : IsSubmodelUpdate s v new =
      record { update = subst (IsElementUpdate (body s) v) b.is update; outside = refl } in
      record {
        new = new;
        update = made;
        faults =
            faults_after_update s new [] v (body new) valid made refl
            ∙ ap (λ (e : Element). each (behind []) (local_faults e)) (sym b.is);
        count = as_many s new b.differ;
      };
}

-- ---- the command, in a submodel that is there

module _ (d : Documents) (id : List ℕ) (p : Path) (v : Data) (s : Submodel)
    (there : map.get d.submodels (encode_utf8_all id) ≡ Some s) where
  abbrev command : Command
  command = UpdateValue id p v

  first_is : first_of (causes d command) ≡ first_of (update_causes p.steps v s)
  first_is =
      ap (λ (o : Option Submodel).
      first_of (unless (is_some o) (NotFound (absent_of Submodels)) ∷ option_map_or (update_causes p.steps v) o []))
      there

  refused_in : (r : Refusal) → r ≢ StorageFault → first_of (update_causes p.steps v s) ≡ Some r → IsRefused d command r
  refused_in r other why = (other, λ has_room. refused_by has_room d command r (causes d command) refl (first_is ∙ why))

  pub makes_one : (new : Submodel) → first_of (update_causes p.steps v s) ≡ None → IsValueUpdate s p.steps v new
      → Makes d command (submodel new)
  makes_one new none update = record {
    no_cause = first_is ∙ none;
    made = record { old = s; there = there; updated = new; update = update; made = refl };
    left_are = refl;
  }

  by_fault : Bool → Bool → Option Fault → Cause
  by_fault many has_room found =
      first_of (option_map refusal_of_fault found ∷ when many TooMany ∷ unless has_room StorageFull ∷ [])

  -- by the first fault of what would be made
  breaks : (e : Element) (f : Fault) (r : Refusal)
      → IsThere s p.steps e → Breaks e v f → r ≡ refusal_of_fault (behind p.steps f) → IsRefused d command r
  unfolding by_fault
  breaks e f r at b is =
      let made = at.becomes v b.new b.update in
      let makes = makes_one made.new (no_cause s p.steps v e at.lost at.at b.update.shape) made.update in
      let found : first (faults made.new) ≡ Some (behind p.steps f) =
      ap first made.faults ∙ first_of_each (behind p.steps) (local_faults b.new) f b.first in
      let why = λ (has_room : Bool).
      ap (by_fault (has_too_many (submodel made.new)) has_room) found ∙ ap (λ (r : Refusal). Some r) (sym is) in
      let comes = λ (has_room : Bool).
      refuses has_room d d command (submodel made.new) r makes (sym (why has_room)) refl in
      ((comes true).1, λ has_room. (comes has_room).2)
    where
      first_of_each : (g : Fault → Fault) (fs : List Fault) (f : Fault)
          → first fs ≡ Some f → first (each g fs) ≡ Some (g f)
      first_of_each g [] f is = absurd (cc)
      first_of_each g (x ∷ fs) f is = ap (option_map g) is

  pub fault_refuses : (e : Element) (f : ValueFault)
      → IsThere s p.steps e → IsValueFault e v f → refusal_behind p.steps f ≢ NoMemory
      → IsRefused d command (refusal_behind p.steps f)
  fault_refuses e fault.NoValueForm at is other =
      refused_in NoValueForm (λ no. absurd (cc)) (no_form s p.steps v e at.lost at.at is)
  fault_refuses e (fault.Shape q) at is other =
      refused_in _ (λ no. absurd (cc)) (no_shape s p.steps q.steps v e at.lost at.at is.0 is.1)
  fault_refuses e (fault.Lexical q) at is other = breaks e (record { number = 0; path = q }) _ at is refl
  fault_refuses e (fault.Constraint f) at is other =
      breaks e f _ at is.0
      (sym (ap (λ (b : Bool). if b then Lexical (behind p.steps f).path else Constraint (behind p.steps f))
      (not_zero (f.number == 0) refl)))
    where
      not_zero : (b : Bool) → (f.number == 0) ≡ b → (f.number == 0) ≡ false
      not_zero true zero = absurd (is.1 ((Decides-eqb f.number 0).0 zero))
      not_zero false other = other
  fault_refuses e fault.NoMemory at is other = absurd (other refl)

  -- a patch that makes it
  pub is_patch : (e : Element) (rows : List PatchRow) (u : Element)
      (at : IsThere s p.steps e) (update : IsElementUpdate e v u)
      → AreValid d → IsOrdered v → FitsAt s p.steps rows
      → patched_at s p.steps rows ≡ (at.becomes v u update).new → local_faults u ≡ []
      → IsPatchFor d id p.steps v rows
  is_patch e rows u at update valid order fits same faultless =
      let made = at.becomes v u update in
      let was = valid.submodels (encode_utf8_all id) s there in
      record {
        old = s;
        there = there;
        no_cause = no_cause s p.steps v e at.lost at.at update.shape;
        fits = fits;
        update = subst (IsValueUpdate s p.steps v) (sym same) made.update;
        valid = subst (λ (n : Submodel). IsValid (submodel n)) (sym same)
            (record {
              whole = update_stays_whole s made.new p.steps v was.valid order made.update;
              faultless = made.faults ∙ ap (each (behind p.steps)) faultless;
            });
        few = ap (λ (n : Submodel). has_too_many (submodel n)) same ∙ ap (nat_lt 65536) made.count ∙ was.few;
      }

-- ---- the patch in the store

head_stays : (s : Submodel) (p : List PathStep) (rows : List PatchRow) → (patched_at s p rows).head ≡ s.head
head_stays s [] rows = refl
head_stays s (t ∷ p) rows = by_found (element_at s (t ∷ p))
  where
    by_found : (found : Option Element)
        → (option_map_or (λ e. with_element s (t ∷ p) (patched rows e 0).0) found s).head ≡ s.head
    by_found None = refl
    by_found (Some e) = refl

changed_is : (d : Documents) (id : List ℕ) (p : List PathStep) (v : Data) (rows : List PatchRow)
    → AreValid d → (is : IsPatchFor d id p v rows)
    → with_changed d (encode_utf8_all id) (λ s. patched_at s p rows) ≡ with_submodel d (patched_at is.old p rows)
changed_is d id p v rows valid is =
    let new = patched_at is.old p rows in
    let own : encode_utf8_all new.head.id ≡ encode_utf8_all id =
    ap (λ (h : Head). encode_utf8_all h.id) (head_stays is.old p rows)
    ∙ (valid.submodels (encode_utf8_all id) is.old is.there).own in
    ap (λ (o : Option Submodel).
    option_map_or (λ s. record d { submodels = map.insert d.submodels (encode_utf8_all id) (patched_at s p rows) }) o d)
    is.there
    ∙ ap (λ (k : List ℕ). record d { submodels = map.insert d.submodels k new }) (sym own)

makes_patched : (d : Documents) (id : List ℕ) (p : Path) (v : Data) (rows : List PatchRow)
    → (is : IsPatchFor d id p.steps v rows)
    → Makes d (UpdateValue id p v) (submodel (patched_at is.old p.steps rows))
makes_patched d id p v rows is =
    makes_one d id p v is.old is.there (patched_at is.old p.steps rows) is.no_cause is.update

later : (d : Documents) (id : List ℕ) (p : List PathStep) (v : Data) (rows : List PatchRow)
    → (has_room : Bool) → (is : IsPatchFor d id p v rows)
    → first_of (later_causes has_room (submodel (patched_at is.old p rows) ∷ []))
    ≡ first_of (unless has_room StorageFull ∷ [])
later d id p v rows has_room is =
    ap₂ (λ (fs : List Fault) (b : Bool).
    first_of (option_map refusal_of_fault (first fs) ∷ when b TooMany ∷ unless has_room StorageFull ∷ []))
    is.valid.faultless is.few

pub no_room : (d new : Documents) (id : List ℕ) (p : Path) (v : Data) (rows : List PatchRow)
    → IsPatchFor d id p.steps v rows → new ≡ d
    → IsDecision false d (UpdateValue id p v) new (decision.Refused StorageFull)
no_room d new id p v rows is same =
    refuses false d new (UpdateValue id p v) _ StorageFull
    (makes_patched d id p v rows is) (sym (later d id p.steps v rows false is)) same

pub updated : (d new : Documents) (id : List ℕ) (p : Path) (v : Data) (rows : List PatchRow)
    → AreValid d → IsPatchFor d id p.steps v rows
    → new ≡ with_changed d (encode_utf8_all id) (λ s. patched_at s p.steps rows)
    → IsDecision true d (UpdateValue id p v) new decision.Made
updated d new id p v rows valid is same =
    makes true d new (UpdateValue id p v) _ (makes_patched d id p v rows is) (sym (later d id p.steps v rows true is))
    (same ∙ changed_is d id p.steps v rows valid is)

-- ---- what a store answers

pub submodel_missing : (d : Documents) (id : List ℕ) (p : Path) (v : Data)
    → map.get d.submodels (encode_utf8_all id) ≡ None
    → IsRefused d (UpdateValue id p v) (NotFound (absent_of Submodels))
submodel_missing d id p v none = (
  λ no. absurd (cc),
  λ has_room. refused_by has_room d (UpdateValue id p v) _ (causes d (UpdateValue id p v)) refl
      (ap (λ (o : Option Submodel).
      first_of (unless (is_some o) (NotFound (absent_of Submodels)) ∷ option_map_or (update_causes p.steps v) o []))
      none),
)

pub element_missing : (d : Documents) (id bytes : List ℕ) (p : Path) (v : Data) (m : Missing) (r : Refusal)
    → bytes ≡ encode_utf8_all id → p.steps ≢ []
    → Holds d bytes (λ s. LeadsNowhere s p.steps m)
    → (r ≡ NoMemory) ⊎ (r ≡ NotFound (absent.Element (record { steps = take m.steps p.steps }))) → r ≢ NoMemory
    → IsRefused d (UpdateValue id p v) r
element_missing d id bytes p v m r same some there made other =
    by_submodel (map.get d.submodels (encode_utf8_all id)) refl
    (subst (λ (b : List ℕ). Holds d b (λ s. LeadsNowhere s p.steps m)) same there)
  where
    by_submodel : (found : Option Submodel)
        → map.get d.submodels (encode_utf8_all id) ≡ found → MatchOption found ⊥ (λ s. LeadsNowhere s p.steps m)
        → IsRefused d (UpdateValue id p v) r
    by_submodel None is nowhere = absurd nowhere
    by_submodel (Some s) is nowhere =
        let why = is_missing_at s p.steps m.steps r _ (some_steps p.steps some) nowhere.0 nowhere.1 made other in
        refused_in d id p v s is r why.0 why.1

pub lack_refuses : (d : Documents) (id bytes : List ℕ) (p : Path) (v : Data) (l : Lack) (r : Refusal)
    → bytes ≡ encode_utf8_all id → p.steps ≢ []
    → (l ≡ lack.NoSubmodel → map.get d.submodels bytes ≡ None)
    → ((m : Missing) → l ≡ lack.NoElement m → Holds d bytes (λ s. LeadsNowhere s p.steps m))
    → (r ≡ NoMemory) ⊎ IsRefusalOf p.steps l r → r ≢ NoMemory → IsRefused d (UpdateValue id p v) r
lack_refuses d id bytes p v l r same some none nowhere (inl is) other = absurd (other is)
lack_refuses d id bytes p v lack.NoSubmodel r same some none nowhere (inr is) other =
    subst (IsRefused d (UpdateValue id p v)) (sym is)
    (submodel_missing d id p v (ap (map.get d.submodels) (sym same) ∙ none refl))
lack_refuses d id bytes p v (lack.NoElement m) r same some none nowhere (inr is) other =
    element_missing d id bytes p v m r same some (nowhere m refl) (inr is) other
lack_refuses d id bytes p v lack.NoMemory r same some none nowhere (inr is) other = absurd (other is)

-- e is what the path leads to in the submodel of the identifier
pub record IsStored (d : Documents) (id : List ℕ) (p : List PathStep) (e : Element) : Type 0 where
  pub submodel : Submodel
  pub there : map.get d.submodels (encode_utf8_all id) ≡ Some submodel
  pub at : IsThere submodel p e
  pub order : IsInOrder e

pub element_stored : (d : Documents) (id : List ℕ) (p : List PathStep) (e : Element)
    → AreValid d → Holds d (encode_utf8_all id) (λ s. element_at s p ≡ Some e)
    → IsStored d id p e
element_stored d id p e valid there = by_submodel (map.get d.submodels (encode_utf8_all id)) refl there
  where
    at_steps : (s : Submodel) (p : List PathStep) → IsValid (submodel s) → element_at s p ≡ Some e → IsThere s p e
    at_steps s [] whole found = absurd (cc)
    at_steps s (t ∷ p) whole found = element_there s t p e whole found

    by_submodel : (o : Option Submodel) → map.get d.submodels (encode_utf8_all id) ≡ o
        → MatchOption o ⊥ (λ s. element_at s p ≡ Some e) → IsStored d id p e
    by_submodel None is found = absurd found
    by_submodel (Some s) is found =
        let whole = (valid.submodels (encode_utf8_all id) s is).valid in
        record { submodel = s; there = is; at = at_steps s p whole found; order = order_at s p e whole found }

-- x are the attributes of the kind of what the path leads to
pub record IsBorne (d : Documents) (id : List ℕ) (p : List PathStep) (x : Payload) : Type 0 where
  pub element : Element
  pub found : Holds d (encode_utf8_all id) (λ s. element_at s p ≡ Some element)
  pub bears : Bears x element

pub row_borne : (d : Documents) (id : List ℕ) (p : List PathStep) (row : RowView) → AreValid d
    → Holds d (encode_utf8_all id) (λ s. MatchOption (element_at s p) ⊥ (λ e. IsRowOf e row))
    → IsBorne d id p row.payload.now
row_borne d id p row valid there = by_submodel (map.get d.submodels (encode_utf8_all id)) refl there
  where
    nothing_local : (s : Submodel) (e : Element) → IsValid (submodel s) → element_at s p ≡ Some e → local_faults e ≡ []
    nothing_local s e whole found =
        no_map (behind p) (local_faults e)
        (sym (law s p e e whole.faultless found refl) ∙ ap faults (with_element-same s p e found) ∙ whole.faultless)

    by_element : (s : Submodel) (o : Option Element)
        → map.get d.submodels (encode_utf8_all id) ≡ Some s → element_at s p ≡ o
        → MatchOption o ⊥ (λ e. IsRowOf e row) → IsBorne d id p row.payload.now
    by_element s None is found shown = absurd shown
    by_element s (Some e) is found shown =
        let whole = (valid.submodels (encode_utf8_all id) s is).valid in
        record {
          element = e;
          found = subst (λ (o : Option Submodel). MatchOption o ⊥ (λ s. element_at s p ≡ Some e)) (sym is) found;
          bears = record {
            payload = sym (ap (λ (l : Line). l.payload) shown);
            order = order_at s p e whole found;
            faultless = nothing_local s e whole found;
          };
        }

    by_submodel : (o : Option Submodel) → map.get d.submodels (encode_utf8_all id) ≡ o
        → MatchOption o ⊥ (λ s. MatchOption (element_at s p) ⊥ (λ e. IsRowOf e row)) → IsBorne d id p row.payload.now
    by_submodel None is found = absurd found
    by_submodel (Some s) is found = by_element s (element_at s p) is refl found

pub body_stored : (d : Documents) (id : List ℕ) (p : List PathStep) (s : Submodel)
    → AreValid d → p ≡ [] → map.get d.submodels (encode_utf8_all id) ≡ Some s
    → IsStored d id p (body s)
body_stored d id p s valid none is =
    let whole = (valid.submodels (encode_utf8_all id) s is).valid in
    record {
      submodel = s;
      there = is;
      at = subst (λ (q : List PathStep). IsThere s q (body s)) (sym none) (body_there s whole);
      order = body_order s whole;
    }

-- ---- what is prepared

pub refused_at : (d : Documents) (id : List ℕ) (p : Path) (v w : Data) (e : Element) (f : ValueFault) (r : Refusal)
    → IsStored d id p.steps e
    → IsValueFault e w f → w ≡ v
    → (r ≢ NoMemory → r ≡ refusal_behind p.steps f) → r ≢ NoMemory → IsRefused d (UpdateValue id p v) r
refused_at d id p v w e f r stored breaks same made other =
    let is = made other in
    subst (IsRefused d (UpdateValue id p v)) (sym is)
    (fault_refuses d id p v stored.submodel stored.there e f stored.at
    (subst (λ (w : Data). IsValueFault e w f) same breaks) (λ no. other (is ∙ no)))

pub element_patch : (d : Documents) (id : List ℕ) (p : List PathStep) (v w : Data) (e : Element) (rows : List PatchRow)
    → AreValid d → IsOrdered v
    → Holds d (encode_utf8_all id) (λ s. element_at s p ≡ Some e) → w ≡ v → Fits (kinds e) rows
    → IsElementUpdate e w (patched rows e 0).0
    → local_faults (patched rows e 0).0 ≡ []
    → IsPatchFor d id p v rows
unfolding element_there
element_patch d id p v w e rows valid order there same fits update faultless =
    by_submodel (map.get d.submodels (encode_utf8_all id)) refl there
  where
    at_steps : (s : Submodel) (p : List PathStep)
        → map.get d.submodels (encode_utf8_all id) ≡ Some s → element_at s p ≡ Some e → IsPatchFor d id p v rows
    at_steps s [] is found = absurd (cc)
    at_steps s (t ∷ p) is found =
        let u = (patched rows e 0).0 in
        let at = element_there s t p e (valid.submodels (encode_utf8_all id) s is).valid found in
        is_patch d id (record { steps = t ∷ p }) v s is e rows u at
        (subst (λ (w : Data). IsElementUpdate e w u) same update) valid order
        (subst (λ (o : Option Element). MatchOption o ⊥ (λ e. Fits (kinds e) rows)) (sym found) fits)
        (ap (λ (o : Option Element). option_map_or (λ e. with_element s (t ∷ p) (patched rows e 0).0) o s) found)
        faultless

    by_submodel : (o : Option Submodel)
        → map.get d.submodels (encode_utf8_all id) ≡ o → MatchOption o ⊥ (λ s. element_at s p ≡ Some e)
        → IsPatchFor d id p v rows
    by_submodel None is found = absurd found
    by_submodel (Some s) is found = at_steps s p is found

pub submodel_patch : (d : Documents) (id : List ℕ)
    (p : List PathStep) (v w : Data) (s : Submodel) (rows : List PatchRow)
    → AreValid d → IsOrdered v
    → p ≡ []
    → map.get d.submodels (encode_utf8_all id) ≡ Some s → w ≡ v → Fits (kinds_of_all s.kids) rows
    → IsSubmodelUpdate s w (patched_submodel rows s)
    → local_faults (body (patched_submodel rows s)) ≡ []
    → IsPatchFor d id p v rows
unfolding body_there
submodel_patch d id p v w s rows valid order none is same fits update faultless =
    let new = patched_submodel rows s in
    let at = body_there s (valid.submodels (encode_utf8_all id) s is).valid in
    subst (λ (q : List PathStep). IsPatchFor d id q v rows) (sym none)
    (is_patch d id (record { steps = [] }) v s is (body s) rows (body new) at
    (subst (λ (w : Data). IsElementUpdate (body s) w (body new)) same update.update)
    valid order fits (ap (λ (ks : List Element). record s { kids = ks }) (sym (body_kids new))) faultless)

-- a refusal that is handed on
pub handed_on : {A : Type 0} (result : Result A Refusal) (r : Refusal) (P : Refusal → Type 0)
    → IsErr result × IsErrAnd result (λ f. f ≡ r) → P r → IfErr result P
handed_on (Ok a) r P given is = absurd given.1
handed_on (Err f) r P given is = subst P (sym given.1) is
