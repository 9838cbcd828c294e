-- What a whole walk has made.
use Rattle.std.proofs.Common.{◌≡◌, ℕ, true, false, List, [], ◌++◌, length, map, Option, Some, None, IsSome, is_some}
use Rattle.std.proofs.Common.{option_map, Result, Ok, Err, slice_get, refl, sym, ap, ◌∙◌, subst, true≢false}
use Rattle.std.specs.Prelude.{if◌then◌else◌}
use Rattle.std.specs.Result.{IsErr, IsErrAnd, IfErr}
use Rattle.aas_lemmas.proofs.Truth.{None-from_is_some}
use Rattle.serde_json.specs.Data.{Data}
use Rattle.aas_json_spelling.specs.Values.{IsOrdered}
use Rattle.aas_model.specs.declared.documents.Submodel.{Submodel}
use Rattle.aas_model.specs.declared.element.Element.{Element, out-roll-Element}
use Rattle.aas_model.specs.declared.element.Role.TheVariants as role
use Rattle.aas_model.specs.declared.patch.Patch.{Patch}
use Rattle.aas_model.specs.declared.patch.PatchRow.{PatchRow}
use Rattle.aas_model.specs.declared.payload.Payload.TheVariants as payload
use Rattle.aas_model_names.specs.declared.kind.Kind.{Kind}
use Rattle.aas_model_names.specs.declared.modifiers.Extent.TheVariants as extent
use Rattle.aas_path_trees.specs.Children.{is_list_payload}
use Rattle.aas_path_trees.specs.Patched.{Fits, kinds, kinds_of_all, patched, patched_all, patched_submodel}
use Rattle.aas_path_trees.specs.Places.{Differ}
use Rattle.aas_value.specs.Children.{Child}
use Rattle.aas_value.specs.ValueForm.{value_form, shows_children}
use Rattle.aas_value_update.specs.Forms.{part_of, lay}
use Rattle.aas_value_update.specs.Laws.{IsInOrder}
use Rattle.aas_value.specs.Parts.{Part, children, object_of, over, fits_form}
use Rattle.aas_value_update.specs.Shape.{first_misshapen, sendable, among, by_names}
use Rattle.aas_value_update.specs.Update.{IsElementUpdate, body}
use Rattle.aas_value_update.proofs.Elements.{part_at}
use Rattle.aas_value_update.proofs.Judged.{misshapen_made, shape_is_judged}
use Rattle.aas_value_update.proofs.Order.{order_below, body_kids}
use Rattle.aas_value_update.proofs.Rest.{differ_in_values, unshown_stays}
use Rattle.aas_model.specs.Common.{no_attributes}
use Rattle.aas_constraint_rules.specs.Sites.{Own}
use Rattle.aas_value_patch.specs.Faults.{IsPatchFault, Refuses, Shapes, fault_here}
use Rattle.aas_value_patch.specs.declared.fault.Misfit.{Misfit}
use Rattle.aas_value_patch.specs.declared.fault.Misfit.TheVariants as misfit
use Rattle.aas_value_patch.specs.declared.preparing.ValueFault.{ValueFault}
use Rattle.aas_value_patch.specs.declared.preparing.ValueFault.TheVariants as fault
use Rattle.aas_value_patch.specs.Gathered.{HasTaken, AreTaken, SoFar, Gathered, GatheredAll, AllInOrder, AllOrdered}
use Rattle.aas_value_patch.proofs.Attributes.{body_takes}
use Rattle.aas_value_patch.proofs.Level.{level_taken}
use Rattle.aas_value_patch.proofs.Ordered.{sent_ordered}
use Rattle.aas_value_patch.proofs.Rows.{fits}
use Rattle.aas_value_patch.proofs.Walk.{kids_differ}

-- what has taken a value that fits is updated by it
pub updated : (e u : Element) (v : Data)
    → is_some (part_of e).child.form ≡ true → first_misshapen e v ≡ None → HasTaken e v u → IsElementUpdate e v u
updated e u v there none taken = record {
  metadata = differ_in_values e u taken.rest;
  operations = unshown_stays e u taken.rest;
  shape = (shape_is_judged e v).1 none;
  form = ap (λ (c : Child). c.form) taken.form ∙ laid (part_of e).child.form there;
}
  where
    laid : (f : Option Data) → is_some f ≡ true → over (part_of e).lay f (Some v) ≡ option_map (λ w. lay e w v) f
    laid None there = absurd (true≢false (sym there))
    laid (Some w) there = refl

none_seen : SoFar [] []
none_seen = record { rising = tt; kinds_agree = tt }

-- ---- an element

pub record Whole (e : Element) (v : Data) (rows : List PatchRow) : Type 0 where
  pub fit : Fits (kinds e) rows
  pub taken : HasTaken e v (patched rows e 0).0

pub whole_walk : (e : Element) (v : Data) (old rows : List PatchRow) (after : ℕ) → old ≡ [] → IsInOrder e → IsOrdered v
    → (IsInOrder e → IsOrdered v → (seen : List Kind) → length seen ≡ 0 → SoFar seen old
    → (after ≡ length (seen ++ kinds e)) × Gathered e (Some v) seen old rows)
    → Whole e v rows
whole_walk e v old rows after empty order ordered walk =
    let done = (walk order ordered [] refl (subst (SoFar []) (sym empty) none_seen)).1 in
    record { fit = fits (kinds e) rows done.fit; taken = done.taken rows (λ j own le lt. refl) }

-- ---- faults

pub formless : (e : Element) → is_some (part_of e).child.form ≡ false → value_form extent.WithBlobValue e ≡ None
formless e there = None-from_is_some (part_of e).child.form there

form_some : (e : Element) → is_some (part_of e).child.form ≡ true → IsSome (value_form extent.WithBlobValue e)
form_some e there = some (part_of e).child.form there
  where
    some : (f : Option Data) → is_some f ≡ true → IsSome f
    some None e = absurd (true≢false (sym e))
    some (Some d) e = refl

shape_fault : (f : ValueFault) (e : Element) (v : Data)
    → is_some (part_of e).child.form ≡ true → Shapes {A = ℕ} (Err f) (first_misshapen e v) → IsPatchFault e v f
shape_fault (fault.Shape path) e v there h = (form_some e there, h)
shape_fault fault.NoMemory e v there h = tt
shape_fault _ e v there h = absurd h

pub patch_fault : (r : Result Patch ValueFault) (g : ValueFault) (e : Element) (v : Data)
    → is_some (part_of e).child.form ≡ true → IsErr r
    → IsErrAnd r (λ f. f ≡ g)
    → Shapes {A = ℕ} (Err g) (first_misshapen e v) → IfErr r (λ f. IsPatchFault e v f)
patch_fault (Ok s) g e v there err and shown = absurd (cc)
patch_fault (Err f) g e v there err and shown = subst (IsPatchFault e v) (sym and) (shape_fault g e v there shown)

-- ---- a submodel

pub body_all : (d : Submodel) → IsInOrder (body d) → AllInOrder d.kids
body_all d order i k there = order_below (body d) order i k (ap (λ l. slice_get l i) (body_kids d) ∙ there)

pub body_differ : (d : Submodel) → IsInOrder (body d) → Differ d.kids
body_differ d order =
    let out = out-roll-Element (record {
      common = no_attributes;
      payload = payload.SubmodelElementCollection;
      role = role.Member;
      kids = d.kids;
    }) in
    subst Differ (body_kids d)
    (kids_differ (body d) order (ap (λ x. shows_children x.payload) out) (ap (λ x. is_list_payload x.payload) out))

pub body_form : (d : Submodel) → is_some (part_of (body d)).child.form ≡ true
body_form d =
    ap (λ (x : Part). is_some x.child.form) (part_at role.Member no_attributes payload.SubmodelElementCollection d.kids)

abbrev pub own : Own
own = record { common = no_attributes; payload = payload.SubmodelElementCollection; role = role.Member }

pub body_shape : (d : Submodel) (v : Data) → first_misshapen (body d) v
    ≡ (if fits_form (object_of (map part_of d.kids)) v
    then among own 0 (map sendable d.kids) (by_names (children (map part_of d.kids)) v)
    else Some [])
body_shape d v = misshapen_made role.Member no_attributes payload.SubmodelElementCollection d.kids v

pub record WholeBody (d : Submodel) (v : Data) (rows : List PatchRow) : Type 0 where
  pub fit : Fits (kinds_of_all d.kids) rows
  pub taken : HasTaken (body d) v (body (patched_submodel rows d))

pub whole_body : (d : Submodel) (v : Data) (f : List Child → List (Option Data)) (old rows : List PatchRow) (after : ℕ)
    → old ≡ [] → IsInOrder (body d)
    → IsOrdered v
    → fits_form (object_of (map part_of d.kids)) v ≡ true → ((cs : List Child) → f cs ≡ by_names cs v)
    → (AllInOrder d.kids → AllOrdered (f (children (map part_of d.kids))) → (seen : List Kind)
    → length seen ≡ 0 → SoFar seen old
    → (after ≡ length (seen ++ kinds_of_all d.kids))
    × GatheredAll d.kids (f (children (map part_of d.kids))) seen old rows)
    → WholeBody d v rows
whole_body d v f old rows after empty order ordered fit sent walk =
    let cs = children (map part_of d.kids) in
    let some = subst AllOrdered (sym (sent cs)) (sent_ordered payload.SubmodelElementCollection cs v ordered) in
    let done = (walk (body_all d order) some [] refl (subst (SoFar []) (sym empty) none_seen)).1 in
    let taken =
    subst (λ ss. AreTaken d.kids ss (patched_all rows d.kids 0).0) (sent cs) (done.taken rows (λ j own le lt. refl)) in
    record {
      fit = fits (kinds_of_all d.kids) rows done.fit;
      taken =
          level_taken role.Member no_attributes payload.SubmodelElementCollection
          payload.SubmodelElementCollection d.kids (patched_all rows d.kids 0).0
          v fit tt (body_takes v (map part_of d.kids) fit) taken;
    }

body_misshapen : (d : Submodel) (v : Data)
    → fits_form (object_of (map part_of d.kids)) v ≡ false → first_misshapen (body d) v ≡ Some []
body_misshapen d v unfit = body_shape d v
    ∙ ap (λ b. if b then among own 0 (map sendable d.kids) (by_names (children (map part_of d.kids)) v) else Some [])
    unfit

pub body_misfit : (m : Misfit) (d : Submodel) (v : Data)
    → Refuses m (fits_form (object_of (map part_of d.kids)) v) → IsPatchFault (body d) v (fault_here m)
body_misfit misfit.Shape d v unfit = (form_some (body d) (body_form d), body_misshapen d v unfit)
body_misfit misfit.NoMemory d v any = tt

pub body_walked : (r : Result ℕ ValueFault) (d : Submodel) (v : Data) (f : List Child → List (Option Data))
    → IsInOrder (body d) → IsOrdered v
    → fits_form (object_of (map part_of d.kids)) v ≡ true
    → ((cs : List Child) → f cs ≡ by_names cs v)
    → (AllInOrder d.kids → AllOrdered (f (children (map part_of d.kids)))
    → Shapes r (among own 0 (map sendable d.kids) (f (children (map part_of d.kids)))))
    → Shapes r (first_misshapen (body d) v)
body_walked r d v f order ordered fit sent walk =
    let cs = children (map part_of d.kids) in
    let some = subst AllOrdered (sym (sent cs)) (sent_ordered payload.SubmodelElementCollection cs v ordered) in
    subst (Shapes r)
    (sym (body_shape d v ∙ ap (λ b. if b then among own 0 (map sendable d.kids) (by_names cs v) else Some []) fit))
    (subst (λ ss. Shapes r (among own 0 (map sendable d.kids) ss)) (sent cs) (walk (body_all d order) some))
