-- What a walk along an element and a sent value answers, one step at a time.
use Rattle.std.proofs.Common.{◌≡◌, ℕ, ◌+◌, ◌<◌, ◌≤◌, true, false, List, [], ◌∷◌, ◌++◌, length, map, drop, get_or}
use Rattle.std.proofs.Common.{Option, Some, None, option_map, Result, Ok, Err}
use Rattle.std.proofs.Common.{IfOk, slice_get, refl, sym, ap, ap₂, ◌∙◌, subst, length-append, arith}
use Rattle.std.specs.Prelude.{if◌then◌else◌}
use Rattle.std.proofs.lemmas.List.{drop_all}
use Rattle.std.proofs.lemmas.Option.{slice_get-get_or}
use Rattle.aas_lemmas.proofs.Lists.{drop_at}
use Rattle.serde_json.specs.Data.{Data}
use Rattle.aas_model.specs.Payload.{kind_of}
use Rattle.aas_model.specs.declared.element.Element.{Element, out-Element}
use Rattle.aas_model.specs.declared.patch.PatchRow.{PatchRow}
use Rattle.aas_model.specs.declared.path.Path.{Path}
use Rattle.aas_model.specs.declared.path.PathStep.{PathStep}
use Rattle.aas_model.specs.declared.path.PathStep.TheVariants as step
use Rattle.aas_model.specs.declared.payload.Payload.{Payload}
use Rattle.aas_model_names.specs.declared.kind.Kind.{Kind}
use Rattle.aas_model_text.specs.declared.NoMemory.{NoMemory}
use Rattle.aas_constraint_rules.specs.Sites.{Own, own_of, is_list, stands_in_list, step_to, named_or}
use Rattle.aas_json_mapping.proofs.Elements.{made_out}
use Rattle.aas_json_spelling.specs.Values.{IsOrdered}
use Rattle.aas_json_table.specs.Rows.{first_of}
use Rattle.aas_path_trees.specs.Children.{kids_of, is_list_payload}
use Rattle.aas_path_trees.specs.Patched.{kinds, kinds_of_all}
use Rattle.aas_path_trees.proofs.Patches.{kinds_out}
use Rattle.aas_path_trees.specs.Places.{element_in, Differ}
use Rattle.aas_value.specs.Children.{Child}
use Rattle.aas_value.specs.ValueForm.{shows_children}
use Rattle.aas_value_update.specs.Forms.{form_of, part_of}
use Rattle.aas_value_update.specs.Laws.{IsInOrder}
use Rattle.aas_value.specs.Parts.{children, fits_form}
use Rattle.aas_value_update.specs.Shape.{Sendable, sendable, among, sent, first_misshapen}
use Rattle.aas_value_update.specs.Took.{NamedIn}
use Rattle.aas_value_update.proofs.Judged.{own_same, misshapen_at}
use Rattle.aas_value_update.proofs.OneForm.{named_in}
use Rattle.aas_value_update.proofs.Order.{order_below}
use Rattle.aas_value_patch.specs.Faults.{Refuses, Shapes, fault_here}
use Rattle.aas_value_patch.specs.Gathered.{SoFar, Gathered, GatheredAll, Reached, AllInOrder, IfOrdered}
use Rattle.aas_value_patch.specs.Gathered.{AllOrdered, misshapen}
use Rattle.aas_value_patch.specs.Sent.{sent_by}
use Rattle.aas_value_patch.specs.Steps.{IsStep}
use Rattle.aas_value_patch.specs.Takes.{Takes}
use Rattle.aas_value_patch.specs.declared.fault.Misfit.{Misfit}
use Rattle.aas_value_patch.specs.declared.fault.Misfit.TheVariants as misfit
use Rattle.aas_value_patch.specs.declared.preparing.ValueFault.{ValueFault}
use Rattle.aas_value_patch.specs.declared.preparing.ValueFault.TheVariants as fault
use Rattle.aas_value_patch.specs.declared.sent.Sent.{Sent}
use Rattle.aas_value_patch.specs.declared.sent.Sent.TheVariants as to
use Rattle.aas_value_patch.specs.declared.step.Step.{Step}
use Rattle.aas_value_patch.proofs.Preorder.{taken_here, skipped, reach_on, reach_end}
use Rattle.aas_value_patch.proofs.Rows.{pushed}
use Rattle.aas_value_patch.proofs.Ordered.{sent_ordered}

-- ---- what order gives

pub kids_differ : (e : Element)
    → IsInOrder e → shows_children (out-Element e).payload ≡ true → is_list_payload (out-Element e).payload ≡ false
    → Differ (kids_of e)
unfolding element_in
kids_differ e order shows none = order.names [] e refl shows none

pub kids_named : (e : Element) → IsInOrder e → NamedIn (out-Element e).payload (map part_of (kids_of e))
kids_named e order = named_in (out-Element e).payload (kids_of e) (kids_differ e order)

pub kids_in_order : (e : Element) → IsInOrder e → AllInOrder (kids_of e)
kids_in_order e order = λ i k there. order_below e order i k there

-- ---- the shape, one level at a time

pub misshapen_here : (e : Element) (v : Data)
    → fits_form (form_of (out-Element e).payload (map part_of (kids_of e))) v ≡ false → first_misshapen e v ≡ Some []
misshapen_here e v fits =
    misshapen_at e v
    ∙ ap (λ b. if b then among (own_of e) 0 (map sendable (kids_of e))
    (sent (out-Element e).payload (children (map part_of (kids_of e))) v)
    else Some []) fits

pub misfit_here : (m : Misfit) (e : Element) (v : Data)
    → Refuses m (fits_form (form_of (out-Element e).payload (map part_of (kids_of e))) v)
    → Shapes {A = ℕ} (Err (fault_here m)) (first_misshapen e v)
misfit_here misfit.Shape e v unfit = misshapen_here e v unfit
misfit_here misfit.NoMemory e v any = tt

pub shape_below : (r : Result ℕ ValueFault) (e : Element) (v : Data) (s : Step)
    → IsStep (out-Element e).payload (map part_of (kids_of e)) v s → IsInOrder e
    → IsOrdered v
    → ((o : Own) → is_list o.payload ≡ stands_in_list (Some (own_of e)) → AllInOrder (kids_of e)
    → AllOrdered (sent_by s.kids (children (map part_of (kids_of e))))
    → Shapes r (among o 0 (map sendable (kids_of e)) (sent_by s.kids (children (map part_of (kids_of e))))))
    → Shapes r (first_misshapen e v)
shape_below r e v s step order ordered below =
    let kids = sent_ordered (out-Element e).payload (children (map part_of (kids_of e))) v ordered in
    let shown = below (own_of e) refl (kids_in_order e order) (subst AllOrdered (sym step.kids) kids) in
    subst (Shapes r)
    (sym (misshapen_at e v ∙ ap (λ b. if b then among (own_of e) 0 (map sendable (kids_of e))
    (sent (out-Element e).payload (children (map part_of (kids_of e))) v) else Some []) step.fits))
    (subst (λ ss. Shapes r (among (own_of e) 0 (map sendable (kids_of e)) ss)) step.kids shown)

-- ---- the rows, one level at a time

pub skip_rows : (e : Element) (seen : List Kind) (rows : List PatchRow) (rank after : ℕ)
    → length seen ≡ rank → SoFar seen rows
    → after ≡ rank + length (kinds e)
    → (after ≡ length (seen ++ kinds e)) × Gathered e None seen rows rows
skip_rows e seen rows rank after at so is =
    let size = length-append seen (kinds e) in
    (omega (arith, size), skipped e seen rows so)

taken_out : (e : Element) (v : Data) (q : PatchRow) (seen : List Kind) (old mid new : List PatchRow)
    → SoFar seen old → q.rank ≡ length seen
    → mid ≡ old ++ q ∷ []
    → IsInOrder e → (s : Step) → IsStep (out-Element e).payload (map part_of (kids_of e)) v s → s.payload ≡ q.payload
    → GatheredAll (kids_of e) (sent_by s.kids (children (map part_of (kids_of e))))
    (seen ++ kind_of q.payload ∷ []) mid new
    → Gathered e (Some v) seen old new
taken_out e v q seen old mid new so is push order s step same more =
    let x = out-Element e in
    subst (λ z. Gathered z (Some v) seen old new) (made_out e)
    (taken_here x.role x.common x.payload x.kids v q seen old mid new so is push step.fits
    (kids_named e order) (subst (Takes x.payload v) same step.takes)
    (subst (λ ss. GatheredAll (kids_of e) ss (seen ++ kind_of q.payload ∷ []) mid new) step.kids more))

pub rows_below : (e : Element) (v : Data) (s : Step) (q : Payload) (old mid new : List PatchRow) (rank next after : ℕ)
    → IsInOrder e → IsOrdered v
    → IsStep (out-Element e).payload (map part_of (kids_of e)) v s
    → q ≡ s.payload → mid ≡ old ++ record { rank = rank; payload = q } ∷ [] → next ≡ rank + 1
    → (AllInOrder (kids_of e) → AllOrdered (sent_by s.kids (children (map part_of (kids_of e)))) → (now : List Kind)
    → length now ≡ next → SoFar now mid
    → (after ≡ length (now ++ kinds_of_all (kids_of e)))
    × GatheredAll (kids_of e) (sent_by s.kids (children (map part_of (kids_of e)))) now mid new)
    → (seen : List Kind) → length seen ≡ rank → SoFar seen old
    → (after ≡ length (seen ++ kinds e)) × Gathered e (Some v) seen old new
rows_below e v s q old mid new rank next after order ordered step payload push behind below seen at so =
    let row : PatchRow = record { rank = rank; payload = q } in
    let size = length-append seen (kind_of q ∷ []) in
    let kids = subst AllOrdered (sym step.kids)
    (sent_ordered (out-Element e).payload (children (map part_of (kids_of e))) v ordered) in
    let mids = subst (SoFar (seen ++ kind_of q ∷ [])) (sym push) (pushed seen old row so (sym at)) in
    let more = below (kids_in_order e order) kids (seen ++ kind_of q ∷ []) (omega (arith, size)) mids in
    let sizes = length-append (seen ++ kind_of q ∷ []) (kinds_of_all (kids_of e)) in
    let whole = length-append seen (kinds e) in
    let own = ap length (kinds_out e) in (
      omega (arith, more.0, sizes, size, whole, own),
      taken_out e v row seen old mid new so (sym at) push order s step (sym payload) more.1,
    )

-- ---- along children

there_at : (ks : List Element) (i : ℕ) (k : Element) → i < length ks → k ≡ get_or ks i k → slice_get ks i ≡ Some k
there_at ks i k lt at = slice_get-get_or ks i k lt ∙ ap (λ (x : Element). Some x) (sym at)

pub kid_order : (ks : List Element) (i : ℕ) (k : Element)
    → i < length ks → k ≡ get_or ks i k → AllInOrder ks → IsInOrder k
kid_order ks i k lt at all = all i k (there_at ks i k lt at)

-- what is sent for the first child and for the rest
turned : (ks : List Element) (i : ℕ) (k : Element) (f g : List Child → List (Option Data)) (s : Option Data)
    → i < length ks → k ≡ get_or ks i k
    → ((cs : List Child) → f ((part_of k).child ∷ cs) ≡ s ∷ g cs)
    → f (children (map part_of (drop i ks))) ≡ s ∷ g (children (map part_of (drop (i + 1) ks)))
turned ks i k f g s lt at next =
    ap (λ l. f (children (map part_of l))) (drop_at ks i k lt at) ∙ next (children (map part_of (drop (i + 1) ks)))

pub loop_order : (ks : List Element) (i : ℕ) (k : Element) (f g : List Child → List (Option Data)) (s : Option Data)
    → i < length ks → k ≡ get_or ks i k
    → ((cs : List Child) → f ((part_of k).child ∷ cs) ≡ s ∷ g cs) → AllOrdered (f (children (map part_of (drop i ks))))
    → IfOrdered s × AllOrdered (g (children (map part_of (drop (i + 1) ks))))
loop_order ks i k f g s lt at next order = subst AllOrdered (turned ks i k f g s lt at next) order

among_first : (o : Own) (n : ℕ) (k : Element) (ks : List Sendable) (s : Option Data) (ss : List (Option Data))
    → among o n (sendable k ∷ ks) (s ∷ ss)
    ≡ first_of (option_map (λ q. step_to (Some o) n (own_of k) ∷ q) (misshapen k s)) (among o (n + 1) ks ss)
among_first o n k ks None ss = refl
among_first o n k ks (Some v) ss =
    ap (λ z. first_of (option_map (λ q. step_to (Some o) n z ∷ q) ((sendable k).misshapen v)) (among o (n + 1) ks ss))
    (own_same k)

front_among : (o : Own) (ks : List Element) (i : ℕ) (k : Element)
    (f g : List Child → List (Option Data)) (s : Option Data)
    → i < length ks → k ≡ get_or ks i k
    → ((cs : List Child) → f ((part_of k).child ∷ cs) ≡ s ∷ g cs)
    → among o i (map sendable (drop i ks)) (f (children (map part_of (drop i ks))))
    ≡ first_of (option_map (λ q. step_to (Some o) i (own_of k) ∷ q) (misshapen k s))
    (among o (i + 1) (map sendable (drop (i + 1) ks)) (g (children (map part_of (drop (i + 1) ks)))))
front_among o ks i k f g s lt at next =
    ap₂ (λ l ss. among o i (map sendable l) ss) (drop_at ks i k lt at) (turned ks i k f g s lt at next)
    ∙ among_first o i k (map sendable (drop (i + 1) ks)) s (g (children (map part_of (drop (i + 1) ks))))

pub loop_shape : (o : Own) (ks : List Element) (i : ℕ) (k : Element)
    (f g : List Child → List (Option Data)) (s : Option Data) (all : Option (List PathStep))
    → i < length ks → k ≡ get_or ks i k
    → ((cs : List Child) → f ((part_of k).child ∷ cs) ≡ s ∷ g cs)
    → all ≡ among o i (map sendable (drop i ks)) (f (children (map part_of (drop i ks))))
    → misshapen k s ≡ None
    → all ≡ among o (i + 1) (map sendable (drop (i + 1) ks)) (g (children (map part_of (drop (i + 1) ks))))
loop_shape o ks i k f g s all lt at next so_far none =
    so_far ∙ front_among o ks i k f g s lt at next
    ∙ ap (λ m. first_of (option_map (λ q. step_to (Some o) i (own_of k) ∷ q) m)
    (among o (i + 1) (map sendable (drop (i + 1) ks)) (g (children (map part_of (drop (i + 1) ks)))))) none

pub loop_fault : (o : Own) (a : Option Own) (ks : List Element) (i : ℕ)
    (k : Element) (f g : List Child → List (Option Data)) (s : Option Data)
    (all : Option (List PathStep)) (q : List PathStep)
    → is_list o.payload ≡ stands_in_list a → i < length ks → k ≡ get_or ks i k
    → ((cs : List Child) → f ((part_of k).child ∷ cs) ≡ s ∷ g cs)
    → all ≡ among o i (map sendable (drop i ks)) (f (children (map part_of (drop i ks))))
    → misshapen k s ≡ Some q
    → all ≡ Some (step_to a i (own_of k) ∷ q)
loop_fault o a ks i k f g s all q same lt at next so_far some =
    so_far ∙ front_among o ks i k f g s lt at next
    ∙ ap (λ m. first_of (option_map (λ q. step_to (Some o) i (own_of k) ∷ q) m)
    (among o (i + 1) (map sendable (drop (i + 1) ks)) (g (children (map part_of (drop (i + 1) ks)))))) some
    ∙ ap (λ b.
    let p : Option (List PathStep) = Some ((if b then place i else named_or (own_of k).common.id_short i) ∷ q) in p)
    same
  where
    place : ℕ → PathStep
    place n = step.Place n

pub kid_shown : (m : ValueFault) (ks : List Element) (i : ℕ) (k : Element) (f g : List Child → List (Option Data))
    (s : Option Data) → i < length ks → k ≡ get_or ks i k
    → ((cs : List Child) → f ((part_of k).child ∷ cs) ≡ s ∷ g cs)
    → (IsInOrder k → IfOrdered s → Shapes {A = ℕ} (Err m) (misshapen k s))
    → AllInOrder ks → AllOrdered (f (children (map part_of (drop i ks)))) → Shapes {A = ℕ} (Err m) (misshapen k s)
kid_shown m ks i k f g s lt at next walk all sent =
    walk (kid_order ks i k lt at all) (loop_order ks i k f g s lt at next sent).0

-- a fault that is no wrong shape says nothing of where one is
pub unshaped : (m : ValueFault) (a b : Option (List PathStep)) → ((path : Path) → m ≡ fault.Shape path → ⊥)
    → Shapes {A = ℕ} (Err m) a → Shapes {A = ℕ} (Err m) b
unshaped (fault.Shape path) a b other h = absurd (other path refl)
unshaped fault.NoMemory a b other h = tt
unshaped _ a b other h = absurd h

pub loop_end : (o : Own) (ks : List Element) (i : ℕ) (ss : List (Option Data)) (all : Option (List PathStep))
    → length ks ≤ i
    → all ≡ among o i (map sendable (drop i ks)) ss → all ≡ None
loop_end o ks i ss all le so_far = so_far ∙ ap (λ l. among o i (map sendable l) ss) (drop_all i ks le)

pub loop_rows : (ks : List Element) (ss : List (Option Data))
    (seen : List Kind) (old : List PatchRow) (i : ℕ) (k : Element)
    (f g : List Child → List (Option Data)) (s : Option Data)
    (rank after : ℕ) (rows new : List PatchRow)
    → i < length ks → k ≡ get_or ks i k → ((cs : List Child) → f ((part_of k).child ∷ cs) ≡ s ∷ g cs)
    → Reached ks ss seen old (drop i ks) (f (children (map part_of (drop i ks)))) rank rows
    → ((now : List Kind)
    → length now ≡ rank → SoFar now rows → (after ≡ length (now ++ kinds k)) × Gathered k s now rows new)
    → Reached ks ss seen old (drop (i + 1) ks) (g (children (map part_of (drop (i + 1) ks)))) after new
loop_rows ks ss seen old i k f g s rank after rows new lt at next so_far step =
    let front = subst (λ l. Reached ks ss seen old l (f (children (map part_of (drop i ks)))) rank rows)
    (drop_at ks i k lt at) so_far in
    reach_on ks ss seen old k (drop (i + 1) ks) s (g (children (map part_of (drop (i + 1) ks)))) rank after rows new
    (subst (λ l. Reached ks ss seen old (k ∷ drop (i + 1) ks) l rank rows) (turned ks i k f g s lt at next) front) step

-- ---- answers

pub counted_below : (r : Result ℕ NoMemory) (e : Element) (rank next : ℕ) → next ≡ rank + 1
    → IfOk r (λ after. after ≡ next + length (kinds_of_all (kids_of e)))
    → IfOk r (λ after. after ≡ rank + length (kinds e))
counted_below (Ok after) e rank next is h = let own = ap length (kinds_out e) in omega (arith, own, is, h)
counted_below (Err m) e rank next is h = tt

pub if_ok : (r : Result ℕ ValueFault) (P Q : ℕ → Type 0) → ((after : ℕ) → P after → Q after) → IfOk r P → IfOk r Q
if_ok (Ok after) P Q f h = f after h
if_ok (Err m) P Q f h = tt

pub walk_end : (ks all : List Element) (f g : List Child → List (Option Data))
    (rank : ℕ) (old : List PatchRow) (i after : ℕ) (rows : List PatchRow)
    → ks ≡ all → ((l : List Child) → l ≡ [] → g l ≡ []) → length ks ≤ i
    → (AllInOrder ks → AllOrdered (f (children (map part_of ks))) → (seen : List Kind)
    → length seen ≡ rank → SoFar seen old
    → Reached ks (f (children (map part_of ks))) seen old
    (drop i ks) (g (children (map part_of (drop i ks)))) after rows)
    → AllInOrder all → AllOrdered (f (children (map part_of all))) → (seen : List Kind)
    → length seen ≡ rank → SoFar seen old
    → (after ≡ length (seen ++ kinds_of_all all)) × GatheredAll all (f (children (map part_of all))) seen old rows
walk_end ks all f g rank old i after rows same none le so_far order ordered seen at so =
    subst (λ (l : List Element).
    (after ≡ length (seen ++ kinds_of_all l)) × GatheredAll l (f (children (map part_of l))) seen old rows)
    same
    (reach_end ks (f (children (map part_of ks))) seen old after rows
    (subst (λ (z : List Element × List (Option Data)).
    Reached ks (f (children (map part_of ks))) seen old z.0 z.1 after rows)
    (ap₂ (λ (x : List Element) (y : List (Option Data)). let p : List Element × List (Option Data) = (x, y) in p)
    (drop_all i ks le)
    (none (children (map part_of (drop i ks))) (ap (λ l. children (map part_of l)) (drop_all i ks le))))
    (so_far (subst AllInOrder (sym same) order)
    (subst (λ l. AllOrdered (f (children (map part_of l)))) (sym same) ordered) seen at so)))

-- nothing is sent for no children
pub none_left : (s : Sent) (l : List Child) → l ≡ [] → sent_by s l ≡ []
none_left s l e = ap (sent_by s) e ∙ by_sent s
  where
    by_sent : (s : Sent) → sent_by s [] ≡ []
    by_sent to.Nothing = refl
    by_sent (to.Members ms) = refl
    by_sent (to.InTurn vs) = refl
    by_sent (to.Entries vs) = refl
