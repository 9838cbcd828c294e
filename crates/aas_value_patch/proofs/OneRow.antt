-- A value laid over an element whose value form shows no children, and what the element breaks then.
use Rattle.std.proofs.Common.{◌≡◌, ℕ, ◌+◌, true, false, List, [], ◌∷◌, ◌++◌, map, flat_map, Option, Some, None}
use Rattle.std.proofs.Common.{IsSome, is_some, option_map, slice_get, refl, sym, ap, ap₂, ◌∙◌, subst}
use Rattle.std.specs.Prelude.{if◌then◌else◌, Result, Ok, Err, IfErr, IsErr, IsErrAnd}
use Rattle.std.specs.List.{list_all}
use Rattle.std.proofs.lemmas.List.{append-nil}
use Rattle.std.proofs.lemmas.List.Elements.{All-cons, All-nil}
use Rattle.aas_lemmas.proofs.Lists.{no_map}
use Rattle.aas_lemmas.proofs.Truth.{and_left}
use Rattle.serde_json.specs.Data.{Data}
use Rattle.aas_model.specs.Payload.{kind_of}
use Rattle.aas_model.specs.declared.element.Element.{Element, Element-F, out-Element, out-roll-Element}
use Rattle.aas_model.specs.declared.element.Element.{fold-Element, fold_out-Element}
use Rattle.aas_model.specs.declared.patch.PatchRow.{PatchRow}
use Rattle.aas_model.specs.declared.path.Fault.{Fault}
use Rattle.aas_model.specs.declared.payload.Payload.{Payload}
use Rattle.aas_model.specs.declared.payload.Payload.TheVariants as p
use Rattle.aas_model_names.specs.declared.modifiers.Extent.TheVariants as extent
use Rattle.aas_reference.specs.Rules.{failing, first}
use Rattle.aas_constraint_rules.specs.Faults.{fault}
use Rattle.aas_constraint_rules.specs.Rules.{holds_locally, rules}
use Rattle.aas_constraint_rules.specs.Sites.{Own, own_of, sites, sites_among, tree_of, trees}
use Rattle.aas_constraint_rules.proofs.Elements.{tree_out}
use Rattle.aas_constraint_laws.specs.Law.{local_faults, local_faults_at}
use Rattle.aas_constraints.specs.Own.{local_fault, payload_fault}
use Rattle.aas_constraints.proofs.Attributes.{payload_decides}
use Rattle.aas_json_mapping.specs.Whole.{Placed, admits, placed_over}
use Rattle.aas_json_mapping.proofs.Elements.{made_out}
use Rattle.aas_path_trees.specs.Children.{kids_of}
use Rattle.aas_path_trees.specs.Patched.{Fits, kinds, patched}
use Rattle.aas_path_trees.proofs.Patches.{kinds_out}
use Rattle.aas_value.specs.Children.{Child}
use Rattle.aas_value.specs.ValueForm.{shows_children, value_form}
use Rattle.aas_value_update.specs.Forms.{form_of, part_of}
use Rattle.aas_value_update.specs.LeftAlone.{has_value}
use Rattle.aas_value.specs.Parts.{Part, children, fits_form, value}
use Rattle.aas_value_update.specs.Shape.{Sendable, among, first_misshapen, nothing_sent, sendable, sent}
use Rattle.aas_value_update.specs.Update.{IsElementUpdate}
use Rattle.aas_value_update.proofs.Elements.{part_at}
use Rattle.aas_value_update.proofs.Judged.{misshapen_at}
use Rattle.aas_value_patch.specs.Childless.{IsLaid, RefusesLaying, row_of}
use Rattle.aas_value_patch.specs.Gathered.{AreTaken, HasTaken}
use Rattle.aas_value_patch.specs.Prepared.{Bears, IsPreparedFor, IsValueFault, fault_by}
use Rattle.aas_value_patch.specs.Takes.{Takes}
use Rattle.aas_value_patch.specs.declared.preparing.ValueFault.{ValueFault}
use Rattle.aas_value_patch.specs.declared.preparing.ValueFault.TheVariants as fault_is
use Rattle.aas_value_patch.proofs.Faultless.{broken, no_first}
use Rattle.aas_value_patch.proofs.Leaf.{leaf_patched, with_payload}
use Rattle.aas_value_patch.proofs.Level.{level_taken}
use Rattle.aas_value_patch.proofs.Preorder.{same_kind}
use Rattle.aas_value_patch.proofs.Updated.{updated}
use Rattle.aas_value_patch.proofs.Walk.{kids_named, misshapen_here}

-- ---- its value form

has_values : (e : Element) → is_some (part_of e).child.form ≡ true → has_value (out-Element e).payload ≡ true
has_values e there =
    let x = out-Element e in
    let out = ap part_of (sym (made_out e)) ∙ part_at x.role x.common x.payload x.kids in
    by_kind x.payload (map part_of x.kids) (sym (ap (λ (q : Part). is_some q.child.form) out) ∙ there)
  where
    by_kind : (x : Payload) (xs : List Part) → is_some (value (form_of x xs)) ≡ true → has_value x ≡ true
    by_kind p.Capability xs there = absurd (cc)
    by_kind p.Operation xs there = absurd (cc)
    by_kind x xs there = refl

-- ---- nothing is sent to children

none_sent : (x : Payload) (cs : List Child) (v : Data) → shows_children x ≡ false → sent x cs v ≡ nothing_sent cs
none_sent (p.AnnotatedRelationshipElement a b) cs v s = absurd (cc)
none_sent (p.Entity t g ids) cs v s = absurd (cc)
none_sent p.SubmodelElementCollection cs v s = absurd (cc)
none_sent (p.SubmodelElementList a b c d) cs v s = absurd (cc)
none_sent p.Capability cs v s = refl
none_sent _ cs v s = refl

all_stay : (ks : List Element) → AreTaken ks (nothing_sent (children (map part_of ks))) ks
all_stay [] = tt
all_stay (k ∷ ks) = (refl, all_stay ks)

none_among : (o : Own) (ks : List Sendable) (cs : List Child) (n : ℕ) → among o n ks (nothing_sent cs) ≡ None
none_among o [] cs n = refl
none_among o (k ∷ ks) [] n = refl
none_among o (k ∷ ks) (c ∷ cs) n = none_among o ks cs (n + 1)

-- ---- the update

module _ (e : Element) (x : Payload) (v : Data) (bears : Bears x e) (hides : shows_children x ≡ false)
    (there : is_some (part_of e).child.form ≡ true) where
  abbrev HasFit : Type 0
  HasFit = (xs : List Part) → fits_form (form_of x xs) v ≡ true

  own_hides : shows_children (out-Element e).payload ≡ false
  own_hides = ap shows_children bears.payload ∙ hides

  fit : HasFit → fits_form (form_of (out-Element e).payload (map part_of (kids_of e))) v ≡ true
  fit fits =
      ap (λ (y : Payload). fits_form (form_of y (map part_of (kids_of e))) v) bears.payload
      ∙ fits (map part_of (kids_of e))

  none_found : HasFit → first_misshapen e v ≡ None
  none_found fits =
      let cs = children (map part_of (kids_of e)) in
      misshapen_at e v
      ∙ ap₂ (λ b (ss : List (Option Data)). if b then among (own_of e) 0 (map sendable (kids_of e)) ss else Some [])
      (fit fits) (none_sent (out-Element e).payload cs v own_hides)
      ∙ none_among (own_of e) (map sendable (kids_of e)) cs 0

  taken : (y : Payload) → HasFit → Takes x v y → HasTaken e v (with_payload e y)
  taken y fits takes =
      let o = out-Element e in
      subst (λ (z : Element). HasTaken z v (with_payload e y)) (made_out e)
      (level_taken o.role o.common o.payload y o.kids o.kids v (fit fits) (kids_named e bears.order)
      (subst (λ (z : Payload). Takes z v y) (sym bears.payload) takes)
      (subst (λ (ss : List (Option Data)). AreTaken o.kids ss o.kids)
      (sym (none_sent o.payload (children (map part_of o.kids)) v own_hides)) (all_stay o.kids)))

  laid_update : (y : Payload) → HasFit → Takes x v y → IsElementUpdate e v (with_payload e y)
  laid_update y fits takes = updated e (with_payload e y) v there (none_found fits) (taken y fits takes)

  -- ---- it stands alone

  no_kids : kids_of e ≡ []
  no_kids =
      let o = out-Element e in
      none_of o.kids
      (none_under o.payload (map (λ k. placed_of k) o.kids) own_hides (has_values e there)
      (and_left _ _ (and_left _ _
      (sym (ap (λ (q : Placed). q.placed) (fold_out-Element Placed placed_over e)) ∙ bears.order.placed))))
    where
      placed_of : Element → Placed
      placed_of k = fold-Element Placed placed_over k

      none_under : (x : Payload) (cs : List Placed)
          → shows_children x ≡ false → has_value x ≡ true → list_all (admits x) cs ≡ true → cs ≡ []
      none_under x [] hides has all = refl
      none_under (p.AnnotatedRelationshipElement a b) (c ∷ cs) hides has all = absurd (cc)
      none_under (p.Entity t g ids) (c ∷ cs) hides has all = absurd (cc)
      none_under p.SubmodelElementCollection (c ∷ cs) hides has all = absurd (cc)
      none_under (p.SubmodelElementList a b t d) (c ∷ cs) hides has all = absurd (cc)
      none_under p.Capability (c ∷ cs) hides has all = absurd (cc)
      none_under p.Operation (c ∷ cs) hides has all = absurd (cc)
      none_under _ (c ∷ cs) hides has all = absurd (cc)

      none_of : (ks : List Element) → map (λ k. placed_of k) ks ≡ [] → ks ≡ []
      none_of [] is = refl
      none_of (k ∷ ks) is = absurd (cc)

-- ---- what it breaks

leaf_faults : (u : Element)
    → kids_of u ≡ [] → local_faults u ≡ map (fault []) (failing (λ s. holds_locally s (own_of u)) rules)
unfolding sites sites_among
leaf_faults u none =
    ap (λ t. flat_map local_faults_at (sites true None [] t)) (tree_out u)
    ∙ ap (λ (ks : List Element). map (fault []) (failing (λ s. holds_locally s (own_of u)) rules)
    ++ flat_map local_faults_at (sites_among true (Some (own_of u)) [] (trees (map tree_of ks)))) none
    ∙ append-nil (map (fault []) (failing (λ s. holds_locally s (own_of u)) rules))

first_leaf_fault : (u : Element)
    → kids_of u ≡ [] → first (local_faults u) ≡ option_map (fault []) (local_fault (own_of u))
first_leaf_fault u none = ap first (leaf_faults u none) ∙ first_map (failing (λ s. holds_locally s (own_of u)) rules)
  where
    first_map : (ns : List ℕ) → first (map (fault []) ns) ≡ option_map (fault []) (first ns)
    first_map [] = refl
    first_map (n ∷ ns) = refl

-- an element that breaks nothing by itself breaks with other attributes of its kind what these break
pub breaks_then : (e : Element) (y : Payload) → kids_of e ≡ [] → local_faults e ≡ []
    → first (local_faults (with_payload e y)) ≡ option_map (fault []) (payload_fault y)
breaks_then e y none faultless =
    let out = out-roll-Element (record (out-Element e) { payload = y }) in
    let own : own_of (with_payload e y) ≡ record (own_of e) { payload = y } =
    ap (λ (m : Element-F Element). let o : Own = record { common = m.common; payload = m.payload; role = m.role } in o)
    out in
    first_leaf_fault (with_payload e y) (ap (λ (m : Element-F Element). m.kids) out ∙ none)
    ∙ ap (λ (o : Own). option_map (fault []) (local_fault o)) own
    ∙ ap (option_map (fault [])) (payload_decides (own_of e) y nothing)
  where
    nothing : local_fault (own_of e) ≡ None
    nothing = ap first
        (no_map (fault []) (failing (λ s. holds_locally s (own_of e)) rules) (sym (leaf_faults e none) ∙ faultless))

-- ---- what is prepared

module _ (e : Element) (x : Payload) (v : Data) (rows : List PatchRow)
    (bears : Bears x e) (hides : shows_children x ≡ false)
    (form : is_some (value_form extent.WithBlobValue e) ≡ true) (is : IsLaid x v rows) where
  alone : kids_of e ≡ []
  alone = no_kids e x v bears hides form

  abbrev new : Element
  new = with_payload e is.payload

  abbrev Agrees : PatchRow → Type 0
  Agrees r = slice_get (kinds e) r.rank ≡ Some (kind_of r.payload)

  fits : Fits (kinds e) rows
  fits =
      subst (Fits (kinds e)) (sym is.row) (record {
        rising = tt;
        kinds_agree = All-cons Agrees (record { rank = 0; payload = is.payload }) []
            (ap (λ l. slice_get l 0) (kinds_out e) ∙ ap (λ (y : Payload). Some (kind_of y)) bears.payload
            ∙ ap Some (sym (same_kind x is.payload is.takes.rest))) (All-nil Agrees);
      })

  patched_is : (patched rows e 0).0 ≡ new
  patched_is = ap (λ (l : List PatchRow). (patched l e 0).0) is.row ∙ leaf_patched e is.payload alone

  update : IsElementUpdate e v new
  update = laid_update e x v bears hides form is.payload is.fits is.takes

  pub prepared : payload_fault is.payload ≡ None → IsPreparedFor e v rows
  prepared none = record {
    fits = fits;
    update = subst (IsElementUpdate e v) (sym patched_is) update;
    faultless =
        ap local_faults patched_is
        ∙ no_first (local_faults new)
        (sym (breaks_then e is.payload alone bears.faultless ∙ ap (option_map (fault [])) none));
  }

  pub broken_by : (n : ℕ) (f : Fault)
      → f ≡ fault [] n → payload_fault is.payload ≡ Some n → IsValueFault e v (fault_by f)
  broken_by n f same some =
      broken e new v f update
      (ap Some same ∙ sym (breaks_then e is.payload alone bears.faultless ∙ ap (option_map (fault [])) some))

-- ---- what is refused

pub refused : (e : Element) (x : Payload) (v : Data) (f : ValueFault)
    → Bears x e → is_some (value_form extent.WithBlobValue e) ≡ true
    → RefusesLaying x v f
    → IsValueFault e v f
refused e x v (fault_is.Shape path) bears form refuses = (
  some (value_form extent.WithBlobValue e) form,
  misshapen_here e v
      (ap (λ (y : Payload). fits_form (form_of y (map part_of (kids_of e))) v) bears.payload
      ∙ refuses.1 (map part_of (kids_of e)))
      ∙ ap Some (sym refuses.0),
)
  where
    some : (f : Option Data) → is_some f ≡ true → IsSome f
    some None e = absurd (cc)
    some (Some d) e = refl
refused e x v fault_is.NoMemory bears form any = tt
refused e x v _ bears form none = absurd none

-- ---- parts of the code

pub handed_on : {A : Type 0} (r : Result A ValueFault) (x : Payload) (v : Data) (f : ValueFault)
    → IsErr r × IsErrAnd r (λ g. g ≡ f) → RefusesLaying x v f
    → ((e : Element) → Bears x e → is_some (value_form extent.WithBlobValue e) ≡ true)
    → IfErr r (λ g. (e : Element) → Bears x e → IsValueFault e v g)
handed_on (Ok a) x v f given refuses form = tt
handed_on (Err g) x v f given refuses form = λ e bears.
    subst (IsValueFault e v) (sym given.1) (refused e x v f bears (form e bears) refuses)

pub fault_of_row : (rows : List PatchRow) (x y : Payload) (found : Option PatchRow) (row : PatchRow) → rows ≡ row_of x
    → found ≡ slice_get rows 0 → found ≡ Some row
    → row.payload ≡ x
fault_of_row rows x y found row is at some =
    ap (λ (o : Option PatchRow). payload_of o) (sym some ∙ at ∙ ap (λ l. slice_get l 0) is)
  where
    payload_of : Option PatchRow → Payload
    payload_of None = y
    payload_of (Some r) = r.payload
