-- The walk that judges a sent value finds nothing exactly where the value has the shape, and else the first element
-- that it doesn't fit.
use Rattle.std.proofs.Common.{◌≡◌, ℕ, zero, suc, ◌+◌, ◌<◌, Bool, true, false, List, [], ◌∷◌, map, Option, Some, None}
use Rattle.std.proofs.Common.{option_map, slice_get, refl, sym, ap, ap₂, ◌∙◌, subst, arith}
use Rattle.std.specs.Prelude.{if◌then◌else◌}
use Rattle.std.proofs.lemmas.Option.{same_Some}
use Rattle.serde_json.specs.Data.{Data}
use Rattle.aas_json_table.specs.Rows.{first_of}
use Rattle.aas_json_spelling.specs.Lists.{Each}
use Rattle.aas_json_spelling.proofs.Fits.{first_none, map_none}
use Rattle.aas_json_mapping.proofs.Elements.{made, made_out, by_children}
use Rattle.aas_model.specs.declared.common.Common.{Common}
use Rattle.aas_model.specs.declared.element.Element.{Element, out-Element}
use Rattle.aas_model.specs.declared.element.Element.TheFolds.{fold-roll-Element}
use Rattle.aas_model.specs.declared.element.Role.{Role}
use Rattle.aas_model.specs.declared.path.PathStep.{PathStep}
use Rattle.aas_model.specs.declared.payload.Payload.{Payload}
use Rattle.aas_constraint_rules.specs.Sites.{Own, own_of, step_to}
use Rattle.aas_path_trees.specs.Children.{kids_of}
use Rattle.aas_value_update.specs.Forms.{form_of, part_of}
use Rattle.aas_value.specs.ValueForm.{child_part}
use Rattle.aas_value_update.specs.Laws.{ShapeIsJudged, FirstMisfitIsFound}
use Rattle.aas_value.specs.Parts.{Part, children, fits_form}
use Rattle.aas_value_update.specs.Shape.{sent, form_at, HasShape, shaped, IsFirstMisfit, at_itself, in_child}
use Rattle.aas_value_update.specs.Shape.{Sendable, among, sendable_over, sendable, first_misshapen}
use Rattle.aas_value_update.proofs.Alone.{kids_made}
use Rattle.aas_value_update.proofs.Elements.{part_at}

-- ---- the walk, one level at a time

pub sendable_at : (r : Role) (c : Common) (x : Payload) (ks : List Element)
    → sendable (made r c x ks) ≡ sendable_over (record { common = c; payload = x; role = r; kids = map sendable ks })
unfolding sendable
sendable_at r c x ks =
    fold-roll-Element Sendable sendable_over (record { common = c; payload = x; role = r; kids = ks })

parts_are : (ks : List Element) → Each (λ k. (sendable k).part ≡ part_of k) ks
    → map (λ (k : Sendable). k.part) (map sendable ks) ≡ map part_of ks
parts_are [] each = refl
parts_are (k ∷ ks) each = ap₂ (λ x xs. x ∷ xs) each.0 (parts_are ks each.1)

part_is : (e : Element) → (sendable e).part ≡ part_of e
part_is = by_children (λ e. (sendable e).part ≡ part_of e) (λ r c x ks each.
    ap (λ (k : Sendable). k.part) (sendable_at r c x ks)
    ∙ ap (λ xs. child_part c.id_short (form_of x xs)) (parts_are ks each)
    ∙ sym (part_at r c x ks))

pub all_parts_are : (ks : List Element) → map (λ (k : Sendable). k.part) (map sendable ks) ≡ map part_of ks
all_parts_are [] = refl
all_parts_are (k ∷ ks) = ap₂ (λ x xs. x ∷ xs) (part_is k) (all_parts_are ks)

pub misshapen_made : (r : Role) (c : Common) (x : Payload) (ks : List Element) (v : Data)
    → first_misshapen (made r c x ks) v
    ≡ (if fits_form (form_of x (map part_of ks)) v
    then among (record { common = c; payload = x; role = r }) 0 (map sendable ks) (sent x (children (map part_of ks)) v)
    else Some [])
misshapen_made r c x ks v =
    ap (λ (k : Sendable). k.misshapen v) (sendable_at r c x ks)
    ∙ ap (λ (xs : List Part). if fits_form (form_of x xs) v
    then among (record { common = c; payload = x; role = r }) 0 (map sendable ks) (sent x (children xs) v) else Some [])
    (all_parts_are ks)

-- what v has for the children of e
abbrev sent_for : Element → Data → List (Option Data)
sent_for e v = sent (out-Element e).payload (children (map part_of (kids_of e))) v

-- what is found by the element's own part of v
abbrev found_at : Element → Data → Bool → Option (List PathStep)
found_at e v fits = if fits then among (own_of e) 0 (map sendable (kids_of e)) (sent_for e v) else Some []

pub misshapen_at : (e : Element) (v : Data) → first_misshapen e v ≡ found_at e v (fits_form (form_at e) v)
misshapen_at e v =
    let x = out-Element e in
    ap (λ z. first_misshapen z v) (sym (made_out e)) ∙ misshapen_made x.role x.common x.payload x.kids v

pub own_same : (e : Element) → (sendable e).own ≡ own_of e
own_same e =
    let x = out-Element e in
    ap (λ z. (sendable z).own) (sym (made_out e))
    ∙ ap (λ (k : Sendable). k.own) (sendable_at x.role x.common x.payload x.kids)

-- ---- what has the shape has no misfit

none_among : (o : Own) (n : ℕ) (ks : List Element) (ss : List (Option Data))
    → ((m : ℕ) (k : Element) (d : Data)
    → slice_get ks m ≡ Some k → slice_get ss m ≡ Some (Some d) → first_misshapen k d ≡ None)
    → among o n (map sendable ks) ss ≡ None
none_among o n [] ss each = refl
none_among o n (k ∷ ks) [] each = refl
none_among o n (k ∷ ks) (None ∷ ss) each = none_among o (n + 1) ks ss (λ m. each (suc m))
none_among o n (k ∷ ks) (Some d ∷ ss) each =
    ap (λ f.
    first_of (option_map (λ q. step_to (Some o) n (sendable k).own ∷ q) f) (among o (n + 1) (map sendable ks) ss))
    (each zero k d refl refl)
    ∙ none_among o (n + 1) ks ss (λ m. each (suc m))

clear : {e : Element} {v : Data} → HasShape e v → first_misshapen e v ≡ None
clear (shaped e v own each) =
    misshapen_at e v ∙ ap (found_at e v) own
    ∙ none_among (own_of e) 0 (kids_of e) (sent_for e v) (λ n k d at has.
    clear (each n k d (record { child = at; value = has })))

-- ---- and back

none_at : (o : Own) (n : ℕ) (ks : List Element) (ss : List (Option Data)) → among o n (map sendable ks) ss ≡ None
    → (m : ℕ) (k : Element) (d : Data)
    → slice_get ks m ≡ Some k → slice_get ss m ≡ Some (Some d) → first_misshapen k d ≡ None
none_at o n [] ss none m k d at has = absurd (cc)
none_at o n (j ∷ ks) [] none m k d at has = absurd (cc)
none_at o n (j ∷ ks) (None ∷ ss) none zero k d at has = absurd (cc)
none_at o n (j ∷ ks) (None ∷ ss) none (suc m) k d at has = none_at o (n + 1) ks ss none m k d at has
none_at o n (j ∷ ks) (Some w ∷ ss) none zero k d at has =
    let same : j ≡ k = cc in
    let is : w ≡ d = cc in
    sym (ap₂ first_misshapen same is) ∙ map_none _ _ (first_none _ _ none).0
none_at o n (j ∷ ks) (Some w ∷ ss) none (suc m) k d at has =
    none_at o (n + 1) ks ss (first_none _ _ none).1 m k d at has

each_at : (P : Element → Type 0) (ks : List Element) → Each P ks → (n : ℕ) (k : Element) → slice_get ks n ≡ Some k → P k
each_at P [] each n k at = absurd (cc)
each_at P (j ∷ ks) each zero k at = let same : j ≡ k = cc in subst P same each.0
each_at P (j ∷ ks) each (suc n) k at = each_at P ks each.1 n k at

-- an element's own part fits where nothing is found
own_fits : (e : Element) (v : Data) (b : Bool) → found_at e v b ≡ None → b ≡ true
own_fits e v true none = refl
own_fits e v false none = absurd (cc)

IsJudged : Element → Type 0
IsJudged e = (v : Data) → first_misshapen e v ≡ None → HasShape e v

level_judged : (e : Element) → Each IsJudged (kids_of e) → IsJudged e
unfolding IsJudged
level_judged e each v none =
    let own = own_fits e v (fits_form (form_at e) v) (sym (misshapen_at e v) ∙ none) in
    let all = none_at (own_of e) 0 (kids_of e) (sent_for e v) (sym (misshapen_at e v ∙ ap (found_at e v) own) ∙ none) in
    shaped e v own (λ n k d is. each_at IsJudged (kids_of e) each n k is.child d (all n k d is.child is.value))

judged : (e : Element) → IsJudged e
unfolding IsJudged
judged = by_children IsJudged (λ r c x ks each.
    level_judged (made r c x ks) (subst (Each IsJudged) (sym (kids_made r c x ks)) each))

pub shape_is_judged : ShapeIsJudged
unfolding IsJudged
shape_is_judged e v = (λ shape. clear shape, judged e v)

-- ---- the first misfit is found

past_none : (o : Own) (n : ℕ) (k : Element) (ks : List Sendable) (s : Option Data) (ss : List (Option Data))
    → ((d : Data) → s ≡ Some d → first_misshapen k d ≡ None)
    → among o n (sendable k ∷ ks) (s ∷ ss) ≡ among o (n + 1) ks ss
past_none o n k ks None ss none = refl
past_none o n k ks (Some d) ss none =
    ap (λ f. first_of (option_map (λ q. step_to (Some o) n (sendable k).own ∷ q) f) (among o (n + 1) ks ss))
    (none d refl)

first_among : (o : Own) (i n : ℕ) (ks : List Element)
    (ss : List (Option Data)) (k : Element) (d : Data) (q : List PathStep)
    → slice_get ks n ≡ Some k → slice_get ss n ≡ Some (Some d) → first_misshapen k d ≡ Some q
    → ((m : ℕ) (j : Element) (w : Data)
    → m < n → slice_get ks m ≡ Some j → slice_get ss m ≡ Some (Some w) → first_misshapen j w ≡ None)
    → among o i (map sendable ks) ss ≡ Some (step_to (Some o) (i + n) (own_of k) ∷ q)
first_among o i n [] ss k d q at has found before = absurd (cc)
first_among o i n (j ∷ ks) [] k d q at has found before = absurd (cc)
first_among o i zero (j ∷ ks) (None ∷ ss) k d q at has found before = absurd (cc)
first_among o i zero (j ∷ ks) (Some w ∷ ss) k d q at has found before =
    let same : j ≡ k = cc in
    let is : w ≡ d = cc in
    let here : i ≡ i + 0 = omega arith in
    ap (λ f.
    first_of (option_map (λ q. step_to (Some o) i (sendable j).own ∷ q) f) (among o (i + 1) (map sendable ks) ss))
    (ap₂ first_misshapen same is ∙ found)
    ∙ ap₂ (λ n z. let p : Option (List PathStep) = Some (step_to (Some o) n z ∷ q) in p) here
    (own_same j ∙ ap own_of same)
first_among o i (suc n) (j ∷ ks) (s ∷ ss) k d q at has found before =
    let there : i + 1 + n ≡ i + suc n = omega arith in
    past_none o i j (map sendable ks) s ss (λ w is. before zero j w (omega arith) refl (ap (λ z. Some z) is))
    ∙ first_among o (i + 1) n ks ss k d q at has found (λ m l w lt. before (suc m) l w (omega (arith, lt)))
    ∙ ap (λ n. let p : Option (List PathStep) = Some (step_to (Some o) n (own_of k) ∷ q) in p) there

found : {e : Element} {v : Data} {q : List PathStep} → IsFirstMisfit e v q → first_misshapen e v ≡ Some q
found (at_itself e v unfit) = misshapen_at e v ∙ ap (found_at e v) unfit
found (in_child e v n k d q own before is below) =
    let at : 0 + n ≡ n = omega arith in
    misshapen_at e v ∙ ap (found_at e v) own
    ∙ first_among (own_of e) 0 n (kids_of e) (sent_for e v) k d q is.child is.value (found below)
    (λ m j w lt there has. clear (before m j w lt (record { child = there; value = has })))
    ∙ ap (λ n. let p : Option (List PathStep) = Some (step_to (Some (own_of e)) n (own_of k) ∷ q) in p) at

-- ---- and what is found is one

-- where among children the walk has found p, counted from i
record IsFoundAmong (o : Own) (i : ℕ) (ks : List Element) (ss : List (Option Data)) (p : List PathStep) : Type 0 where
  rank : ℕ
  kid : Element
  value : Data
  path : List PathStep
  at : slice_get ks rank ≡ Some kid
  has : slice_get ss rank ≡ Some (Some value)
  misfit : first_misshapen kid value ≡ Some path
  before : (m : ℕ) (j : Element) (w : Data)
      → m < rank → slice_get ks m ≡ Some j → slice_get ss m ≡ Some (Some w) → first_misshapen j w ≡ None
  is : p ≡ step_to (Some o) (i + rank) (own_of kid) ∷ path

found_later : (o : Own) (i : ℕ) (k : Element) (ks : List Element)
    (s : Option Data) (ss : List (Option Data)) (p : List PathStep)
    → ((d : Data) → s ≡ Some d → first_misshapen k d ≡ None) → IsFoundAmong o (i + 1) ks ss p
    → IsFoundAmong o i (k ∷ ks) (s ∷ ss) p
found_later o i k ks s ss p none f =
    let there : i + 1 + f.rank ≡ i + suc f.rank = omega arith in
    record {
      rank = suc f.rank;
      kid = f.kid;
      value = f.value;
      path = f.path;
      at = f.at;
      has = f.has;
      misfit = f.misfit;
      before = before;
      is = f.is ∙ ap (λ n. step_to (Some o) n (own_of f.kid) ∷ f.path) there;
    }
  where
    before : (m : ℕ) (j : Element) (w : Data)
        → m < suc f.rank → slice_get (k ∷ ks) m ≡ Some j → slice_get (s ∷ ss) m ≡ Some (Some w)
        → first_misshapen j w ≡ None
    before zero j w lt at has =
        let same : k ≡ j = cc in
        sym (ap (λ z. first_misshapen z w) same) ∙ none w (same_Some s (Some w) has)
    before (suc m) j w lt at has = f.before m j w (omega (arith, lt)) at has

found_among : (o : Own) (i : ℕ) (ks : List Element) (ss : List (Option Data)) (p : List PathStep)
    → among o i (map sendable ks) ss ≡ Some p
    → IsFoundAmong o i ks ss p
found_among o i [] ss p e = absurd (cc)
found_among o i (k ∷ ks) [] p e = absurd (cc)
found_among o i (k ∷ ks) (None ∷ ss) p e =
    found_later o i k ks None ss p (λ d is. absurd (cc)) (found_among o (i + 1) ks ss p e)
found_among o i (k ∷ ks) (Some d ∷ ss) p e = by_first (first_misshapen k d) refl (found_among o (i + 1) ks ss p) e
  where
    by_first : (f : Option (List PathStep)) → first_misshapen k d ≡ f
        → (among o (i + 1) (map sendable ks) ss ≡ Some p → IsFoundAmong o (i + 1) ks ss p)
        → first_of (option_map (λ q. step_to (Some o) i (sendable k).own ∷ q) f) (among o (i + 1) (map sendable ks) ss)
        ≡ Some p
        → IsFoundAmong o i (k ∷ ks) (Some d ∷ ss) p
    by_first None is more e =
        found_later o i k ks (Some d) ss p (λ w same. sym (ap (first_misshapen k) (same_Some d w same)) ∙ is) (more e)
    by_first (Some q) is more e =
        let here : i ≡ i + 0 = omega arith in
        record {
          rank = 0;
          kid = k;
          value = d;
          path = q;
          at = refl;
          has = refl;
          misfit = is;
          before = λ m j w lt at has. absurd (omega (arith, lt));
          is = sym (same_Some _ _ e) ∙ ap₂ (λ n z. step_to (Some o) n z ∷ q) here (own_same k);
        }

IsNamed : Element → Type 0
IsNamed e = (v : Data) (q : List PathStep) → first_misshapen e v ≡ Some q → IsFirstMisfit e v q

level_named : (e : Element) → Each IsNamed (kids_of e) → IsNamed e
unfolding IsNamed IsJudged
level_named e each v q some = by_fit (fits_form (form_at e) v) refl (sym (misshapen_at e v) ∙ some)
  where
    by_fit : (b : Bool) → fits_form (form_at e) v ≡ b → found_at e v b ≡ Some q → IsFirstMisfit e v q
    by_fit false unfit is = subst (IsFirstMisfit e v) (same_Some [] q is) (at_itself e v unfit)
    by_fit true own is =
        let f = found_among (own_of e) 0 (kids_of e) (sent_for e v) q is in
        let at : 0 + f.rank ≡ f.rank = omega arith in
        subst (IsFirstMisfit e v) (sym (f.is ∙ ap (λ n. step_to (Some (own_of e)) n (own_of f.kid) ∷ f.path) at))
        (in_child e v f.rank f.kid f.value f.path own
        (λ m j w lt is. judged j w (f.before m j w lt is.child is.value))
        (record { child = f.at; value = f.has })
        (each_at IsNamed (kids_of e) each f.rank f.kid f.at f.value f.path f.misfit))

named : (e : Element) → IsNamed e
unfolding IsNamed
named = by_children IsNamed (λ r c x ks each.
    level_named (made r c x ks) (subst (Each IsNamed) (sym (kids_made r c x ks)) each))

pub first_misfit_is_found : FirstMisfitIsFound
unfolding IsNamed
first_misfit_is_found e v q = (λ misfit. found misfit, named e v q)
