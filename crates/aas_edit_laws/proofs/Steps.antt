-- Which child a step leads to, where a sibling is another, is taken out, or comes behind.
use Rattle.std.proofs.Common.{◌≡◌, ◌≢◌, ℕ, suc, ◌<◌, ◌-◌, Bool, true, false, cond, if◌then◌else◌, nat_lt, List, ◌++◌, length, Option, Some, None}
use Rattle.std.proofs.Common.{bytes_eq, option_and_then, option_map, slice_get, slice_set, refl, sym, ap, ◌∙◌, true≢false, arith}
use Rattle.std.specs.Prelude.{find, remove}
use Rattle.std.specs.List.{position_or_len}
use Rattle.std.proofs.lemmas.Bool.{ltb-true, ltb-false}
use Rattle.std.proofs.lemmas.List.Folds.{find_at, find-set}
use Rattle.std.proofs.lemmas.List.Quantifiers.{position-Some}
use Rattle.std.proofs.lemmas.Option.{slice_get_within, slice_get_past, get_or_from_slice_get, cond_some}
use Rattle.std.proofs.lemmas.Slice.Eq.{bytes_eq-Decides}
use Rattle.aas_model.specs.declared.element.Element.{Element}
use Rattle.aas_model.specs.declared.path.PathStep.{PathStep}
use Rattle.aas_model.specs.declared.path.PathStep.TheVariants.{Name, Place}
use Rattle.aas_path_trees.specs.Children.{id_short_of}
use Rattle.aas_path_trees.specs.ElementAt.{is_text, place_of, child_by, element_below, element_among}
use Rattle.aas_path_trees.proofs.Paths.{child_by-there}
use Rattle.aas_edit_laws.specs.Others.{moved_up}
use Rattle.aas_edit_laws.proofs.Found.{get_set, get_set_other, get_before, get_behind, get_more, find_set_other, find_without, find_more}

abbrev Child : Type 0
Child = ℕ × Element

abbrev is_named : List ℕ → Element → Bool
is_named n k = is_text n (id_short_of k)

-- the child to which a step leads, without its place
abbrev pub child_at : Bool → PathStep → List Element → Option Element
child_at true (Place i) ks = slice_get ks i
child_at false (Name n) ks = find (is_named n) ks
child_at l s ks = None

abbrev among : List Element → Option ℕ → Option Child
among ks o = option_and_then (λ i. option_map (λ k. (i, k)) (slice_get ks i)) o

at_index : (ks : List Element) (i : ℕ) (b : Bool) → nat_lt i (length ks) ≡ b
    → option_map (λ (c : Child). c.1) (among ks (cond b (Some i) None)) ≡ slice_get ks i
at_index ks i true within = by_child (slice_get ks i)
  where
    by_child : (o : Option Element) → option_map (λ (c : Child). c.1) (option_map (λ k. (i, k)) o) ≡ o
    by_child None = refl
    by_child (Some k) = refl
at_index ks i false past = sym (slice_get_past ks i (ltb-false i (length ks) past))

child_at-is : (l : Bool) (s : PathStep) (ks : List Element) → option_map (λ (c : Child). c.1) (child_by l s ks) ≡ child_at l s ks
unfolding child_by place_of
child_at-is true (Name n) ks = refl
child_at-is true (Place i) ks = at_index ks i (nat_lt i (length ks)) refl
child_at-is false (Name n) ks =
    let i = position_or_len (is_named n) ks in at_index ks i (nat_lt i (length ks)) refl ∙ sym (find_at (is_named n) ks)
child_at-is false (Place i) ks = refl

-- a path leads on from that child
pub by_child : (l : Bool) (s : PathStep) (p : List PathStep) (ks : List Element) → element_among l s p ks ≡ option_and_then (element_below p) (child_at l s ks)
by_child l s p ks = through (child_by l s ks) ∙ ap (option_and_then (element_below p)) (child_at-is l s ks)
  where
    through : (o : Option Child)
        → option_and_then (λ (c : Child). element_below p c.1) o ≡ option_and_then (element_below p) (option_map (λ (c : Child). c.1) o)
    through None = refl
    through (Some c) = refl

-- ---- names and places

-- a step into a list is the place to which it leads
at_place : (i : ℕ) (ks : List Element) (c : Child) → child_by true (Place i) ks ≡ Some c → i ≡ c.0
unfolding place_of
at_place i ks c is = (cond_some (nat_lt i (length ks)) i c.0 (child_by-there true (Place i) ks c is).0).1

no_place : (i : ℕ) (ks : List Element) (c : Child) → child_by false (Place i) ks ≡ Some c → ⊥
unfolding child_by place_of
no_place i ks c is = cc

no_name : (n : List ℕ) (ks : List Element) (c : Child) → child_by true (Name n) ks ≡ Some c → ⊥
unfolding child_by place_of
no_name n ks c is = cc

record IsFirst (n : List ℕ) (ks : List Element) (c : Child) : Type 0 where
  there : slice_get ks c.0 ≡ Some c.1
  index : c.0 ≡ position_or_len (is_named n) ks
  named : is_named n c.1 ≡ true

first : (n : List ℕ) (ks : List Element) (c : Child) → child_by false (Name n) ks ≡ Some c → IsFirst n ks c
unfolding place_of
first n ks c is =
    let found = child_by-there false (Name n) ks c is in
    let i = position_or_len (is_named n) ks in
    let passes = (position-Some (is_named n) ks c.0 c.1 found.0).1 in record {
      there = found.1;
      index = sym (cond_some (nat_lt i (length ks)) i c.0 found.0).1;
      named = ap (is_named n) (sym (get_or_from_slice_get ks c.0 c.1 c.1 found.1)) ∙ passes;
    }

other_name : (n m : List ℕ) (o : Option (List ℕ)) → (n ≡ m → ⊥) → is_text n o ≡ true → is_text m o ≡ false
other_name n m None apart is = absurd (true≢false (sym is))
other_name n m (Some x) apart is = by_test (bytes_eq x m) refl
  where
    by_test : (b : Bool) → bytes_eq x m ≡ b → bytes_eq x m ≡ false
    by_test true same = absurd (apart (sym ((bytes_eq-Decides x n).0 is) ∙ (bytes_eq-Decides x m).0 same))
    by_test false no_match = no_match

-- ---- the children to which steps lead, with another child where s leads, of the same idShort

pub set_here : (l : Bool) (s : PathStep) (ks : List Element) (c : Child) (w : Element) → child_by l s ks ≡ Some c → id_short_of w ≡ id_short_of c.1
    → child_at l s (slice_set ks c.0 w) ≡ Some w
set_here true (Name n) ks c w is name = absurd (no_name n ks c is)
set_here true (Place i) ks c w is name =
    ap (slice_get (slice_set ks c.0 w)) (at_place i ks c is) ∙ get_set ks c.0 c.1 w (child_by-there true (Place i) ks c is).1
set_here false (Name n) ks c w is name =
    let f = first n ks c is in find-set (is_named n) ks c.0 w f.index (slice_get_within ks c.0 c.1 f.there) (ap (is_text n) name ∙ f.named)
set_here false (Place i) ks c w is name = absurd (no_place i ks c is)

pub set_aside : (l : Bool) (s t : PathStep) (ks : List Element) (c : Child) (w : Element) → s ≢ t → child_by l s ks ≡ Some c
    → id_short_of w ≡ id_short_of c.1 → child_at l t (slice_set ks c.0 w) ≡ child_at l t ks
set_aside true (Name n) t ks c w apart is name = absurd (no_name n ks c is)
set_aside true (Place i) (Name m) ks c w apart is name = refl
set_aside true (Place i) (Place j) ks c w apart is name = get_set_other ks c.0 j w (λ e. apart (ap (λ (k : ℕ). Place k) (at_place i ks c is ∙ e)))
set_aside false (Name n) (Name m) ks c w apart is name =
    let f = first n ks c is in
    let no_match = other_name n m (id_short_of c.1) (λ e. apart (ap (λ (k : List ℕ). Name k) e)) f.named in
    find_set_other (is_named m) ks c.0 c.1 w f.there no_match (ap (is_text m) name ∙ no_match)
set_aside false (Name n) (Place j) ks c w apart is name = refl
set_aside false (Place i) t ks c w apart is name = absurd (no_place i ks c is)

-- ---- without the child to which s leads

pub without_aside : (l : Bool) (s t : PathStep) (ks : List Element) (c : Child) → s ≢ t → child_by l s ks ≡ Some c
    → child_at l (moved_up s t) (remove ks c.0) ≡ child_at l t ks
without_aside true (Name n) t ks c apart is = absurd (no_name n ks c is)
without_aside true (Place i) (Name m) ks c apart is = refl
without_aside true (Place i) (Place j) ks c apart is = by_side (nat_lt i j) refl
  where
    here : i ≡ c.0
    here = at_place i ks c is

    by_side : (b : Bool) → nat_lt i j ≡ b → slice_get (remove ks c.0) (if b then j - 1 else j) ≡ slice_get ks j
    by_side true behind =
        let less : i < j = ltb-true i j behind in
        let next : suc (j - 1) ≡ j = omega (arith, less) in
        get_behind ks c.0 (j - 1) (omega (arith, here, less)) ∙ ap (slice_get ks) next
    by_side false before =
        let other : i ≢ j = λ e. apart (ap (λ (k : ℕ). Place k) e) in
        get_before ks c.0 j (omega (arith, here, other, ltb-false i j before))
without_aside false (Name n) (Name m) ks c apart is =
    let f = first n ks c is in
    let no_match = other_name n m (id_short_of c.1) (λ e. apart (ap (λ (k : List ℕ). Name k) e)) f.named in
    find_without (is_named m) ks c.0 c.1 f.there no_match
without_aside false (Name n) (Place j) ks c apart is = refl
without_aside false (Place i) t ks c apart is = absurd (no_place i ks c is)

-- ---- with one more child behind them

pub more_aside : (l : Bool) (t : PathStep) (ks js : List Element) (k : Element) → child_at l t ks ≡ Some k → child_at l t (ks ++ js) ≡ Some k
more_aside true (Name n) ks js k is = is
more_aside true (Place i) ks js k is = get_more ks js i k is
more_aside false (Name n) ks js k is = find_more (is_named n) ks js k is
more_aside false (Place i) ks js k is = is
