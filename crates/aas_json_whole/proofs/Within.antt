-- One level of a whole element.
use Rattle.std.proofs.Common.{◌≡◌, ℕ, suc, ◌+◌, ◌<◌, ◌≤◌, ◌&&◌, nat_le, Bool, true, false, List, [], ◌∷◌}
use Rattle.std.proofs.Common.{length, drop, get_or, refl, sym, ap, ◌∙◌, subst, arith, le-leb, true≢false}
use Rattle.std.specs.Cmp.{both_ways}
use Rattle.std.specs.List.{list_all}
use Rattle.std.proofs.lemmas.Bool.{and_from, false_from_ne_true, leb-true, lt-leb}
use Rattle.aas_edit_laws.proofs.OneLevel.{down, payload_of, up}
use Rattle.aas_edit_laws.proofs.Siblings.{AreWhole, IsWhole, IsWholeUnder}
use Rattle.aas_json_mapping.specs.Whole.{element_levels, has_whole_parts, in_order, is_placed, is_whole_child, rank}
use Rattle.aas_json_mapping.proofs.Elements.{made_out, ranks}
use Rattle.aas_json_spelling.specs.Lists.{Each}
use Rattle.aas_json_table.specs.TooDeep.{limits}
use Rattle.aas_lemmas.proofs.Lists.{drop_at}
use Rattle.aas_lemmas.proofs.Truth.{and_left, and_right}
use Rattle.aas_model.specs.declared.element.Element.{Element, out-Element}
use Rattle.aas_model.specs.declared.payload.Payload.{Payload}
use Rattle.aas_path_trees.specs.Children.{kids_of, role_of}
use Rattle.aas_json_whole.specs.Children.{elements_left, has_whole_attributes, is_admitted, is_whole_under}

-- ---- a child by its test

as_whole : (left : ℕ) (k : Element) → is_whole_child (elements_left left) k ≡ true → IsWhole left k
as_whole left k whole =
    let first = and_left (has_whole_parts limits k && is_placed k) (nat_le (element_levels k) left) whole in record {
      parts = and_left (has_whole_parts limits k) (is_placed k) first;
      placed = and_right (has_whole_parts limits k) (is_placed k) first;
      low = leb-true (element_levels k) left
          (and_right (has_whole_parts limits k && is_placed k) (nat_le (element_levels k) left) whole);
    }

as_test : (left : ℕ) (k : Element) → IsWhole left k → is_whole_child (elements_left left) k ≡ true
as_test left k whole =
    and_from (has_whole_parts limits k && is_placed k) (nat_le (element_levels k) left)
    (and_from (has_whole_parts limits k) (is_placed k) whole.parts whole.placed)
    (le-leb (element_levels k) left whole.low)

each_under : (left : ℕ) (p : Payload) (ks : List Element) → list_all (is_whole_under left p) ks ≡ true
    → Each (IsWholeUnder left p) ks
each_under left p [] e = tt
each_under left p (k ∷ ks) e =
    let first = and_left (is_whole_under left p k) (list_all (is_whole_under left p) ks) e in
    let admitted = and_left (is_admitted p k) (is_whole_child (elements_left left) k) first in
    let whole = and_right (is_admitted p k) (is_whole_child (elements_left left) k) first in (
      record { admitted = admitted; whole = as_whole left k whole },
      each_under left p ks (and_right (is_whole_under left p k) (list_all (is_whole_under left p) ks) e),
    )

test_under : (left : ℕ) (p : Payload) (ks : List Element) → Each (IsWholeUnder left p) ks
    → list_all (is_whole_under left p) ks ≡ true
test_under left p [] each = refl
test_under left p (k ∷ ks) each =
    and_from (is_whole_under left p k) (list_all (is_whole_under left p) ks)
    (and_from (is_admitted p k) (is_whole_child (elements_left left) k) each.0.admitted (as_test left k each.0.whole))
    (test_under left p ks each.1)

-- ---- one level

no_levels : (e : Element) → IsWhole 0 e → ⊥
no_levels e whole =
    let y = out-Element e in
    let within = down 0 y.role y.common y.payload y.kids (subst (IsWhole 0) (sym (made_out e)) whole) in
    omega (arith, within.spent)

pub none_left : (e : Element) → is_whole_child (elements_left 0) e ≡ false
none_left e = false_from_ne_true _ (λ whole. no_levels e (as_whole 0 e whole))

pub lacking : (e : Element) (left : ℕ) → has_whole_attributes e ≡ false → is_whole_child (elements_left left) e ≡ false
lacking e left lacks = false_from_ne_true _ (λ whole.
    let y = out-Element e in
    let within =
    down left y.role y.common y.payload y.kids (subst (IsWhole left) (sym (made_out e)) (as_whole left e whole)) in
    true≢false (sym within.attributes ∙ lacks))

-- what is left to test of an element whose attributes are whole
level_left : (e : Element) (left m : ℕ) → left ≡ suc m → has_whole_attributes e ≡ true
    → (in_order (ranks (kids_of e)) && list_all (is_whole_under m (payload_of e)) (kids_of e))
    ≡ is_whole_child (elements_left left) e
level_left e left m spent attributes =
    let y = out-Element e in
    let order : Bool = in_order (ranks (kids_of e)) in
    let below : Bool = list_all (is_whole_under m (payload_of e)) (kids_of e) in
    both_ways _ _
    (λ h. as_test left e (subst (λ n. IsWhole n e) (sym spent) (subst (IsWhole (suc m)) (made_out e)
    (up m y.role y.common y.payload y.kids attributes
    (record { each = each_under m y.payload y.kids (and_right order below h); order = and_left order below h })))))
    (λ h.
    let within =
    down left y.role y.common y.payload y.kids (subst (IsWhole left) (sym (made_out e)) (as_whole left e h)) in
    let same : within.rest ≡ m = omega (arith, spent, within.spent) in
    let children = subst (λ n. AreWhole n y.payload y.kids) same within.children in
    and_from order below children.order (test_under m y.payload y.kids children.each))

pub disordered : (e : Element) (left m : ℕ) → left ≡ suc m → has_whole_attributes e ≡ true
    → in_order (ranks (kids_of e)) ≡ false → is_whole_child (elements_left left) e ≡ false
disordered e left m spent attributes order =
    sym (level_left e left m spent attributes)
    ∙ ap (λ b. b && list_all (is_whole_under m (payload_of e)) (kids_of e)) order

pub by_children : (e : Element) (left m : ℕ) → left ≡ suc m → has_whole_attributes e ≡ true
    → in_order (ranks (kids_of e)) ≡ true
    → list_all (is_whole_under m (payload_of e)) (kids_of e) ≡ is_whole_child (elements_left left) e
by_children e left m spent attributes order =
    ap (λ b. b && list_all (is_whole_under m (payload_of e)) (kids_of e)) (sym order)
    ∙ level_left e left m spent attributes

-- ---- the order of children

order_next : (n m : ℕ) (ns : List ℕ) → in_order (n ∷ m ∷ ns) ≡ (nat_le n m && in_order (m ∷ ns))
order_next n m ns =
    let low : Bool = nat_le n m in
    let above : Bool = list_all (nat_le n) ns in
    let rest : Bool = in_order (m ∷ ns) in
    both_ways _ _
    (λ e. and_from low rest (and_left low above (and_left (low && above) rest e)) (and_right (low && above) rest e))
    (λ e. and_from (low && above) rest
    (and_from low above (and_left low rest e)
    (all_above n m ns (and_left low rest e) (and_left (list_all (nat_le m) ns) (in_order ns) (and_right low rest e))))
    (and_right low rest e))
  where
    all_above : (n m : ℕ) (ns : List ℕ) → nat_le n m ≡ true → list_all (nat_le m) ns ≡ true
        → list_all (nat_le n) ns ≡ true
    all_above n m [] low above = refl
    all_above n m (k ∷ ns) low above =
        and_from (nat_le n k) (list_all (nat_le n) ns)
        (le-leb n k (omega (
          arith,
          leb-true n m low,
          leb-true m k (and_left (nat_le m k) (list_all (nat_le m) ns) above),
        )))
        (all_above n m ns low (and_right (nat_le m k) (list_all (nat_le m) ns) above))

-- nothing is below 0
pub order_first : (ns : List ℕ) → in_order (0 ∷ ns) ≡ in_order ns
order_first ns = ap (λ b. b && in_order ns) (all_above ns)
  where
    all_above : (ns : List ℕ) → list_all (nat_le 0) ns ≡ true
    all_above [] = refl
    all_above (n ∷ ns) = and_from (nat_le 0 n) (list_all (nat_le 0) ns) (le-leb 0 n (omega arith)) (all_above ns)

ranks_from : (before : ℕ) (k : Element) (ks : List Element) (i : ℕ) → i < length ks → k ≡ get_or ks i k
    → in_order (before ∷ ranks (drop i ks))
    ≡ (nat_le before (rank (role_of k)) && in_order (rank (role_of k) ∷ ranks (drop (i + 1) ks)))
ranks_from before k ks i below at =
    ap (λ xs. in_order (before ∷ ranks xs)) (drop_at ks i k below at)
    ∙ order_next before (rank (role_of k)) (ranks (drop (i + 1) ks))

-- the next child is where it should be, or not
pub ranks_next : (before : ℕ) (k : Element) (ks : List Element) (i : ℕ) → i < length ks → k ≡ get_or ks i k
    → before ≤ rank (role_of k)
    → in_order (before ∷ ranks (drop i ks)) ≡ in_order (rank (role_of k) ∷ ranks (drop (i + 1) ks))
ranks_next before k ks i below at low =
    ranks_from before k ks i below at
    ∙ ap (λ b. b && in_order (rank (role_of k) ∷ ranks (drop (i + 1) ks))) (le-leb before (rank (role_of k)) low)

pub ranks_fall : (before : ℕ) (k : Element) (ks : List Element) (i : ℕ) → i < length ks → k ≡ get_or ks i k
    → rank (role_of k) < before → in_order (before ∷ ranks (drop i ks)) ≡ false
ranks_fall before k ks i below at less =
    ranks_from before k ks i below at
    ∙ ap (λ b. b && in_order (rank (role_of k) ∷ ranks (drop (i + 1) ks))) (lt-leb before (rank (role_of k)) less)
