-- Lists of entries whose identifiers rise strictly.
use Rattle.std.proofs.Common.{◌≡◌, ℕ, zero, suc, ◌<◌, ◌≤◌, ◌⊎◌, inl, inr, Bool, true, false, cond, ◌&&◌, T, List, [], ◌∷◌}
use Rattle.std.proofs.Common.{length, get_or, slice_get, slice_set, Some, None, refl, sym, ap, ◌∙◌, subst, arith}
use Rattle.std.specs.List.{insert, remove}
use Rattle.std.specs.List.Sorted.{IsNonDecreasingBy, IsPartitionedBy}
use Rattle.std.specs.FinMap.{find, put, is_sorted, nat_cmp-IsAntisymmetric, slice_cmp-IsAntisymmetric}
use Rattle.std.specs.FinMap.Entries.{below_all}
use Rattle.std.specs.Ordering.{nat_cmp, is_le, is_lt, is_eq, eq_by_cmp, ordering_reverse, ordering_index}
use Rattle.std.specs.declared.cmp.Ordering.{Ordering}
use Rattle.std.specs.declared.cmp.Ordering.TheVariants.{Less, Equal, Greater}
use Rattle.std.specs.Cmp.Lexicographic.{slice_cmp}
use Rattle.std.proofs.lemmas.Bool.{cases_order}
use Rattle.std.proofs.lemmas.Cmp.{nat_list_cmp_total, tied_itself}
use Rattle.std.proofs.lemmas.Option.{same_Some}

abbrev pub order : List ℕ → List ℕ → Ordering
order = slice_cmp nat_cmp

abbrev pub Entries : Type 0 → Type 0
Entries X = List (List ℕ × X)

pub both : (a b : Bool) → T a → T b → T (a && b)
both true b p q = q
both false b p q = p

pub parts : (a b : Bool) → T (a && b) → T a × T b
parts true b p = (tt, p)
parts false b p = absurd p

pub less : (r : Ordering) → T (is_lt r) → r ≡ Less
less Less p = refl
less Equal p = absurd p
less Greater p = absurd p

pub is_below : (r : Ordering) → r ≡ Less → T (is_lt r)
is_below r e = subst (λ r. T (is_lt r)) (sym e) tt

-- ---- the order

pub same_id : (p q : List ℕ) → order p q ≡ Equal → p ≡ q
same_id p q e = slice_cmp-IsAntisymmetric nat_cmp-IsAntisymmetric p q e

pub greater : (p q : List ℕ) → order p q ≡ Less → order q p ≡ Greater
greater p q e = nat_list_cmp_total.antisymm q p ∙ ap ordering_reverse e

pub comparisons_rise : (p q a : List ℕ) → order p q ≡ Less → ordering_index (order p a) ≤ ordering_index (order q a)
comparisons_rise p q a e = by (order q a) refl
  where
    by : (r : Ordering) → order q a ≡ r → ordering_index (order p a) ≤ ordering_index r
    by Less is = subst (λ r. ordering_index r ≤ 0) (sym (nat_list_cmp_total.trans p q a e is)) (omega arith)
    by Equal is = subst (λ a. ordering_index (order p a) ≤ 1) (same_id q a is) (subst (λ r. ordering_index r ≤ 1) (sym e) (omega arith))
    by Greater is = top (order p a)
      where
        top : (r : Ordering) → ordering_index r ≤ 2
        top Less = omega arith
        top Equal = omega arith
        top Greater = omega arith

-- keys that rise along a list compare with another one by rising
pub keys_compare : {X : Type 0} (key : X → List ℕ) (a : List ℕ) (xs : List X)
    → ((i j : ℕ) (d : X) → i < j → j < length xs → order (key (get_or xs i d)) (key (get_or xs j d)) ≡ Less)
    → IsNonDecreasingBy (λ x. ordering_index (order (key x) a)) xs
keys_compare key a xs rise i j d le lt = by (cases_order i j)
  where
    by : (i ≡ j) ⊎ ((i < j) ⊎ (j < i))
        → ordering_index (order (key (get_or xs i d)) a) ≤ ordering_index (order (key (get_or xs j d)) a)
    by (inl same) = subst (λ j. ordering_index (order (key (get_or xs i d)) a)
        ≤ ordering_index (order (key (get_or xs j d)) a)) same (omega arith)
    by (inr (inl before)) = comparisons_rise _ _ a (rise i j d before lt)
    by (inr (inr behind)) = absurd (omega arith)

-- those that aren't above another one stand first
pub not_above_stand_first : {X : Type 0} (key : X → List ℕ) (a : List ℕ) (xs : List X)
    → IsNonDecreasingBy (λ x. ordering_index (order (key x) a)) xs → IsPartitionedBy (λ x. is_le (order (key x) a)) xs
not_above_stand_first key a xs rises i j d le lt holds = by _ _ (rises i j d le lt) holds
  where
    by : (r s : Ordering) → ordering_index r ≤ ordering_index s → is_le s ≡ true → is_le r ≡ true
    by Less s le e = refl
    by Equal s le e = refl
    by Greater Less le e = absurd (omega arith)
    by Greater Equal le e = absurd (omega arith)
    by Greater Greater le e = e

-- ---- lists in order

-- of a list of two and more in order: the first is below the second and below the rest, and the list from the second
-- on is in order
in_order : {X : Type 0} (x e : List ℕ × X) (es : Entries X) → T (is_sorted order (x ∷ e ∷ es)) → (order x.0 e.0 ≡ Less) × T (below_all order x.0 es) × T (is_sorted order (e ∷ es))
in_order x e es h =
    let outer = parts (below_all order x.0 (e ∷ es)) (is_sorted order (e ∷ es)) h in
    let inner = parts (is_lt (order x.0 e.0)) (below_all order x.0 es) outer.0 in
    (less (order x.0 e.0) inner.0, inner.1, outer.1)

pub tail : {X : Type 0} (e : List ℕ × X) (es : Entries X) → T (is_sorted order (e ∷ es)) → T (is_sorted order es)
tail e es h = (parts (below_all order e.0 es) (is_sorted order es) h).1

-- without its second entry a list is still in order
skip : {X : Type 0} (x e : List ℕ × X) (es : Entries X) → T (is_sorted order (x ∷ e ∷ es)) → T (is_sorted order (x ∷ es))
skip x e es h = both (below_all order x.0 es) (is_sorted order es) (in_order x e es h).1 (tail e es (in_order x e es h).2)

-- the first is below each other
pub head_below : {X : Type 0} (x y : List ℕ × X) (es : Entries X) (j : ℕ) → T (is_sorted order (x ∷ es)) → slice_get es j ≡ Some y → order x.0 y.0 ≡ Less
head_below x y [] j h at = absurd (cc)
head_below x y (e ∷ es) zero h at = ap (λ (e : List ℕ × _). order x.0 e.0) (sym (same_Some e y at)) ∙ (in_order x e es h).0
head_below x y (e ∷ es) (suc j) h at = head_below x y es j (skip x e es h) at

pub rising : {X : Type 0} (es : Entries X) (i j : ℕ) (x y : List ℕ × X) → T (is_sorted order es) → i < j → slice_get es i ≡ Some x → slice_get es j ≡ Some y → order x.0 y.0 ≡ Less
rising [] i j x y h lt at_x at_y = absurd (cc)
rising (e ∷ es) zero zero x y h lt at_x at_y = absurd (omega arith)
rising (e ∷ es) zero (suc j) x y h lt at_x at_y = ap (λ (e : List ℕ × _). order e.0 y.0) (sym (same_Some e x at_x)) ∙ head_below e y es j h at_y
rising (e ∷ es) (suc i) zero x y h lt at_x at_y = absurd (omega arith)
rising (e ∷ es) (suc i) (suc j) x y h lt at_x at_y = rising es i j x y (tail e es h) (omega arith) at_x at_y

sorted_rest : {X : Type 0} (x : List ℕ × X) (es : Entries X) (i : ℕ) → T (is_sorted order (x ∷ es)) → T (is_sorted order (x ∷ remove es i))
sorted_rest x [] zero h = h
sorted_rest x [] (suc i) h = h
sorted_rest x (e ∷ es) zero h = skip x e es h
sorted_rest x (e ∷ es) (suc i) h =
    let rest = parts (below_all order x.0 (remove es i)) (is_sorted order (remove es i)) (sorted_rest x es i (skip x e es h)) in
    both (below_all order x.0 (e ∷ remove es i)) (is_sorted order (e ∷ remove es i)) (both (is_lt (order x.0 e.0)) (below_all order x.0 (remove es i)) (is_below (order x.0 e.0) (in_order x e es h).0) rest.0) (sorted_rest e es i (tail x (e ∷ es) h))

pub sorted_removed : {X : Type 0} (es : Entries X) (i : ℕ) → T (is_sorted order es) → T (is_sorted order (remove es i))
sorted_removed [] zero h = tt
sorted_removed [] (suc i) h = tt
sorted_removed (e ∷ es) zero h = tail e es h
sorted_removed (e ∷ es) (suc i) h = sorted_rest e es i h

-- ---- what is found

pub found_none : {X : Type 0} (es : Entries X) (q : List ℕ) → ((i : ℕ) (e : List ℕ × X) → slice_get es i ≡ Some e → eq_by_cmp order q e.0 ≡ false) → find order q es ≡ None
found_none [] q none = refl
found_none (e ∷ es) q none =
    ap (λ b. cond b (Some e.1) (find order q es)) (none zero e refl) ∙ found_none es q (λ i e at. none (suc i) e at)

pub found_at : {X : Type 0} (es : Entries X) (i : ℕ) (q : List ℕ) (v : X) → T (is_sorted order es) → slice_get es i ≡ Some (q, v) → find order q es ≡ Some v
found_at [] i q v h at = absurd (cc)
found_at {X = X} (e ∷ es) zero q v h at =
    ap (λ (e : List ℕ × X). cond (eq_by_cmp order q e.0) (Some e.1) (find order q es)) (same_Some e (q, v) at)
    ∙ ap (λ r. cond (is_eq r) (Some v) (find order q es)) (tied_itself nat_list_cmp_total q)
found_at (e ∷ es) (suc i) q v h at =
    ap (λ r. cond (is_eq r) (Some e.1) (find order q es)) (greater e.0 q (head_below e (q, v) es i h at)) ∙ found_at es i q v (tail e es h) at

-- ---- edits at a place

pub put_at : {X : Type 0} (es : Entries X) (i : ℕ) (q : List ℕ) (v w : X) → T (is_sorted order es) → slice_get es i ≡ Some (q, w) → put order q v es ≡ slice_set es i (q, v)
put_at [] i q v w h at = absurd (cc)
put_at (e ∷ es) zero q v w h at =
    let same : e.0 ≡ q = ap (λ (e : List ℕ × _). e.0) (same_Some e (q, w) at) in
    let tied : order q e.0 ≡ Equal = ap (order q) same ∙ tied_itself nat_list_cmp_total q in
    rw tied (ap (λ k. (k, v) ∷ es) same)
put_at (e ∷ es) (suc i) q v w h at =
    let above : order q e.0 ≡ Greater = greater e.0 q (head_below e (q, w) es i h at) in
    rw above (ap (λ es. e ∷ es) (put_at es i q v w (tail e es h) at))

pub put_between : {X : Type 0} (es : Entries X) (i : ℕ) (q : List ℕ) (v : X) → i ≤ length es
    → ((j : ℕ) (e : List ℕ × X) → j < i → slice_get es j ≡ Some e → order e.0 q ≡ Less) → ((j : ℕ) (e : List ℕ × X) → i ≤ j → slice_get es j ≡ Some e → order q e.0 ≡ Less)
    → put order q v es ≡ insert es i (q, v)
put_between [] zero q v le below above = refl
put_between [] (suc i) q v le below above = absurd (omega arith)
put_between (e ∷ es) zero q v le below above =
    let first : order q e.0 ≡ Less = above zero e (omega arith) refl in
    rw first refl
put_between (e ∷ es) (suc i) q v le below above =
    let first : order q e.0 ≡ Greater = greater e.0 q (below zero e (omega arith) refl) in
    rw first (ap (λ es. e ∷ es) (put_between es i q v (omega arith) (λ j e lt at. below (suc j) e (omega arith) at) (λ j e le at. above (suc j) e (omega arith) at)))

pub found_removed : {X : Type 0} (es : Entries X) (i : ℕ) (q : List ℕ) (v : X) (p : List ℕ) → T (is_sorted order es) → slice_get es i ≡ Some (q, v)
    → find order p (remove es i) ≡ cond (eq_by_cmp order p q) None (find order p es)
found_removed [] i q v p h at = absurd (cc)
found_removed {X = X} (e ∷ es) zero q v p h at = by (order p q) refl
  where
    same : e.0 ≡ q
    same = ap (λ (e : List ℕ × X). e.0) (same_Some e (q, v) at)

    by : (r : Ordering) → order p q ≡ r → find order p es ≡ cond (is_eq r) None (cond (eq_by_cmp order p e.0) (Some e.1) (find order p es))
    by Less is = sym (ap (λ r. cond (is_eq r) (Some e.1) (find order p es)) (ap (order p) same ∙ is))
    by Equal is = found_none es p (λ j f at_f. ap is_eq (ap (λ p. order p f.0) (same_id p q is ∙ sym same) ∙ head_below e f es j h at_f))
    by Greater is = sym (ap (λ r. cond (is_eq r) (Some e.1) (find order p es)) (ap (order p) same ∙ is))
found_removed {X = X} (e ∷ es) (suc i) q v p h at = by (order p e.0) refl (found_removed es i q v p (tail e es h) at)
  where
    by : (r : Ordering) → order p e.0 ≡ r → find order p (remove es i) ≡ cond (eq_by_cmp order p q) None (find order p es)
        → cond (is_eq r) (Some e.1) (find order p (remove es i)) ≡ cond (eq_by_cmp order p q) None (cond (is_eq r) (Some e.1) (find order p es))
    by Less is rest = rest
    by Equal is rest = sym (ap (λ r. cond (is_eq r) None (Some e.1)) (ap (λ p. order p q) (same_id p e.0 is) ∙ head_below e (q, v) es i h at))
    by Greater is rest = rest
