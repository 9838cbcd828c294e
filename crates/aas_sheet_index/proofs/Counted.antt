-- The nth side of a level, where all below each side before it is passed at once.
use Rattle.std.proofs.Common.{◌≡◌, length, ℕ, zero, suc, ◌+◌, ◌-◌, ◌<◌, ◌≤◌, Bool, true, false, nat_lt, List, [], ◌∷◌}
use Rattle.std.proofs.Common.{take, drop, slice_get, Option, Some, None, option_map, refl, sym, ap, ap₂, ◌∙◌, subst}
use Rattle.std.proofs.Common.{arith, if◌then◌else◌}
use Rattle.std.proofs.lemmas.Bool.{ltb-true}
use Rattle.std.proofs.lemmas.Bool.Decides.{Decides-eqb}
use Rattle.std.proofs.lemmas.List.{length-drop, length-map}
use Rattle.std.proofs.lemmas.Option.{slice_get_within}
use Rattle.aas_rows.specs.Children.{nth_where}
use Rattle.aas_rows.specs.Rows.{count_deeper}
use Rattle.aas_rows.proofs.Sizing.{at_most}
use Rattle.aas_sheet_index.specs.Sides.{is_below, levels, AreMeasured}
use Rattle.aas_sheet_index.specs.declared.side.Side.{Side}
use Rattle.aas_sheet_index.proofs.Ranks.{apart}

on_zero : (o : Option ℕ) → o ≡ option_map (λ i. 0 + i) o
on_zero None = refl
on_zero (Some i) = let same : i ≡ 0 + i = omega arith in ap (λ i. Some i) same

on_both : (m n : ℕ) (o : Option ℕ) → option_map (λ i. m + i) (option_map (λ i. n + i) o) ≡ option_map (λ i. m + n + i) o
on_both m n None = refl
on_both m n (Some i) = let same : m + (n + i) ≡ m + n + i = omega arith in ap (λ i. Some i) same

on_next : (m : ℕ) (o : Option ℕ) → option_map (λ i. m + i) (option_map (λ i. i + 1) o) ≡ option_map (λ i. suc m + i) o
on_next m None = refl
on_next m (Some i) = let same : m + (i + 1) ≡ suc m + i = omega arith in ap (λ i. Some i) same

next_on : (m : ℕ) (o : Option ℕ) → option_map (λ i. i + 1) (option_map (λ i. m + i) o) ≡ option_map (λ i. suc m + i) o
next_on m None = refl
next_on m (Some i) = let same : m + i + 1 ≡ suc m + i = omega arith in ap (λ i. Some i) same

pass_by : (p : Side → Bool) (n : ℕ) (s : Side) (ss : List Side)
    → p s ≡ false → nth_where p n (s ∷ ss) ≡ option_map (λ i. i + 1) (nth_where p n ss)
pass_by p zero s ss e = ap (λ b. if b then Some 0 else option_map (λ i. i + 1) (nth_where p zero ss)) e
pass_by p (suc n) s ss e = ap (λ b. option_map (λ i. i + 1) (if b then nth_where p n ss else nth_where p (suc n) ss)) e

count_one : (p : Side → Bool) (n : ℕ) (s : Side) (ss : List Side)
    → p s ≡ true → nth_where p (suc n) (s ∷ ss) ≡ option_map (λ i. i + 1) (nth_where p n ss)
count_one p n s ss e = ap (λ b. option_map (λ i. i + 1) (if b then nth_where p n ss else nth_where p (suc n) ss)) e

-- ---- what is left from a rank on

-- the rank of the nth that passes, from a rank up to an end
abbrev pub nth_from : (Side → Bool) → List Side → ℕ → ℕ → ℕ → Option ℕ
nth_from p ss end rank n = option_map (λ i. rank + i) (nth_where p n (take (end - rank) (drop rank ss)))

-- The first of some sides are deeper than the level k, and none of these passes.
deep_passed : (p : Side → Bool) (k : ℕ) → ((s : Side) → k < s.level → p s ≡ false) → (n m : ℕ) (ss : List Side)
    → nth_where p n (take m ss) ≡ nth_from p ss m (count_deeper k (levels ss)) n
deep_passed p k h n m [] =
    let all : m ≡ m - 0 = omega arith in
    on_zero (nth_where p n (take m [])) ∙ ap (λ m. option_map (λ i. 0 + i) (nth_where p n (take m []))) all
deep_passed p k h n m (s ∷ ss) = by (λ m. deep_passed p k h n m ss) (nat_lt k s.level) refl m
  where
    by : ((m : ℕ) → nth_where p n (take m ss) ≡ nth_from p ss m (count_deeper k (levels ss)) n) → (b : Bool)
        → nat_lt k s.level ≡ b → (m : ℕ)
        → nth_where p n (take m (s ∷ ss)) ≡ nth_from p (s ∷ ss) m (count_deeper k (levels (s ∷ ss))) n
    by more false is m =
        let none : count_deeper k (levels (s ∷ ss)) ≡ 0 =
        ap (λ b. if b then 1 + count_deeper k (levels ss) else 0) is in
        let all : m ≡ m - 0 = omega arith in
        on_zero (nth_where p n (take m (s ∷ ss)))
        ∙ ap (λ m. option_map (λ i. 0 + i) (nth_where p n (take m (s ∷ ss)))) all
        ∙ sym (ap (λ c. nth_from p (s ∷ ss) m c n) none)
    by more true is zero =
        let nothing : zero ≡ zero - count_deeper k (levels (s ∷ ss)) = omega arith in
        ap (λ m. option_map (λ i. count_deeper k (levels (s ∷ ss)) + i)
        (nth_where p n (take m (drop (count_deeper k (levels (s ∷ ss))) (s ∷ ss)))))
        nothing
    by more true is (suc m) =
        let next : 1 + count_deeper k (levels ss) ≡ suc (count_deeper k (levels ss)) = omega arith in
        let some : count_deeper k (levels (s ∷ ss)) ≡ suc (count_deeper k (levels ss)) =
        ap (λ b. if b then 1 + count_deeper k (levels ss) else 0) is ∙ next in
        let less : m - count_deeper k (levels ss) ≡ suc m - suc (count_deeper k (levels ss)) = omega arith in
        pass_by p n s (take m ss) (h s (ltb-true k s.level is)) ∙ ap (option_map (λ i. i + 1)) (more m)
        ∙ next_on (count_deeper k (levels ss))
        (nth_where p n (take (m - count_deeper k (levels ss)) (drop (count_deeper k (levels ss)) ss)))
        ∙ ap (λ m. option_map (λ i. suc (count_deeper k (levels ss)) + i)
        (nth_where p n (take m (drop (count_deeper k (levels ss)) ss))))
        less
        ∙ sym (ap (λ c. nth_from p (s ∷ ss) (suc m) c n) some)

cut_front : (ss : List Side) (rank m : ℕ) (s : Side)
    → slice_get ss rank ≡ Some s → take (suc m) (drop rank ss) ≡ s ∷ take m (drop (suc rank) ss)
cut_front [] rank m s at = absurd (cc)
cut_front (x ∷ ss) zero m s at = let same : x ≡ s = cc in ap (λ x. x ∷ take m ss) same
cut_front (x ∷ ss) (suc rank) m s at = cut_front ss rank m s at

drop_on : (m n : ℕ) (ss : List Side) → drop n (drop m ss) ≡ drop (m + n) ss
drop_on zero n ss = let same : n ≡ 0 + n = omega arith in ap (λ n. drop n ss) same
drop_on (suc m) n [] = none n ∙ sym (none (suc m + n))
  where
    none : (n : ℕ) → drop {A = Side} n [] ≡ []
    none zero = refl
    none (suc n) = refl
drop_on (suc m) n (s ∷ ss) =
    let same : suc (m + n) ≡ suc m + n = omega arith in
    drop_on m n ss ∙ ap (λ n. drop n (s ∷ ss)) same

own_size : (ss : List Side) (rank : ℕ) (s : Side)
    → AreMeasured ss → slice_get ss rank ≡ Some s → s.size ≡ 1 + count_deeper s.level (levels (drop (suc rank) ss))
own_size [] rank s sized at = absurd (cc)
own_size (x ∷ ss) zero s sized at =
    let own : x.size ≡ 1 + count_deeper x.level (levels ss) = cc in
    let same : x ≡ s = cc in
    subst (λ (s : Side). s.size ≡ 1 + count_deeper s.level (levels ss)) same own
own_size (x ∷ ss) (suc rank) s sized at = let rest : AreMeasured ss = cc in own_size ss rank s rest at

module _ (p : Side → Bool) (ss : List Side) (end rank : ℕ) (s : Side)
    (inside : rank < end) (at : slice_get ss rank ≡ Some s) where
  abbrev behind : List Side
  behind = take (end - suc rank) (drop (suc rank) ss)

  opened : (n : ℕ) → nth_from p ss end rank n ≡ option_map (λ i. rank + i) (nth_where p n (s ∷ behind))
  opened n =
      let long : end - rank ≡ suc (end - suc rank) = omega (arith, inside) in
      ap (λ ss. option_map (λ i. rank + i) (nth_where p n ss))
      (ap (λ m. take m (drop rank ss)) long ∙ cut_front ss rank (end - suc rank) s at)

  pub passed_by : (n : ℕ) → p s ≡ false → nth_from p ss end rank n ≡ nth_from p ss end (rank + 1) n
  passed_by n fails =
      let next : suc rank ≡ rank + 1 = omega arith in
      opened n ∙ ap (option_map (λ i. rank + i)) (pass_by p n s behind fails)
      ∙ on_next rank (nth_where p n behind) ∙ ap (λ r. nth_from p ss end r n) next

  pub found_here : p s ≡ true → nth_from p ss end rank 0 ≡ Some rank
  found_here holds =
      let here : rank + 0 ≡ rank = omega arith in
      opened 0
      ∙ ap (λ b. option_map (λ i. rank + i) (if b then Some 0 else option_map (λ i. i + 1) (nth_where p 0 behind)))
      holds
      ∙ ap (λ r. Some r) here

  pub passed_all : (n : ℕ) → p s ≡ true → ((t : Side) → s.level < t.level → p t ≡ false) → AreMeasured ss
      → nth_from p ss end rank (suc n) ≡ nth_from p ss end (rank + s.size) n
  passed_all n holds deeper sized =
      let rest : List Side = drop (suc rank) ss in
      let deep : ℕ = count_deeper s.level (levels rest) in
      let size : s.size ≡ 1 + deep = own_size ss rank s sized at in
      let next : suc rank + deep ≡ rank + s.size = omega (arith, size) in
      let less : end - suc rank - deep ≡ end - (suc rank + deep) = omega arith in
      opened (suc n) ∙ ap (option_map (λ i. rank + i)) (count_one p n s behind holds)
      ∙ on_next rank (nth_where p n behind)
      ∙ ap (option_map (λ i. suc rank + i)) (deep_passed p s.level deeper n (end - suc rank) rest)
      ∙ on_both (suc rank) deep (nth_where p n (take (end - suc rank - deep) (drop deep rest)))
      ∙ ap₂ (λ m ss. option_map (λ i. suc rank + deep + i) (nth_where p n (take m ss))) less
      (drop_on (suc rank) deep ss)
      ∙ ap (λ r. nth_from p ss end r n) next

pub none_left : (p : Side → Bool) (ss : List Side) (end rank n : ℕ) → end ≤ rank → nth_from p ss end rank n ≡ None
none_left p ss end rank n le =
    let nothing : end - rank ≡ 0 = omega (arith, le) in
    ap (λ m. option_map (λ i. rank + i) (nth_where p n (take m (drop rank ss)))) nothing

-- ---- of one level below another

pub deeper_is_not_below : (k : ℕ) (s : Side)
    → is_below k s ≡ true → (t : Side) → s.level < t.level → is_below k t ≡ false
deeper_is_not_below k s holds t deep =
    let level = (Decides-eqb s.level (k + 1)).0 holds in
    apart t.level (k + 1) (λ e. absurd (omega (arith, deep, level, e)))

-- no side counts more than there are
pub size_within : (ss : List Side) (rank : ℕ) (s : Side)
    → AreMeasured ss → slice_get ss rank ≡ Some s → (0 < s.size) × (rank + s.size ≤ length ss)
size_within ss rank s sized at =
    let size = own_size ss rank s sized at in
    let most = at_most s.level (levels (drop (suc rank) ss)) in
    let many = length-map (drop (suc rank) ss) (λ (s : Side). s.level) in
    let left = length-drop (suc rank) ss in
    let inside = slice_get_within ss rank s at in
    (omega (arith, size), omega (arith, size, most, many, left, inside))
