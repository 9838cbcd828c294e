-- A walk in preorder meets each row of a patch at its element exactly where the patch fits.
use denote.Enum.Bare.{sameb, same_true, true_same}
use Rattle.std.proofs.Common.{◌≡◌, ℕ, suc, ◌+◌, ◌-◌, ◌<◌, ◌≤◌, Bool, true, false, IsTrue, ◌↔◌, ◌&&◌, ◌==◌, List, [], ◌∷◌, ◌++◌, length, drop, get_or, Option, Some, None, option_and_then, slice_get, refl, sym, ap, ◌∙◌, subst, arith, if◌then◌else◌}
use Rattle.std.specs.List.{All}
use Rattle.std.proofs.Math.Seq.{drop-cons}
use Rattle.std.proofs.Math.Numerals.{add-one}
use Rattle.std.proofs.lemmas.Bool.Decides.{Decides-ltb, Decides-eqb}
use Rattle.std.proofs.lemmas.List.{drop_all}
use Rattle.std.proofs.lemmas.List.Elements.{All-nil, All-cons, All-head, All-tail}
use Rattle.aas_model.specs.Element as element
use Rattle.aas_model.specs.Payload as payload
use Rattle.aas_model.specs.declared.element.Element.{Element}
use Rattle.aas_model.specs.declared.patch.PatchRow.{PatchRow}
use Rattle.aas_model_names.specs.contracts.kind.Kind.{the_type}
use Rattle.aas_model_names.specs.declared.kind.Kind.{Kind}
use Rattle.aas_path.specs.Gaps.{first_rank, gap, rises}
use Rattle.aas_path.specs.Walk.{Left, at_start, behind, one_less, met, met_all, Ends}
use Rattle.aas_path_trees.specs.Children.{kids_of}
use Rattle.aas_path_trees.specs.Patched.{RiseFrom, Rise, Fits, kinds, kinds_of_all}
use Rattle.aas_path_trees.proofs.Patches.{kinds_out}

-- ---- one element behind the other

joined : (xs ys : List Kind) (o : Option Left) → ((left : Left) → met_all (xs ++ ys) left ≡ option_and_then (met_all ys) (met_all xs left))
    → option_and_then (met_all (xs ++ ys)) o ≡ option_and_then (met_all ys) (option_and_then (met_all xs) o)
joined xs ys None h = refl
joined xs ys (Some left) h = h left

met_all-append : (xs ys : List Kind) (left : Left) → met_all (xs ++ ys) left ≡ option_and_then (met_all ys) (met_all xs left)
met_all-append [] ys left = refl
met_all-append (x ∷ xs) ys left = joined xs ys (met x left.distance left.rows) (met_all-append xs ys)

pub one_met : (e : Element) (x : Kind) (ks : List Element) (before after : Left) (r : Option Left) → x ≡ element.kind_of e → ks ≡ kids_of e → Some after ≡ met x before.distance before.rows
    → r ≡ met_all (kinds_of_all ks) after → r ≡ met_all (kinds e) before
one_met e x ks before after r kind kids here more =
    more ∙ ap (λ ks. met_all (kinds_of_all ks) after) kids ∙ ap (option_and_then (met_all (kinds_of_all (kids_of e)))) (here ∙ ap (λ x. met x before.distance before.rows) kind)
    ∙ ap (λ xs. met_all xs before) (sym (kinds_out e))

pub one_unmet : (e : Element) (x : Kind) (before : Left) → x ≡ element.kind_of e → None ≡ met x before.distance before.rows → None ≡ met_all (kinds e) before
one_unmet e x before kind here =
    ap (option_and_then (met_all (kinds_of_all (kids_of e)))) (here ∙ ap (λ x. met x before.distance before.rows) kind) ∙ ap (λ xs. met_all xs before) (sym (kinds_out e))

child_met : (ks : List Element) (i : ℕ) (x : Element) (before : Left) → i < length ks → x ≡ get_or ks i x
    → met_all (kinds_of_all (drop i ks)) before ≡ option_and_then (met_all (kinds_of_all (drop (i + 1) ks))) (met_all (kinds x) before)
child_met ks i x before lt at =
    let front : drop i ks ≡ x ∷ drop (i + 1) ks = drop-cons ks i x lt ∙ ap (λ y. y ∷ drop (suc i) ks) (sym at) ∙ ap (λ n. x ∷ drop n ks) (sym (add-one i)) in
    ap (λ ks. met_all (kinds_of_all ks) before) front ∙ met_all-append (kinds x) (kinds_of_all (drop (i + 1) ks)) before

-- a loop over the children: it goes on, it stops at a child, it ends
pub turned : (ks : List Element) (i : ℕ) (x : Element) (before after : Left) (start : Option Left) → i < length ks → x ≡ get_or ks i x → start ≡ met_all (kinds_of_all (drop i ks)) before
    → Some after ≡ met_all (kinds x) before → start ≡ met_all (kinds_of_all (drop (i + 1) ks)) after
turned ks i x before after start lt at so_far here = so_far ∙ child_met ks i x before lt at ∙ ap (option_and_then (met_all (kinds_of_all (drop (i + 1) ks)))) (sym here)

pub stopped : (ks : List Element) (i : ℕ) (x : Element) (before : Left) (start : Option Left) → i < length ks → x ≡ get_or ks i x → start ≡ met_all (kinds_of_all (drop i ks)) before
    → None ≡ met_all (kinds x) before → None ≡ start
stopped ks i x before start lt at so_far here = ap (option_and_then (met_all (kinds_of_all (drop (i + 1) ks)))) here ∙ sym (so_far ∙ child_met ks i x before lt at)

pub ended : (ks : List Element) (i : ℕ) (left : Left) (start : Option Left) → length ks ≤ i → start ≡ met_all (kinds_of_all (drop i ks)) left → Some left ≡ start
ended ks i left start le so_far = sym (so_far ∙ ap (λ ks. met_all (kinds_of_all ks) left) (drop_all i ks le))

-- ---- rows and the elements from a rank on

abbrev Agree : ℕ → List Kind → List PatchRow → Type 0
Agree k ks [] = Unit {0}
Agree k ks (r ∷ rows) = (k ≤ r.rank) × (slice_get ks (r.rank - k) ≡ Some (payload.kind_of r.payload)) × Agree k ks rows

abbrev IsAt : ℕ → ℕ → List PatchRow → Type 0
IsAt k n [] = Unit {0}
IsAt k n (r ∷ rows) = r.rank ≡ k + n

later : (x : Kind) (xs : List Kind) (k n : ℕ) → k < n → slice_get (x ∷ xs) (n - k) ≡ slice_get xs (n - (k + 1))
later x xs k n lt = let step : n - k ≡ suc (n - (k + 1)) = omega arith in ap (slice_get (x ∷ xs)) step

agree_later : (x : Kind) (xs : List Kind) (k m : ℕ) (rows : List PatchRow) → k ≤ m → RiseFrom m rows → Agree k (x ∷ xs) rows → Agree (k + 1) xs rows
agree_later x xs k m [] le up a = tt
agree_later x xs k m (r ∷ rows) le up a = (omega (arith, up.0), sym (later x xs k r.rank (omega (arith, up.0))) ∙ a.1, agree_later x xs k r.rank rows (omega (arith, up.0)) up.1 a.2)

agree_sooner : (x : Kind) (xs : List Kind) (k : ℕ) (rows : List PatchRow) → Agree (k + 1) xs rows → Agree k (x ∷ xs) rows
agree_sooner x xs k [] a = tt
agree_sooner x xs k (r ∷ rows) a = (omega (arith, a.0), later x xs k r.rank (omega (arith, a.0)) ∙ a.1, agree_sooner x xs k rows a.2)

-- rows rise behind one of rank m, if the first of them does
rise_behind : (m : ℕ) (rows : List PatchRow) → rises m rows ≡ true → Rise rows → RiseFrom m rows
rise_behind m [] b up = tt
rise_behind m (r ∷ rows) b up = ((Decides-ltb m r.rank).0 b, up)

rise_ahead : (m : ℕ) (rows : List PatchRow) → RiseFrom m rows → (rises m rows ≡ true) × Rise rows
rise_ahead m [] up = (refl, tt)
rise_ahead m (r ∷ rows) up = ((Decides-ltb m r.rank).1 up.0, up.1)

next_at : (m : ℕ) (rows : List PatchRow) → rises m rows ≡ true → IsAt (m + 1) (gap m rows) rows
next_at m [] b = tt
next_at m (r ∷ rows) b = let lt : m < r.rank = (Decides-ltb m r.rank).0 b in omega arith

-- what a walk needs of a row at its own element
record Here (x : Kind) (r : PatchRow) (rows : List PatchRow) : Type 0 where
  same : payload.kind_of r.payload ≡ x
  rising : rises r.rank rows ≡ true

here_from : (x : Kind) (xs : List Kind) (r : PatchRow) (rows : List PatchRow) (s t : Bool) → sameb the_type (payload.kind_of r.payload) x ≡ s → rises r.rank rows ≡ t → (left : Left)
    → Ends (option_and_then (met_all xs) (if s && t then Some left else None)) → Here x r rows × Ends (met_all xs left)
here_from x xs r rows true true a b left done = (record { same = same_true the_type tt (payload.kind_of r.payload) x a; rising = b }, done)
here_from x xs r rows true false a b left done = absurd done
here_from x xs r rows false t a b left done = absurd done

here_to : (x : Kind) (r : PatchRow) (rows : List PatchRow) → Here x r rows → (sameb the_type (payload.kind_of r.payload) x && rises r.rank rows) ≡ true
here_to x r rows here = ap (λ b. b && rises r.rank rows) (true_same the_type (payload.kind_of r.payload) x here.same) ∙ here.rising

record Fitting (k : ℕ) (ks : List Kind) (rows : List PatchRow) : Type 0 where
  rising : Rise rows
  agree : Agree k ks rows

-- the row at its own element, and the rest
own_from : (x : Kind) (xs : List Kind) (k : ℕ) (r : PatchRow) (rows : List PatchRow) → r.rank ≡ k → Here x r rows → Fitting (k + 1) xs rows → Fitting k (x ∷ xs) (r ∷ rows)
own_from x xs k r rows at here rest =
    let first : slice_get (x ∷ xs) (r.rank - k) ≡ Some (payload.kind_of r.payload) = let zero_off : r.rank - k ≡ 0 = omega arith in ap (slice_get (x ∷ xs)) zero_off ∙ ap (λ y. Some y) (sym here.same) in
    record { rising = rise_behind r.rank rows here.rising rest.rising; agree = (omega arith, first, agree_sooner x xs k rows rest.agree) }

own_to : (x : Kind) (xs : List Kind) (k : ℕ) (r : PatchRow) (rows : List PatchRow) → r.rank ≡ k → Fitting k (x ∷ xs) (r ∷ rows) → Here x r rows × Fitting (k + 1) xs rows
own_to x xs k r rows at fit =
    let up = rise_ahead r.rank rows fit.rising in
    let zero_off : 0 ≡ r.rank - k = omega arith in
    let first : Some x ≡ Some (payload.kind_of r.payload) = ap (slice_get (x ∷ xs)) zero_off ∙ fit.agree.1 in
    (record { same = cc; rising = up.0 }, record { rising = up.1; agree = agree_later x xs k r.rank rows (omega arith) fit.rising fit.agree.2 })

-- the row is for a later element
later_from : (x : Kind) (xs : List Kind) (k : ℕ) (rows : List PatchRow) → Fitting (k + 1) xs rows → Fitting k (x ∷ xs) rows
later_from x xs k rows fit = record { rising = fit.rising; agree = agree_sooner x xs k rows fit.agree }

later_to : (x : Kind) (xs : List Kind) (k : ℕ) (r : PatchRow) (rows : List PatchRow) → k < r.rank → Fitting k (x ∷ xs) (r ∷ rows) → Fitting (k + 1) xs (r ∷ rows)
later_to x xs k r rows lt fit = record { rising = fit.rising; agree = agree_later x xs k k (r ∷ rows) (omega arith) (lt, fit.rising) fit.agree }

abbrev Both : ℕ → List Kind → Left → Type 0
Both k ks left = (Ends (met_all ks left) → Fitting k ks left.rows) × (Fitting k ks left.rows → Ends (met_all ks left))

IfBoth : ℕ → Kind → List Kind → PatchRow → List PatchRow → Option Left → Type 0
IfBoth k x xs r rows o =
    (Ends (option_and_then (met_all xs) o) → Fitting k (x ∷ xs) (r ∷ rows)) × (Fitting k (x ∷ xs) (r ∷ rows) → Ends (option_and_then (met_all xs) o))

met_by : (x : Kind) (xs : List Kind) (k n : ℕ) (r : PatchRow) (rows : List PatchRow) → ((m : ℕ) (rest : List PatchRow) → IsAt (k + 1) m rest → Both (k + 1) xs (record { distance = m; rows = rest })) → r.rank ≡ k + n
    → (b : Bool) → (n == 0) ≡ b
    → IfBoth k x xs r rows (if b then (if sameb the_type (payload.kind_of r.payload) x && rises r.rank rows then Some (behind r rows) else None) else Some (one_less n (r ∷ rows)))
unfolding IfBoth
met_by x xs k n r rows h at true is =
    let none : n ≡ 0 = (Decides-eqb n 0).0 is in
    let here : r.rank ≡ k = omega arith in
    let test : Bool = sameb the_type (payload.kind_of r.payload) x in
    let rest_at : rises r.rank rows ≡ true → IsAt (k + 1) (gap r.rank rows) rows = λ b. subst (λ (m : ℕ). IsAt (m + 1) (gap r.rank rows) rows) here (next_at r.rank rows b) in (
      λ done.
          let found = here_from x xs r rows test (rises r.rank rows) refl refl (behind r rows) done in
          own_from x xs k r rows here found.0 ((h (gap r.rank rows) rows (rest_at found.0.rising)).0 found.1),
      λ fit.
          let own = own_to x xs k r rows here fit in
          let rest : Ends (met_all xs (behind r rows)) = (h (gap r.rank rows) rows (rest_at own.0.rising)).1 own.1 in
          subst (λ (b : Bool). Ends (option_and_then (met_all xs) (if b then Some (behind r rows) else None))) (sym (here_to x r rows own.0)) rest,
    )
met_by x xs k n r rows h at false is =
    let some : ¬ (n ≡ 0) = λ e. absurd (not_zero n is e) in
    let below : 0 < n = omega arith in
    let next = h (n - 1) (r ∷ rows) (omega arith) in
    (λ done. later_from x xs k (r ∷ rows) (next.0 done), λ fit. next.1 (later_to x xs k r rows (omega arith) fit))
  where
    not_zero : (n : ℕ) → (n == 0) ≡ false → n ≡ 0 → ⊥
    not_zero n a e = let yes : (n == 0) ≡ true = (Decides-eqb n 0).1 e in absurd (cc)

both : (ks : List Kind) (k n : ℕ) (rows : List PatchRow) → IsAt k n rows → Both k ks (record { distance = n; rows = rows })
unfolding IfBoth
both [] k n [] at = (λ done. record { rising = tt; agree = tt }, λ fit. refl)
both [] k n (r ∷ rows) at = (λ done. absurd (cc), λ fit. let none : None ≡ Some (payload.kind_of r.payload) = fit.agree.1 in absurd (cc))
both (x ∷ xs) k n [] at = let next = both xs (k + 1) n [] tt in (λ done. record { rising = tt; agree = tt }, λ fit. next.1 (record { rising = tt; agree = tt }))
both (x ∷ xs) k n (r ∷ rows) at = met_by x xs k n r rows (λ m rest at. both xs (k + 1) m rest at) at (n == 0) refl

-- ---- a whole patch

same_off : (ks : List Kind) (n : ℕ) → slice_get ks (n - 0) ≡ slice_get ks n
same_off ks n = let off : n - 0 ≡ n = omega arith in ap (slice_get ks) off

agree_all : (ks : List Kind) (rows : List PatchRow) → Agree 0 ks rows → All (λ r. slice_get ks r.rank ≡ Some (payload.kind_of r.payload)) rows
agree_all ks [] a = All-nil (λ (r : PatchRow). slice_get ks r.rank ≡ Some (payload.kind_of r.payload))
agree_all ks (r ∷ rows) a = All-cons (λ (r : PatchRow). slice_get ks r.rank ≡ Some (payload.kind_of r.payload)) r rows (sym (same_off ks r.rank) ∙ a.1) (agree_all ks rows a.2)

agree_each : (ks : List Kind) (rows : List PatchRow) → All (λ r. slice_get ks r.rank ≡ Some (payload.kind_of r.payload)) rows → Agree 0 ks rows
agree_each ks [] a = tt
agree_each ks (r ∷ rows) a =
    let P : PatchRow → Type 0 = λ r. slice_get ks r.rank ≡ Some (payload.kind_of r.payload) in
    (omega arith, same_off ks r.rank ∙ All-head P r rows a, agree_each ks rows (All-tail P r rows a))

start_at : (rows : List PatchRow) → IsAt 0 (first_rank rows) rows
start_at [] = tt
start_at (r ∷ rows) = omega arith

fits_by_walk : (ks : List Kind) (rows : List PatchRow) → Ends (met_all ks (at_start rows)) ↔ Fits ks rows
fits_by_walk ks rows =
    let b = both ks 0 (first_rank rows) rows (start_at rows) in (
      λ done. let fit = b.0 done in record { rising = fit.rising; kinds_agree = agree_all ks rows fit.agree },
      λ fits. b.1 (record { rising = fits.rising; agree = agree_each ks rows fits.kinds_agree }),
    )

pub fits_if_walked : (ks : List Kind) (rows slice : List PatchRow) (start : Left) (o : Option Left) (b : Bool) → slice ≡ rows → start ≡ at_start slice → o ≡ met_all ks start → IsTrue b ↔ Ends o → IsTrue b ↔ Fits ks rows
fits_if_walked ks rows slice start o b all from walked done =
    let same : o ≡ met_all ks (at_start rows) = walked ∙ ap (met_all ks) (from ∙ ap at_start all) in
    let fits = fits_by_walk ks rows in
    (λ yes. fits.0 (subst Ends same (done.0 yes)), λ f. done.1 (subst Ends (sym same) (fits.1 f)))
