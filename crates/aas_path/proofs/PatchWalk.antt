-- A walk in preorder that puts each payload in its place.
use Rattle.std.proofs.Common.{◌≡◌, ℕ, suc, ◌+◌, ◌<◌, ◌≤◌, Bool, true, false, ◌==◌, List, [], ◌∷◌, ◌++◌, length, take, drop, set, get_or, refl, sym, ap, ◌∙◌, subst, append_assoc, arith, if◌then◌else◌}
use Rattle.std.proofs.Math.Seq.{take-suc-set, drop-cons, take-append_seam}
use Rattle.std.proofs.Math.Numerals.{add-one}
use Rattle.std.proofs.lemmas.Bool.Decides.{Decides-eqb}
use Rattle.std.proofs.lemmas.List.{drop-set-lt, take_all, drop_all, append-nil}
use Rattle.aas_model.specs.declared.element.Element.{Element, Element-F, out-Element, roll-Element}
use Rattle.aas_model.specs.declared.patch.PatchRow.{PatchRow}
use Rattle.aas_model.specs.declared.payload.Payload.{Payload}
use Rattle.aas_path.specs.Gaps.{gap}
use Rattle.aas_path.specs.Walk.{Left, behind, one_less, taken, IsNext, Stands, Patches, PatchesAll}
use Rattle.aas_model_text.specs.Many.{filled}
use Rattle.aas_path_trees.specs.Children.{kids_of}
use Rattle.aas_path_trees.specs.Patched.{RiseFrom, payload_at, patched, patched_all}
use Rattle.aas_path_trees.proofs.Patches.{patched_out}

-- ---- one element

-- no row from a rank on has a lower one
pub skipped : (k : ℕ) (r : PatchRow) (rows : List PatchRow) (own : Payload) → ¬ (r.rank ≡ k) → (b : Bool) → (r.rank == k) ≡ b → payload_at k (r ∷ rows) own ≡ payload_at k rows own
skipped k r rows own other true e = absurd (other ((Decides-eqb r.rank k).0 e))
skipped k r rows own other false e = ap (λ b. if b then r.payload else payload_at k rows own) e

pub none_below : (k m : ℕ) (rows : List PatchRow) (own : Payload) → k ≤ m → RiseFrom m rows → payload_at k rows own ≡ own
none_below k m [] own le up = refl
none_below k m (r ∷ rows) own le up =
    let above : k < r.rank = omega (arith, up.0) in skipped k r rows own (λ e. absurd (omega arith)) (r.rank == k) refl ∙ none_below k r.rank rows own (omega arith) up.1

next_behind : (k m : ℕ) (rows : List PatchRow) → m ≡ k → RiseFrom m rows → IsNext (k + 1) (gap m rows) rows
next_behind k m [] at up = tt
next_behind k m (r ∷ rows) at up = (omega (arith, up.0), up.1)

-- what a walk took at an element of rank k
record Took (all : List PatchRow) (k : ℕ) (own : Payload) (t : Payload × Left) : Type 0 where
  payload : t.0 ≡ payload_at k all own
  stands : Stands all (k + 1) t.1

took_by : (all : List PatchRow) (k n : ℕ) (own : Payload) (r : PatchRow) (rows : List PatchRow) → Stands all k (record { distance = n; rows = r ∷ rows }) → (b : Bool) → (n == 0) ≡ b
    → Took all k own (if b then (r.payload, behind r rows) else (own, one_less n (r ∷ rows)))
took_by all k n own r rows s true is =
    let none : n ≡ 0 = (Decides-eqb n 0).0 is in
    let here : r.rank ≡ k = omega (arith, s.next.0) in
    let its : payload_at k (r ∷ rows) own ≡ r.payload = ap (λ b. if b then r.payload else payload_at k rows own) ((Decides-eqb r.rank k).1 here) in record {
      payload = sym its ∙ s.same k own (omega arith);
      stands = record {
        same = λ j own le. sym (skipped j r rows own (λ e. absurd (omega arith)) (r.rank == j) refl) ∙ s.same j own (omega arith);
        next = next_behind k r.rank rows here s.next.1;
      };
    }
took_by all k n own r rows s false is =
    let some : ¬ (n ≡ 0) = λ e. absurd (not_zero n is e) in
    let above : k < r.rank = omega (arith, s.next.0) in record {
      payload = sym (none_below k k (r ∷ rows) own (omega arith) (above, s.next.1)) ∙ s.same k own (omega arith);
      stands = record { same = λ j own le. s.same j own (omega arith); next = (omega (arith, s.next.0), s.next.1) };
    }
  where
    not_zero : (n : ℕ) → (n == 0) ≡ false → n ≡ 0 → ⊥
    not_zero n a e = let yes : (n == 0) ≡ true = (Decides-eqb n 0).1 e in absurd (cc)

took : (all : List PatchRow) (k n : ℕ) (own : Payload) (rows : List PatchRow) → Stands all k (record { distance = n; rows = rows }) → Took all k own (taken own n rows)
took all k n own [] s = record { payload = s.same k own (omega arith); stands = record { same = λ j own le. s.same j own (omega arith); next = tt } }
took all k n own (r ∷ rows) s = took_by all k n own r rows s (n == 0) refl

pub filled_all : (xs ws : List Element) → length ws ≡ length xs → filled xs ws ≡ ws
filled_all xs ws e = ap (λ n. take n (ws ++ drop (length ws) xs)) (sym e) ∙ take-append_seam ws _

-- an element whose own attributes were taken first, and whose children were then patched as the slice kids
pub one_patched : (e : Element) (m : Element-F Element) (own : Payload) (kids new : List Element) (before mid after : Left) → m ≡ record (out-Element e) { payload = own } → (own, mid) ≡ taken (out-Element e).payload before.distance before.rows
    → kids ≡ m.kids → length new ≡ length kids → PatchesAll kids new mid after → Patches e (roll-Element (record m { kids = filled m.kids new })) before after
one_patched e m own kids new before mid after is own_is kids_is long more all k stands =
    let t = took all k before.distance (out-Element e).payload before.rows stands in
    let mid_stands : Stands all (k + 1) mid = subst (Stands all (k + 1)) (sym (ap (λ (t : Payload × Left). t.1) own_is)) t.stands in
    let rest = more all (k + 1) mid_stands in
    let kids_e : kids ≡ kids_of e = kids_is ∙ ap (λ (m : Element-F Element). m.kids) is in
    let payload : own ≡ payload_at k all (out-Element e).payload = ap (λ (t : Payload × Left). t.0) own_is ∙ t.payload in
    let all_kids : new ≡ (patched_all all (kids_of e) (k + 1)).0 = rest.0 ∙ ap (λ (ks : List Element). (patched_all all ks (k + 1)).0) kids_e in
    let rank : (patched_all all kids (k + 1)).1 ≡ (patched all e k).1 = ap (λ (ks : List Element). (patched_all all ks (k + 1)).1) kids_e ∙ sym (ap (λ (r : Element × ℕ). r.1) (patched_out all e k)) in (
      ap (λ (ks : List Element). roll-Element (record m { kids = ks })) (filled_all m.kids new (long ∙ ap length kids_is))
          ∙ ap (λ (f : Element-F Element). roll-Element (record f { kids = new })) is
          ∙ (λ i. roll-Element (record (out-Element e) { payload = payload i; kids = all_kids i }))
          ∙ sym (ap (λ (r : Element × ℕ). r.0) (patched_out all e k)),
      subst (λ (n : ℕ). Stands all n after) rank rest.1,
    )

-- ---- one element behind the other

-- a loop over children that stand from rank k on, of which some are done
pub record Reached (all : List PatchRow) (k : ℕ) (start done rest : List Element) (left : Left) : Type 0 where
  pub rank : ℕ
  pub stands : Stands all rank left
  pub same : patched_all all start k ≡ (done ++ (patched_all all rest rank).0, (patched_all all rest rank).1)

abbrev pub ReachedBy : List Element → Left → List Element → List Element → Left → Type 0
ReachedBy start before done rest left = (all : List PatchRow) (k : ℕ) → Stands all k before → Reached all k start done rest left

pub set_out : (ks : List Element) (before : Left) → ReachedBy ks before [] ks before
set_out ks before all k stands = record { rank = k; stands = stands; same = refl }

turn_at : (all : List PatchRow) (k : ℕ) (start ks : List Element) (i : ℕ) (x y : Element) (before after : Left) → i < length ks → x ≡ get_or ks i x → Patches x y before after
    → Reached all k start (take i ks) (drop i ks) before → Reached all k start (take (i + 1) (set ks i y)) (drop (i + 1) (set ks i y)) after
turn_at all k start ks i x y before after lt at one so_far =
    let front : drop i ks ≡ x ∷ drop (i + 1) ks = drop-cons ks i x lt ∙ ap (λ y. y ∷ drop (suc i) ks) (sym at) ∙ ap (λ n. x ∷ drop n ks) (sym (add-one i)) in
    let rest : drop (i + 1) ks ≡ drop (i + 1) (set ks i y) = sym (drop-set-lt (i + 1) ks i y (omega arith)) in
    let done : take i ks ++ y ∷ [] ≡ take (i + 1) (set ks i y) = sym (ap (λ n. take n (set ks i y)) (add-one i) ∙ take-suc-set ks i y lt) in
    let here = one all so_far.rank so_far.stands in
    let rank : ℕ = (patched all x so_far.rank).1 in
    let more : List Element → List Element × ℕ = λ ks. patched_all all ks rank in record {
      rank = rank;
      stands = here.1;
      same =
          so_far.same
          ∙ ap (λ (zs : List Element). (take i ks ++ (patched_all all zs so_far.rank).0, (patched_all all zs so_far.rank).1)) front
          ∙ ap (λ (z : Element). (take i ks ++ z ∷ (more (drop (i + 1) ks)).0, (more (drop (i + 1) ks)).1)) (sym here.0)
          ∙ ap (λ (zs : List Element). (zs, (more (drop (i + 1) ks)).1)) (sym (append_assoc (take i ks) (y ∷ []) (more (drop (i + 1) ks)).0))
          ∙ (λ j. (done j ++ (more (rest j)).0, (more (rest j)).1));
    }

pub turn : (start ks : List Element) (i : ℕ) (x y : Element) (first before after : Left) → i < length ks → x ≡ get_or ks i x → Patches x y before after
    → ReachedBy start first (take i ks) (drop i ks) before → ReachedBy start first (take (i + 1) (set ks i y)) (drop (i + 1) (set ks i y)) after
turn start ks i x y first before after lt at one so_far all k stands = turn_at all k start ks i x y before after lt at one (so_far all k stands)

-- at the end of the loop nothing is left
ended_at : (all : List PatchRow) (k : ℕ) (start ks : List Element) (i : ℕ) (after : Left) → length ks ≤ i → Reached all k start (take i ks) (drop i ks) after
    → (ks ≡ (patched_all all start k).0) × Stands all (patched_all all start k).1 after
ended_at all k start ks i after le r =
    let none : drop i ks ≡ [] = drop_all i ks le in
    let whole : patched_all all start k ≡ (ks, r.rank) =
    r.same ∙ (λ j. (take_all i ks le j ++ (patched_all all (none j) r.rank).0, (patched_all all (none j) r.rank).1)) ∙ (λ j. (append-nil ks j, r.rank)) in
    (sym (ap (λ (p : List Element × ℕ). p.0) whole), subst (λ (n : ℕ). Stands all n after) (sym (ap (λ (p : List Element × ℕ). p.1) whole)) r.stands)

pub ended : (start ks : List Element) (i : ℕ) (before after : Left) → length ks ≤ i → ReachedBy start before (take i ks) (drop i ks) after → PatchesAll start ks before after
ended start ks i before after le so_far all k stands = ended_at all k start ks i after le (so_far all k stands)
