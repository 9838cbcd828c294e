-- Where elements stand in a table.
use Rattle.std.proofs.Common.{◌≡◌, ℕ, zero, suc, ◌+◌, ◌-◌, ◌<◌, ◌≤◌, Bool, true, false, cond, List, [], ◌∷◌, ◌++◌}
use Rattle.std.proofs.Common.{length, take, drop, get_or, Option, Some, None, option_map, slice_get, refl, sym, ap, ap₂}
use Rattle.std.proofs.Common.{◌∙◌, append_assoc, arith, length-append, length-drop, min, if◌then◌else◌}
use Rattle.std.proofs.lemmas.List.{length-take, length-map}
use Rattle.aas_model.specs.declared.element.Element.{Element}
use Rattle.aas_model.specs.declared.path.PathStep.{PathStep}
use Rattle.aas_model.specs.declared.path.PathStep.TheVariants.{Name, Place}
use Rattle.aas_path_trees.specs.Children.{kids_of, is_list, is_list_payload}
use Rattle.std.specs.Option.{option_map_or}
use Rattle.aas_path_trees.specs.ElementAt.{child_by, depth_below, depth_among}
use Rattle.aas_path_trees.proofs.Paths.{child_by-there}
use Rattle.aas_rows.specs.Children.{nth_where, is_at, is_named, row_of_step}
use Rattle.aas_rows.specs.Edits.{count, rank_among}
use Rattle.aas_rows.specs.Rows.{Line, line_at, rows, rows_of_all, levels_of, sizes, BeginsRows}
use Rattle.aas_rows.proofs.Trees.{rows_out, rows_begin}
use Rattle.aas_rows.proofs.Edited.{child_rows, count_at}
use Rattle.aas_rows.proofs.Sizing.{size_at, size_inside, size_positive}
use Rattle.std.specs.List.{count_by}
use Rattle.std.proofs.lemmas.List.Sums.{sum_by-cons}
use Rattle.aas_lemmas.proofs.Lists.{at_seam}
use Rattle.aas_rows.proofs.Counting.{have_child_count}
use Rattle.aas_rows.proofs.Ranked.{StandsAt}
use Rattle.aas_rows.proofs.Stepping.{first_where, have_child_rows, map_twice, position_first}
use Rattle.aas_rows.proofs.Stepping.{position_inside, nth_inside}
use Rattle.aas_store.proofs.Paths.{no_steps, rank_ends, rank_goes_on, rank_lost}
use Rattle.aas_sheet_rows.specs.Found.{side_of_step, Among}
use Rattle.aas_sheet_index.specs.Sides.{is_below, is_named_below}
use Rattle.aas_sheet_rows.specs.Table.{line_of, lines_of, IsTable}
use Rattle.aas_sheet_index.specs.Sides.{levels, sizes_of}
use Rattle.aas_sheet_rows.specs.declared.row.Row.{Row}
use Rattle.aas_sheet_index.specs.declared.side.Side.{Side}
use Rattle.aas_sheet_rows.proofs.Loans.{levels_same}

abbrev Child : Type 0
Child = ℕ × Element

-- ---- columns and lines

first_same : (p : Side → Bool) (q : Line → Bool) → ((r : Row) (s : Side) → p s ≡ q (line_of r s))
    → (rs : List Row) (ss : List Side) → length rs ≡ length ss → first_where p ss ≡ first_where q (lines_of rs ss)
first_same p q h [] [] e = refl
first_same p q h [] (s ∷ ss) e = absurd (omega arith)
first_same p q h (r ∷ rs) [] e = absurd (omega arith)
first_same p q h (r ∷ rs) (s ∷ ss) e =
    ap₂ (λ b o. if b then Some 0 else option_map (λ i. i + 1) o) (h r s) (first_same p q h rs ss (omega arith))

nth_same : (p : Side → Bool) (q : Line → Bool)
    → ((r : Row) (s : Side) → p s ≡ q (line_of r s)) → (n : ℕ) (rs : List Row) (ss : List Side)
    → length rs ≡ length ss → nth_where p n ss ≡ nth_where q n (lines_of rs ss)
nth_same p q h n [] [] e = refl
nth_same p q h n [] (s ∷ ss) e = absurd (omega arith)
nth_same p q h n (r ∷ rs) [] e = absurd (omega arith)
nth_same p q h zero (r ∷ rs) (s ∷ ss) e =
    ap₂ (λ b o. if b then Some 0 else option_map (λ i. i + 1) o) (h r s) (nth_same p q h zero rs ss (omega arith))
nth_same p q h (suc n) (r ∷ rs) (s ∷ ss) e =
    ap₂ (λ b o. option_map (λ i. i + 1) (if b then o else nth_where p (suc n) ss))
    (h r s) (nth_same p q h n rs ss (omega arith))
    ∙ ap (λ o. option_map (λ i. i + 1) (if q (line_of r s) then nth_where q n (lines_of rs ss) else o))
    (nth_same p q h (suc n) rs ss (omega arith))

step_same : (l : Bool) (s : PathStep) (k : ℕ) (rs : List Row) (ss : List Side)
    → length rs ≡ length ss → side_of_step l s k ss ≡ row_of_step l s (k + 1) (lines_of rs ss)
step_same true (Name n) k rs ss e = refl
step_same false (Name n) k rs ss e =
    sym (position_first (is_named_below k n) ss)
    ∙ first_same (is_named_below k n) (is_named (k + 1) n) (λ r s. refl) rs ss e
    ∙ position_first (is_named (k + 1) n) (lines_of rs ss)
step_same true (Place i) k rs ss e = nth_same (is_below k) (is_at (k + 1)) (λ r s. refl) i rs ss e
step_same false (Place i) k rs ss e = refl

pub lines_drop : (n : ℕ) (rs : List Row) (ss : List Side)
    → length rs ≡ length ss → lines_of (drop n rs) (drop n ss) ≡ drop n (lines_of rs ss)
lines_drop zero rs ss e = refl
lines_drop (suc n) [] ss e = refl
lines_drop (suc n) (r ∷ rs) [] e = absurd (omega arith)
lines_drop (suc n) (r ∷ rs) (s ∷ ss) e = lines_drop n rs ss (omega arith)

pub lines_take : (n : ℕ) (rs : List Row) (ss : List Side) → lines_of (take n rs) (take n ss) ≡ take n (lines_of rs ss)
lines_take zero rs ss = refl
lines_take (suc n) [] ss = refl
lines_take (suc n) (r ∷ rs) [] = refl
lines_take (suc n) (r ∷ rs) (s ∷ ss) = ap (λ ls. line_of r s ∷ ls) (lines_take n rs ss)

pub same_drop : (n : ℕ) (rs : List Row) (ss : List Side)
    → length rs ≡ length ss → length (drop n rs) ≡ length (drop n ss)
same_drop n rs ss e = length-drop n rs ∙ ap (λ m. m - n) e ∙ sym (length-drop n ss)

pub same_take : (n : ℕ) (rs : List Row) (ss : List Side)
    → length rs ≡ length ss → length (take n rs) ≡ length (take n ss)
same_take n rs ss e = length-take n rs ∙ ap (min n) e ∙ sym (length-take n ss)

cut_out : (b m a : List Line) (first n : ℕ) → length b ≡ first → length m ≡ n → take n (drop first (b ++ (m ++ a))) ≡ m
cut_out b m a first n is long = ap₂ (λ n k. take n (drop k (b ++ (m ++ a)))) (sym long) (sym is) ∙ behind b ∙ front m
  where
    front : (m : List Line) → take (length m) (m ++ a) ≡ m
    front [] = refl
    front (x ∷ m) = ap (λ xs. x ∷ xs) (front m)

    behind : (b : List Line) → take (length m) (drop (length b) (b ++ (m ++ a))) ≡ take (length m) (m ++ a)
    behind [] = refl
    behind (x ∷ b) = behind b

below_same : (k : ℕ) (rs : List Row) (ss : List Side)
    → length rs ≡ length ss → count_by (is_below k) ss ≡ count_by (is_at (k + 1)) (lines_of rs ss)
below_same k [] [] e = refl
below_same k [] (s ∷ ss) e = absurd (omega arith)
below_same k (r ∷ rs) [] e = absurd (omega arith)
below_same k (r ∷ rs) (s ∷ ss) e =
    sum_by-cons (λ (s : Side). cond (is_below k s) 1 0) s ss
    ∙ ap (λ n. cond (is_below k s) 1 0 + n) (below_same k rs ss (omega arith))
    ∙ sym (sum_by-cons (λ (r : Line). cond (is_at (k + 1) r) 1 0) (line_of r s) (lines_of rs ss))

-- where a table's rows are those of siblings, it has as many rows of their level
pub siblings_counted : (k : ℕ) (rs : List Row) (ss : List Side) (ks : List Element)
    → length rs ≡ length ss → rows_of_all ks (k + 1) ≡ lines_of rs ss → count_by (is_below k) ss ≡ length ks
siblings_counted k rs ss ks long are =
    below_same k rs ss long ∙ ap (count_by (is_at (k + 1))) (sym are) ∙ have_child_count ks (k + 1)

-- a step from rows leads to the child to which it leads
pub step_found : (rs : List Row) (ss : List Side) (first end k : ℕ) (ks : List Element) (l : Bool) (s : PathStep)
    → IsTable rs ss → Among rs ss first end k ks
    → option_map (λ i. first + i) (side_of_step l s k (take (end - first) (drop first ss)))
    ≡ option_map (λ (c : Child). first + count (take c.0 ks)) (child_by l s ks)
step_found rs ss first end k ks l s t a =
    let n : ℕ = end - first in
    let long : length (rows_of_all ks (k + 1)) ≡ n = omega (arith, a.stop) in
    let here : lines_of (take n (drop first rs)) (take n (drop first ss)) ≡ rows_of_all ks (k + 1) =
    lines_take n (drop first rs) (drop first ss)
    ∙ ap (take n) (lines_drop first rs ss t.long) ∙ ap (λ ls. take n (drop first ls)) a.whole
    ∙ cut_out a.before (rows_of_all ks (k + 1)) a.behind first n a.start long in
    ap (option_map (λ i. first + i))
    (step_same l s k (take n (drop first rs)) (take n (drop first ss))
    (same_take n (drop first rs) (drop first ss) (same_drop first rs ss t.long))
    ∙ ap (row_of_step l s (k + 1)) here ∙ have_child_rows l s ks (k + 1))
    ∙ map_twice (λ i. first + i) (λ (c : Child). count (take c.0 ks)) (child_by l s ks)

-- ---- one element

pub line_there : (rs : List Row) (ss : List Side) (n : ℕ) (r : Row) (s : Side) → length rs ≡ length ss → n < length ss
    → slice_get (lines_of rs ss) n ≡ Some (line_of (get_or rs n r) (get_or ss n s))
line_there [] [] n r s e lt = absurd (omega arith)
line_there [] (s' ∷ ss) n r s e lt = absurd (omega arith)
line_there (r' ∷ rs) [] n r s e lt = absurd (omega arith)
line_there (r' ∷ rs) (s' ∷ ss) zero r s e lt = refl
line_there (r' ∷ rs) (s' ∷ ss) (suc n) r s e lt = line_there rs ss n r s (omega arith) (omega arith)

-- the row of an element
pub own_row : (rs : List Row) (ss : List Side) (k rank : ℕ) (e : Element)
    (row : Row) (side : Side) (s : StandsAt (lines_of rs ss) k rank e)
    → length rs ≡ length ss → rank < length ss → row ≡ get_or rs rank row → side ≡ get_or ss rank side
    → line_of row side ≡ line_at s.level e
own_row rs ss k rank e row side s long lt row_is side_is =
    let below : List Line = rows_of_all (kids_of e) (s.level + 1) in
    let found : Some (line_of row side) ≡ Some (line_at s.level e) =
    (λ i. Some (line_of (row_is i) (side_is i))) ∙ sym (line_there rs ss rank row side long lt)
    ∙ ap (λ n. slice_get (lines_of rs ss) n) (sym s.at)
    ∙ ap (λ ls. slice_get ls (length s.before)) (s.whole ∙ ap (λ xs. s.before ++ (xs ++ s.behind)) (rows_out e s.level))
    ∙ at_seam s.before (line_at s.level e) (below ++ s.behind) in
    cc

-- an element that stands among rows: its own row, and the rows below it up to end
pub record Stood (rs : List Row) (ss : List Side) (rank end : ℕ) (e : Element) (row : Row) (side : Side) : Type 0 where
  pub in_list : is_list_payload row.payload ≡ is_list e
  pub kids : Among rs ss (rank + 1) end side.level (kids_of e)

weaker : (k l : ℕ) (later : List Line) → k ≡ l → BeginsRows l later → BeginsRows (k + 1) later
weaker k l [] e h = tt
weaker k l (r ∷ rs) e h = omega (arith, h)

-- the size of an element that stands among rows
pub own_size : (rs : List Row) (ss : List Side) (k rank size : ℕ) (e : Element) (s : StandsAt (lines_of rs ss) k rank e)
    → IsTable rs ss → slice_get (sizes_of ss) rank ≡ Some size → size ≡ length (rows e s.level)
own_size rs ss k rank size e s t is =
    let same : Some size ≡ Some (length (rows e s.level)) =
    sym is ∙ ap (λ ns. slice_get ns rank) (t.sized ∙ ap sizes (sym (levels_same rs ss t.long) ∙ ap levels_of s.whole))
    ∙ ap (λ n. slice_get (sizes (levels_of (s.before ++ (rows e s.level ++ s.behind)))) n) (sym s.at)
    ∙ size_at s.before e s.level s.behind s.higher in
    cc

pub stood : (rs : List Row) (ss : List Side) (k rank end : ℕ) (e : Element) (row : Row) (side : Side) → IsTable rs ss
    → StandsAt (lines_of rs ss) k rank e → rank < length ss → row ≡ get_or rs rank row → side ≡ get_or ss rank side
    → slice_get (sizes_of ss) rank ≡ Some (end - rank) → rank < end → Stood rs ss rank end e row side
stood rs ss k rank end e row side t s lt row_is side_is size above =
    let own : Line = line_at s.level e in
    let below : List Line = rows_of_all (kids_of e) (s.level + 1) in
    let same : line_of row side ≡ own = own_row rs ss k rank e row side s t.long lt row_is side_is in
    let level : side.level ≡ s.level = ap (λ (r : Line). r.level) same in
    let tall : end - rank ≡ length (rows e s.level) = own_size rs ss k rank (end - rank) e s t size in record {
      in_list = ap (λ (r : Line). is_list_payload r.payload) same;
      kids = record {
        before = s.before ++ own ∷ [];
        behind = s.behind;
        whole =
            s.whole ∙ ap (λ xs. s.before ++ (xs ++ s.behind)) (rows_out e s.level)
            ∙ sym (append_assoc s.before (own ∷ []) (below ++ s.behind))
            ∙ ap (λ n. (s.before ++ own ∷ []) ++ (rows_of_all (kids_of e) (n + 1) ++ s.behind)) (sym level);
        start = length-append s.before (own ∷ []) ∙ ap (λ n. n + 1) s.at;
        stop =
            ap (λ n. rank + 1 + length (rows_of_all (kids_of e) (n + 1))) level
            ∙ ends (length below) (length (rows e s.level)) (ap length (rows_out e s.level)) tall;
        higher = weaker side.level s.level s.behind level s.higher;
      };
    }
  where
    ends : (n m : ℕ) → m ≡ suc n → end - rank ≡ m → rank + 1 + n ≡ end
    ends n m e f = omega arith

-- a child that stands among rows with its siblings
child_stands : (rs : List Row) (ss : List Side) (first end k rank : ℕ)
    (ks : List Element) (l : Bool) (s : PathStep) (c : Child)
    → Among rs ss first end k ks → child_by l s ks ≡ Some c → rank ≡ first + count (take c.0 ks)
    → StandsAt (lines_of rs ss) (k + 1) rank c.1
child_stands rs ss first end k rank ks l s c a is at =
    let front : List Line = rows_of_all (take c.0 ks) (k + 1) in
    let rest : List Line = rows_of_all (drop (c.0 + 1) ks) (k + 1) in record {
      before = a.before ++ front;
      behind = rest ++ a.behind;
      level = k + 1;
      whole = a.whole
          ∙ ap (λ xs. a.before ++ (xs ++ a.behind)) (child_rows ks c.0 c.1 (k + 1) (child_by-there l s ks c is).1)
          ∙ ap (λ xs. a.before ++ xs)
          (append_assoc front (rows c.1 (k + 1) ++ rest) a.behind
          ∙ ap (λ xs. front ++ xs) (append_assoc (rows c.1 (k + 1)) rest a.behind))
          ∙ sym (append_assoc a.before front (rows c.1 (k + 1) ++ (rest ++ a.behind)));
      at = length-append a.before front ∙ ap₂ (λ m n. m + n) a.start (count_at (take c.0 ks) (k + 1)) ∙ sym at;
      higher = rows_begin (drop (c.0 + 1) ks) (k + 1) a.behind a.higher;
      deep = omega arith;
    }

-- the child to which a step leads
pub record Stepped (rs : List Row) (ss : List Side) (first k rank : ℕ) (ks : List Element) (l : Bool) (s : PathStep) :
    Type 0 where
  pub child : Child
  pub by_step : child_by l s ks ≡ Some child
  pub at : rank ≡ first + count (take child.0 ks)
  pub stands : StandsAt (lines_of rs ss) (k + 1) rank child.1

pub stepped : (rs : List Row) (ss : List Side) (first end k rank : ℕ) (ks : List Element) (l : Bool) (s : PathStep)
    → IsTable rs ss → Among rs ss first end k ks
    → Some rank ≡ option_map (λ i. first + i) (side_of_step l s k (take (end - first) (drop first ss)))
    → Stepped rs ss first k rank ks l s
stepped rs ss first end k rank ks l s t a is = by (child_by l s ks) refl
  where
    by : (o : Option Child) → child_by l s ks ≡ o → Stepped rs ss first k rank ks l s
    by None none =
        let lost : Some rank ≡ None = is ∙ step_found rs ss first end k ks l s t a
        ∙ ap (option_map (λ (c : Child). first + count (take c.0 ks))) none in
        absurd (cc)
    by (Some c) found =
        let same : Some rank ≡ Some (first + count (take c.0 ks)) = is ∙ step_found rs ss first end k ks l s t a
        ∙ ap (option_map (λ (c : Child). first + count (take c.0 ks))) found in
        let at : rank ≡ first + count (take c.0 ks) = cc in
        record { child = c; by_step = found; at = at; stands = child_stands rs ss first end k rank ks l s c a found at }

pub no_child : (rs : List Row) (ss : List Side) (first end k : ℕ) (ks : List Element) (l : Bool) (s : PathStep)
    → IsTable rs ss → Among rs ss first end k ks
    → None ≡ option_map (λ i. first + i) (side_of_step l s k (take (end - first) (drop first ss)))
    → child_by l s ks ≡ None
no_child rs ss first end k ks l s t a is = by (child_by l s ks) (is ∙ step_found rs ss first end k ks l s t a)
  where
    by : (o : Option Child) → None ≡ option_map (λ (c : Child). first + count (take c.0 ks)) o → o ≡ None
    by None e = refl
    by (Some c) e = absurd (cc)

-- ---- steps inside

pub side_inside : (l : Bool) (s : PathStep) (k : ℕ) (ss : List Side) (i : ℕ)
    → side_of_step l s k ss ≡ Some i → i < length ss
side_inside true (Name n) k ss i e = absurd (cc)
side_inside false (Name n) k ss i e = position_inside (is_named_below k n) ss i e
side_inside true (Place j) k ss i e = nth_inside (is_below k) j ss i e
side_inside false (Place j) k ss i e = absurd (cc)

pub rank_inside : (l : Bool) (s : PathStep) (k first end : ℕ) (ss : List Side) (i : ℕ)
    → first ≤ end → Some i ≡ side_of_step l s k (take (end - first) (drop first ss)) → first + i < end
rank_inside l s k first end ss i le e =
    let lt = side_inside l s k (take (end - first) (drop first ss)) i (sym e) in
    let long : length (take (end - first) (drop first ss)) ≤ end - first =
    omega (arith, length-take (end - first) (drop first ss)) in
    omega (arith, lt, long)

-- ---- sizes

size_there : (ss : List Side) (n : ℕ) (side : Side)
    → n < length ss → slice_get (sizes_of ss) n ≡ Some (get_or ss n side).size
size_there [] n side lt = absurd (omega arith)
size_there (s ∷ ss) zero side lt = refl
size_there (s ∷ ss) (suc n) side lt = size_there ss n side (omega arith)

pub record Sized (ss : List Side) (rank : ℕ) (side : Side) : Type 0 where
  pub there : slice_get (sizes_of ss) rank ≡ Some side.size
  pub some : 0 < side.size
  pub inside : rank + side.size ≤ length ss

pub size_facts : (rs : List Row) (ss : List Side) (rank : ℕ) (side : Side)
    → IsTable rs ss → rank < length ss → side ≡ get_or ss rank side → Sized ss rank side
size_facts rs ss rank side t lt is =
    let there : slice_get (sizes_of ss) rank ≡ Some side.size =
    size_there ss rank side lt ∙ ap (λ (s : Side). Some s.size) (sym is) in
    let same : slice_get (sizes (levels ss)) rank ≡ Some side.size =
    ap (λ ns. slice_get ns rank) (sym t.sized) ∙ there in
    let end = size_inside (levels ss) rank side.size same in record {
      there = there;
      some = size_positive (levels ss) rank side.size same;
      inside = omega (arith, end, length-map ss (λ (s : Side). s.level));
    }

-- ---- paths

pub path_ends : (rs : List Row) (ss : List Side) (first k rank : ℕ)
    (ks : List Element) (l : Bool) (s : PathStep) (p : List PathStep)
    → length p ≡ 0 → (st : Stepped rs ss first k rank ks l s)
    → (Some rank ≡ option_map (λ r. first + r) (rank_among l s p ks)) × (1 ≡ depth_among l s p ks)
unfolding depth_below
path_ends rs ss first k rank ks l s p none st =
    let end = no_steps p none in (
      rank_ends l s p ks st.child first rank st.by_step st.at end,
      ap (λ p. depth_below p st.child.1 + 1) (sym end)
          ∙ ap (λ o. option_map_or (λ (c : Child). depth_below p c.1 + 1) o 0) (sym st.by_step),
    )

-- a path that goes on leads on from the child to which its first step leads
pub path_goes_on : (rs : List Row) (ss : List Side) (first k rank : ℕ)
    (ks : List Element) (l : Bool) (s t : PathStep) (p q : List PathStep)
    → p ≡ t ∷ q → (st : Stepped rs ss first k rank ks l s)
    → (option_map (λ r. rank + 1 + r) (rank_among (is_list st.child.1) t q (kids_of st.child.1))
    ≡ option_map (λ r. first + r) (rank_among l s p ks))
    × (depth_among (is_list st.child.1) t q (kids_of st.child.1) + 1 ≡ depth_among l s p ks)
unfolding depth_below
path_goes_on rs ss first k rank ks l s t p q path st = (
  rank_goes_on l s t p q ks st.child first rank st.by_step st.at path,
  ap (λ p. depth_below p st.child.1 + 1) (sym path)
      ∙ ap (λ o. option_map_or (λ (c : Child). depth_below p c.1 + 1) o 0) (sym st.by_step),
)

pub path_lost : (rs : List Row) (ss : List Side) (first end k : ℕ)
    (ks : List Element) (l : Bool) (s : PathStep) (p : List PathStep)
    → IsTable rs ss → Among rs ss first end k ks
    → None ≡ option_map (λ i. first + i) (side_of_step l s k (take (end - first) (drop first ss)))
    → (None ≡ option_map (λ r. first + r) (rank_among l s p ks)) × (0 ≡ depth_among l s p ks)
path_lost rs ss first end k ks l s p t a is =
    let none = no_child rs ss first end k ks l s t a is in (
      rank_lost l s p ks first none,
      ap (λ o. option_map_or (λ (c : Child). depth_below p c.1 + 1) o 0) (sym none),
    )

-- from a child that stands in a table a path leads on as from its row
pub record LeadsOn (rs : List Row) (ss : List Side) (first rank end k : ℕ)
    (ks : List Element) (l in_list : Bool) (s t : PathStep) (p q : List PathStep) : Type 0 where
  pub kids : List Element
  pub among : Among rs ss (rank + 1) end k kids
  pub ranked : option_map (λ r. rank + 1 + r) (rank_among in_list t q kids)
      ≡ option_map (λ r. first + r) (rank_among l s p ks)
  pub deep : depth_among in_list t q kids + 1 ≡ depth_among l s p ks

pub leads_on : (rs : List Row) (ss : List Side) (first end k rank next : ℕ) (ks : List Element)
    (l in_list : Bool) (s t : PathStep) (p q : List PathStep) (row : Row) (side : Side)
    → IsTable rs ss → Among rs ss first end k ks
    → Some rank ≡ option_map (λ i. first + i) (side_of_step l s k (take (end - first) (drop first ss)))
    → p ≡ t ∷ q → rank < length ss → row ≡ get_or rs rank row → side ≡ get_or ss rank side
    → slice_get (sizes_of ss) rank ≡ Some (next - rank) → rank < next → in_list ≡ is_list_payload row.payload
    → LeadsOn rs ss first rank next side.level ks l in_list s t p q
leads_on rs ss first end k rank next ks l in_list s t p q row
    side table a is path inside row_is side_is size above listed =
    let st = stepped rs ss first end k rank ks l s table a is in
    let own = stood rs ss (k + 1) rank next st.child.1 row side table st.stands inside row_is side_is size above in
    let on = path_goes_on rs ss first k rank ks l s t p q path st in
    let same : in_list ≡ is_list st.child.1 = listed ∙ own.in_list in record {
      kids = kids_of st.child.1;
      among = own.kids;
      ranked = ap (λ b. option_map (λ r. rank + 1 + r) (rank_among b t q (kids_of st.child.1))) same ∙ on.0;
      deep = ap (λ b. depth_among b t q (kids_of st.child.1) + 1) same ∙ on.1;
    }
