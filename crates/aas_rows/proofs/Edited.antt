-- An edit at a path changes the rows of what is there and no others.
use Rattle.std.proofs.Common.{◌≡◌, ℕ, suc, ◌+◌, List, [], ◌∷◌, ◌++◌, length, take, drop, Option, Some, None, option_and_then, option_map, slice_get, slice_set, refl, sym, ap, ap₂, ◌∙◌, append_assoc, arith, length-append, ◌≤◌, Bool, zero, remove}
use Rattle.std.proofs.Math.Seq.{drop-cons}
use Rattle.std.proofs.Math.Numerals.{add-one}
use Rattle.std.proofs.lemmas.Grind.{flat_map-append}
use Rattle.std.proofs.lemmas.List.{take-append-drop, take-set, drop-set, append-nil}
use Rattle.std.proofs.lemmas.Option.{get_or_from_slice_get, slice_get_within}
use Rattle.aas_model.specs.declared.element.Element.{Element, Element-F, out-Element, out-roll-Element}
use Rattle.aas_model.specs.declared.path.PathStep.{PathStep}
use Rattle.aas_path_trees.specs.Children.{kids_of, is_list, with_kids}
use Rattle.aas_path_trees.specs.ElementAt.{child_by, element_below, element_among}
use Rattle.aas_path_trees.specs.Edits.{without_child, removed_among}
use Rattle.aas_path_trees.specs.Patched.{kinds, kinds_of_all}
use Rattle.aas_path_trees.specs.WithElement.{with_child, with_below}
use Rattle.aas_path_trees.proofs.Patches.{kinds_out}
use Rattle.aas_path_trees.proofs.Paths.{child_by-there}
use Rattle.aas_rows.specs.Edits.{count, rank_below, rank_among}
use Rattle.aas_rows.specs.Rows.{Line, line_at, rows, rows_of_all, BeginsRows}
use Rattle.aas_rows.specs.Laws.{EditedRows}
use Rattle.aas_rows.proofs.Trees.{rows_out, Every, by_kids, every, begins_all, begins_more}

abbrev Child : Type 0
Child = ℕ × Element

-- ---- a child among its siblings

pub parts : (es : List Element) (i : ℕ) (e : Element) → slice_get es i ≡ Some e → es ≡ take i es ++ e ∷ drop (i + 1) es
parts es i e is =
    sym (take-append-drop i es)
    ∙ ap (λ ds. take i es ++ ds) (drop-cons es i e (slice_get_within es i e is) ∙ ap₂ (λ x n. x ∷ drop n es) (get_or_from_slice_get es i e e is) (sym (add-one i)))

pub parts_set : (es : List Element) (i : ℕ) (e w : Element) → slice_get es i ≡ Some e → slice_set es i w ≡ take i es ++ w ∷ drop (i + 1) es
parts_set es i e w is =
    sym (take-append-drop i (slice_set es i w)) ∙ ap₂ (λ xs ys. xs ++ ys) (take-set es i w) (drop-set es i w (slice_get_within es i e is))

pub child_rows : (es : List Element) (i : ℕ) (e : Element) (k : ℕ) → slice_get es i ≡ Some e
    → rows_of_all es k ≡ rows_of_all (take i es) k ++ (rows e k ++ rows_of_all (drop (i + 1) es) k)
child_rows es i e k is = ap (λ xs. rows_of_all xs k) (parts es i e is) ∙ flat_map-append (λ e. rows e k) (take i es) (e ∷ drop (i + 1) es)

pub child_rows_set : (es : List Element) (i : ℕ) (e w : Element) (k : ℕ) → slice_get es i ≡ Some e
    → rows_of_all (slice_set es i w) k ≡ rows_of_all (take i es) k ++ (rows w k ++ rows_of_all (drop (i + 1) es) k)
child_rows_set es i e w k is = ap (λ xs. rows_of_all xs k) (parts_set es i e w is) ∙ flat_map-append (λ e. rows e k) (take i es) (w ∷ drop (i + 1) es)

-- ---- as many rows as elements

AsMany : Element → Type 0
AsMany e = (k : ℕ) → length (rows e k) ≡ length (kinds e)

as_many_all : (es : List Element) → Every AsMany es → (k : ℕ) → length (rows_of_all es k) ≡ count es
unfolding AsMany
as_many_all [] h k = refl
as_many_all (e ∷ es) h k = length-append (rows e k) (rows_of_all es k) ∙ ap₂ (λ m n. m + n) (h.0 k) (as_many_all es h.1 k) ∙ sym (length-append (kinds e) (kinds_of_all es))

as_many : (e : Element) → Every AsMany (kids_of e) → AsMany e
unfolding AsMany
as_many e h k = ap length (rows_out e k) ∙ ap suc (as_many_all (kids_of e) h (k + 1)) ∙ sym (ap length (kinds_out e))

pub count_at : (es : List Element) (k : ℕ) → length (rows_of_all es k) ≡ count es
count_at es k = as_many_all es (every AsMany (by_kids AsMany as_many) es) k

-- ---- what is left where something is removed

-- what stands in the place of o once what a path leads to from it is removed
gone_below : List PathStep → Element → List Element
gone_below [] o = []
gone_below (t ∷ p) o = with_kids o (removed_among (is_list o) t p (kids_of o)) ∷ []

gone_among : List PathStep → List Element → Option Child → List Element
gone_among [] es f = without_child es f
gone_among (t ∷ p) es f = with_child (λ o. with_kids o (removed_among (is_list o) t p (kids_of o))) es f

removed_is : (l : Bool) (s : PathStep) (p : List PathStep) (es : List Element) → removed_among l s p es ≡ gone_among p es (child_by l s es)
unfolding removed_among gone_among
removed_is l s [] es = refl
removed_is l s (t ∷ p) es = refl

next : (i : ℕ) → suc (i + 1) ≡ suc i + 1
next i = omega arith

child_rows_gone : (es : List Element) (i : ℕ) (k : ℕ) → rows_of_all (remove es i) k ≡ rows_of_all (take i es) k ++ rows_of_all (drop (i + 1) es) k
child_rows_gone [] zero k = refl
child_rows_gone [] (suc i) k = ap (λ n. rows_of_all (drop n []) k) (next i)
child_rows_gone (e ∷ es) zero k = refl
child_rows_gone (e ∷ es) (suc i) k =
    ap (λ rs. rows e k ++ rs) (child_rows_gone es i k) ∙ sym (append_assoc (rows e k) (rows_of_all (take i es) k) (rows_of_all (drop (i + 1) es) k))
    ∙ ap (λ n. rows_of_all (take (suc i) (e ∷ es)) k ++ rows_of_all (drop n (e ∷ es)) k) (next i)

gone_rows : (p : List PathStep) (es : List Element) (k : ℕ) (c : Child) → slice_get es c.0 ≡ Some c.1
    → rows_of_all (gone_among p es (Some c)) k ≡ rows_of_all (take c.0 es) k ++ (rows_of_all (gone_below p c.1) k ++ rows_of_all (drop (c.0 + 1) es) k)
unfolding gone_among gone_below
gone_rows [] es k c is = child_rows_gone es c.0 k
gone_rows (t ∷ p) es k c is =
    let w : Element = with_kids c.1 (removed_among (is_list c.1) t p (kids_of c.1)) in
    child_rows_set es c.0 c.1 w k is ∙ ap (λ rs. rows_of_all (take c.0 es) k ++ (rs ++ rows_of_all (drop (c.0 + 1) es) k)) (sym (append-nil (rows w k)))

-- ---- down a path

record StandsUnder (p : List PathStep) (o : Element) (k : ℕ) (e : Element) : Type 0 where
  before : List Line
  behind : List Line
  level : ℕ
  at : rank_below p o ≡ Some (length before)
  whole : rows o k ≡ before ++ (rows e level ++ behind)
  edited : (w : Element) → rows (with_below p o w) k ≡ before ++ (rows w level ++ behind)
  removed : rows_of_all (gone_below p o) k ≡ before ++ behind
  higher : BeginsRows level behind
  deep : k ≤ level

-- the same of the child to which a step leads, if it does
record StandsAmong (p : List PathStep) (es : List Element) (k : ℕ) (e : Element) (f : Option Child) : Type 0 where
  before : List Line
  behind : List Line
  level : ℕ
  at : option_and_then (λ c. option_map (λ r. count (take c.0 es) + r) (rank_below p c.1)) f ≡ Some (length before)
  whole : rows_of_all es k ≡ before ++ (rows e level ++ behind)
  edited : (w : Element) → rows_of_all (with_child (λ o. with_below p o w) es f) k ≡ before ++ (rows w level ++ behind)
  removed : rows_of_all (gone_among p es f) k ≡ before ++ behind
  higher : BeginsRows level behind
  deep : k ≤ level

wrap : (a x y z b c : List Line) → x ≡ y ++ (z ++ b) → a ++ (x ++ c) ≡ (a ++ y) ++ (z ++ (b ++ c))
wrap a x y z b c e =
    ap (λ x. a ++ (x ++ c)) e ∙ ap (λ t. a ++ t) (append_assoc y (z ++ b) c ∙ ap (λ t. y ++ t) (append_assoc z b c)) ∙ sym (append_assoc a y (z ++ (b ++ c)))

-- what stands below a child stands among it and its siblings
at_child : (p : List PathStep) (es : List Element) (k : ℕ) (e : Element) (c : Child) → slice_get es c.0 ≡ Some c.1 → StandsUnder p c.1 k e → StandsAmong p es k e (Some c)
at_child p es k e c is u =
    let front : List Line = rows_of_all (take c.0 es) k in
    let rest : List Line = rows_of_all (drop (c.0 + 1) es) k in record {
      before = front ++ u.before;
      behind = u.behind ++ rest;
      level = u.level;
      at = ap (option_map (λ r. count (take c.0 es) + r)) u.at
          ∙ ap (λ n. Some (n + length u.before)) (sym (count_at (take c.0 es) k)) ∙ ap (λ n. Some n) (sym (length-append front u.before));
      whole = child_rows es c.0 c.1 k is ∙ wrap front (rows c.1 k) u.before (rows e u.level) u.behind rest u.whole;
      edited = λ w. child_rows_set es c.0 c.1 (with_below p c.1 w) k is ∙ wrap front (rows (with_below p c.1 w) k) u.before (rows w u.level) u.behind rest (u.edited w);
      removed = gone_rows p es k c is ∙ wrap front (rows_of_all (gone_below p c.1) k) u.before [] u.behind rest u.removed;
      higher = begins_more k u.level u.behind rest u.deep u.higher (begins_all (drop (c.0 + 1) es) k);
      deep = u.deep;
    }

pub row_of_with_kids : (o : Element) (ks : List Element) (k : ℕ) → rows (with_kids o ks) k ≡ line_at k o ∷ rows_of_all ks (k + 1)
row_of_with_kids o ks k =
    let own : Element-F Element = record (out-Element o) { kids = ks } in
    rows_out (with_kids o ks) k
    ∙ ap (λ (f : Element-F Element). record { level = k; common = f.common; payload = f.payload; role = f.role } ∷ rows_of_all f.kids (k + 1)) (out-roll-Element own)

by_child : (p : List PathStep) (es : List Element) (k : ℕ) (e : Element) → ((o : Element) → element_below p o ≡ Some e → StandsUnder p o k e) → (f : Option Child)
    → ((c : Child) → f ≡ Some c → slice_get es c.0 ≡ Some c.1) → option_and_then (λ c. element_below p c.1) f ≡ Some e → StandsAmong p es k e f
by_child p es k e under None there is = absurd (cc)
by_child p es k e under (Some c) there is = at_child p es k e c (there c refl) (under c.1 is)

under : (p : List PathStep) (o : Element) (k : ℕ) (e : Element) → element_below p o ≡ Some e → StandsUnder p o k e
unfolding element_below with_below rank_below gone_below
under [] o k e is = let same : o ≡ e = cc in record {
  before = [];
  behind = [];
  level = k;
  at = refl;
  whole = sym (append-nil (rows o k)) ∙ ap (λ e. rows e k ++ []) same;
  edited = λ w. sym (append-nil (rows w k));
  removed = refl;
  higher = tt;
  deep = omega arith;
}
under (s ∷ p) o k e is =
    let s_in = by_child p (kids_of o) (k + 1) e (λ o h. under p o (k + 1) e h) (child_by (is_list o) s (kids_of o)) (λ c h. (child_by-there (is_list o) s (kids_of o) c h).1) is in record {
      before = line_at k o ∷ s_in.before;
      behind = s_in.behind;
      level = s_in.level;
      at = ap (option_map (λ r. 1 + r)) s_in.at ∙ ap (λ n. Some n) (one_more (length s_in.before));
      whole = rows_out o k ∙ ap (λ xs. line_at k o ∷ xs) s_in.whole;
      edited = λ w. row_of_with_kids o _ k ∙ ap (λ xs. line_at k o ∷ xs) (s_in.edited w);
      removed = append-nil (rows _ k) ∙ row_of_with_kids o _ k ∙ ap (λ xs. line_at k o ∷ xs) (ap (λ ks. rows_of_all ks (k + 1)) (removed_is (is_list o) s p (kids_of o)) ∙ s_in.removed);
      higher = s_in.higher;
      deep = less k s_in.level s_in.deep;
    }
  where
    one_more : (n : ℕ) → 1 + n ≡ suc n
    one_more n = omega arith

    less : (k l : ℕ) → k + 1 ≤ l → k ≤ l
    less k l h = omega arith

-- where a path leads to nothing it has no rank
no_rank : (p : List PathStep) (e : Element) → element_below p e ≡ None → rank_below p e ≡ None
unfolding element_below rank_below
no_rank [] e h = absurd (cc)
no_rank (s ∷ p) e h = ap (option_map (λ r. 1 + r)) (by (child_by (is_list e) s (kids_of e)) (λ c none. no_rank p c.1 none) h)
  where
    by : (o : Option Child) → ((c : Child) → element_below p c.1 ≡ None → rank_below p c.1 ≡ None) → option_and_then (λ (c : Child). element_below p c.1) o ≡ None
        → option_and_then (λ (c : Child). option_map (λ r. count (take c.0 (kids_of e)) + r) (rank_below p c.1)) o ≡ None
    by None ih h = refl
    by (Some c) ih h = ap (option_map (λ r. count (take c.0 (kids_of e)) + r)) (ih c h)

pub no_rank_among : (l : Bool) (s : PathStep) (p : List PathStep) (ks : List Element) → element_among l s p ks ≡ None → rank_among l s p ks ≡ None
no_rank_among l s p ks h = by (child_by l s ks) h
  where
    by : (o : Option Child) → option_and_then (λ (c : Child). element_below p c.1) o ≡ None → option_and_then (λ (c : Child). option_map (λ r. count (take c.0 ks) + r) (rank_below p c.1)) o ≡ None
    by None h = refl
    by (Some c) h = ap (option_map (λ r. count (take c.0 ks) + r)) (no_rank p c.1 h)

pub have_edited_rows : EditedRows
have_edited_rows l s p es k e is =
    let s_in = by_child p es k e (λ o h. under p o k e h) (child_by l s es) (λ c h. (child_by-there l s es c h).1) is in record {
      before = s_in.before;
      behind = s_in.behind;
      level = s_in.level;
      at = s_in.at;
      whole = s_in.whole;
      edited = s_in.edited;
      removed = ap (λ ks. rows_of_all ks k) (removed_is l s p es) ∙ s_in.removed;
      higher = s_in.higher;
      deep = s_in.deep;
    }
