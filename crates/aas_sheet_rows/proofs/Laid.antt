-- Trees on a stack that are laid out as rows.
use Rattle.std.proofs.Common.{◌≡◌, ℕ, zero, suc, ◌+◌, ◌-◌, ◌<◌, ◌≤◌, List, [], ◌∷◌, ◌++◌, length, remove, Some}
use Rattle.std.proofs.Common.{slice_get, refl, sym, ap, ap₂, ◌∙◌, subst, append_assoc, arith, length-append}
use Rattle.std.proofs.lemmas.List.{append-nil}
use Rattle.aas_model.specs.declared.element.Element.{Element}
use Rattle.aas_path_trees.specs.Children.{kids_of}
use Rattle.aas_rows.specs.Edits.{count}
use Rattle.aas_rows.specs.Rows.{Line, line_at, rows, rows_of_all, Placed, all_at, lines, levels_of, Steps}
use Rattle.aas_rows.proofs.Edited.{count_at}
use Rattle.aas_rows.proofs.InOrder.{rows_in_preorder}
use Rattle.aas_rows.proofs.Trees.{rows_out}
use Rattle.aas_sheet_rows.specs.Growing.{placed_of}
use Rattle.aas_sheet_rows.specs.Table.{lines_of}
use Rattle.aas_sheet_rows.specs.declared.row.Row.{Row}
use Rattle.aas_sheet_index.specs.declared.side.Side.{Side}
use Rattle.aas_sheet_rows.specs.declared.tree.Tree.{Tree}
use Rattle.aas_sheet_rows.proofs.Grove.{placed_push, placed_last}

-- ---- elements put on a stack, the last first

all_but_last : (k : ℕ) (es : List Element) (m : ℕ) (e : Element)
    → suc m ≡ length es → slice_get es m ≡ Some e → all_at k es ≡ all_at k (remove es m) ++ (k, e) ∷ []
all_but_last k [] m e n at = absurd (omega arith)
all_but_last k (x ∷ []) zero e n at = let same : x ≡ e = cc in ap (λ x. (k, x) ∷ []) same
all_but_last k (x ∷ y ∷ es) zero e n at = absurd (omega arith)
all_but_last k (x ∷ es) (suc m) e n at = ap (λ ps. (k, x) ∷ ps) (all_but_last k es m e (omega arith) at)

pub stacked_more : (k : ℕ) (start : List Placed) (es es' : List Element) (w w' : List Tree) (m : ℕ) (e : Element)
    → start ≡ all_at k es ++ placed_of w → suc m ≡ length es → slice_get es m ≡ Some e → es' ≡ remove es m
    → w' ≡ w ++ (record { level = k; element = e }) ∷ [] → start ≡ all_at k es' ++ placed_of w'
stacked_more k start es es' w w' m e so_far long at left pushed =
    so_far
    ∙ ap (λ ps. ps ++ placed_of w) (all_but_last k es m e long at ∙ ap (λ es. all_at k es ++ (k, e) ∷ []) (sym left))
    ∙ append_assoc (all_at k es') ((k, e) ∷ []) (placed_of w)
    ∙ ap (λ ps. all_at k es' ++ ps) (sym (ap placed_of pushed ∙ placed_push w (record { level = k; element = e })))

-- ---- rows laid out

lines_all : (k : ℕ) (es : List Element) (ps : List Placed) → lines (all_at k es ++ ps) ≡ rows_of_all es k ++ lines ps
lines_all k [] ps = refl
lines_all k (e ∷ es) ps =
    ap (λ rs. rows e k ++ rs) (lines_all k es ps) ∙ sym (append_assoc (rows e k) (rows_of_all es k) (lines ps))

pub lines_push : (rs : List Row) (ss : List Side) (r : Row) (s : Side)
    → length rs ≡ length ss → lines_of (rs ++ r ∷ []) (ss ++ s ∷ []) ≡ lines_of rs ss ++ lines_of (r ∷ []) (s ∷ [])
lines_push [] [] r s e = refl
lines_push [] (s' ∷ ss) r s e = absurd (omega arith)
lines_push (r' ∷ rs) [] r s e = absurd (omega arith)
lines_push (r' ∷ rs) (s' ∷ ss) r s e = ap₂ (λ x xs. x ∷ xs) refl (lines_push rs ss r s (omega arith))

-- behind the rows that were there stand some of those of the elements, and the trees that wait are the others
pub record Laying (rs₀ : List Row) (ss₀ : List Side) (es : List Element)
    (k : ℕ) (rs : List Row) (ss : List Side) (waiting : List Tree) : Type 0 where
  pub done : List Line
  pub long : length rs ≡ length ss
  pub laid : lines_of rs ss ≡ lines_of rs₀ ss₀ ++ done
  pub left : rows_of_all es k ≡ done ++ lines (placed_of waiting)

pub laying_begun : (es : List Element) (k : ℕ) (rs : List Row) (ss : List Side) (w w' : List Tree)
    → length rs ≡ length ss → w ≡ [] → placed_of w' ≡ all_at k es ++ placed_of w → Laying rs ss es k rs ss w'
laying_begun es k rs ss w w' long none stacked = record {
  done = [];
  long = long;
  laid = sym (append-nil (lines_of rs ss));
  left =
      sym (append-nil (rows_of_all es k)) ∙ sym (lines_all k es [])
      ∙ ap lines (ap (λ w. all_at k es ++ placed_of w) (sym none) ∙ sym stacked);
}

-- the uppermost tree
pub top_left : (rs₀ : List Row) (ss₀ : List Side) (es : List Element) (k : ℕ) (rs : List Row)
    (ss : List Side) (w w' : List Tree) (m : ℕ) (g : Tree) (l : Laying rs₀ ss₀ es k rs ss w)
    → suc m ≡ length w → slice_get w m ≡ Some g → w' ≡ remove w m
    → rows_of_all es k
    ≡ l.done ++ line_at g.level g.element ∷ (rows_of_all (kids_of g.element) (g.level + 1) ++ lines (placed_of w'))
top_left rs₀ ss₀ es k rs ss w w' m g l long at left =
    l.left
    ∙ ap (λ ps. l.done ++ lines ps)
    (placed_last w m g long at ∙ ap (λ w. (g.level, g.element) ∷ placed_of w) (sym left))
    ∙ ap (λ rs. l.done ++ (rs ++ lines (placed_of w'))) (rows_out g.element g.level)

pub laying_on : (rs₀ : List Row) (ss₀ : List Side) (es : List Element) (k : ℕ) (rs rs' : List Row) (ss ss' : List Side)
    (w w' w'' : List Tree) (m : ℕ) (g : Tree) (kids : List Element) (l : Laying rs₀ ss₀ es k rs ss w)
    → suc m ≡ length w
    → slice_get w m ≡ Some g → w' ≡ remove w m → length rs' ≡ length ss'
    → lines_of rs' ss' ≡ lines_of rs ss ++ line_at g.level g.element ∷ [] → kids ≡ kids_of g.element
    → placed_of w'' ≡ all_at (g.level + 1) kids ++ placed_of w' → Laying rs₀ ss₀ es k rs' ss' w''
laying_on rs₀ ss₀ es k rs rs' ss ss' w w' w'' m g kids l long at left long' laid kids_are stacked =
    let own : Line = line_at g.level g.element in record {
      done = l.done ++ own ∷ [];
      long = long';
      laid = laid ∙ ap (λ ls. ls ++ own ∷ []) l.laid ∙ append_assoc (lines_of rs₀ ss₀) l.done (own ∷ []);
      left = top_left rs₀ ss₀ es k rs ss w w' m g l long at left
          ∙ ap (λ ls. l.done ++ own ∷ ls)
          (sym (ap lines (stacked ∙ ap (λ ks. all_at (g.level + 1) ks ++ placed_of w') kids_are)
          ∙ lines_all (g.level + 1) (kids_of g.element) (placed_of w')))
          ∙ sym (append_assoc l.done (own ∷ []) (lines (placed_of w'')));
    }

pub fewer_left : (w w' w'' : List Tree) (m : ℕ) (g : Tree) (kids : List Element)
    → suc m ≡ length w → slice_get w m ≡ Some g → w' ≡ remove w m → kids ≡ kids_of g.element
    → placed_of w'' ≡ all_at (g.level + 1) kids ++ placed_of w'
    → length (lines (placed_of w'')) < length (lines (placed_of w))
fewer_left w w' w'' m g kids long at left kids_are stacked =
    let below : List Line = rows_of_all (kids_of g.element) (g.level + 1) ++ lines (placed_of w') in
    let top : lines (placed_of w) ≡ line_at g.level g.element ∷ below =
    ap lines (placed_last w m g long at ∙ ap (λ w. (g.level, g.element) ∷ placed_of w) (sym left))
    ∙ ap (λ rs. rs ++ lines (placed_of w')) (rows_out g.element g.level) in
    let next : lines (placed_of w'') ≡ below =
    ap lines (stacked ∙ ap (λ ks. all_at (g.level + 1) ks ++ placed_of w') kids_are)
    ∙ lines_all (g.level + 1) (kids_of g.element) (placed_of w') in
    let before = ap length top in
    let after = ap length next in
    omega (arith, before, after)

-- ---- levels

level_bound : (top k : ℕ) (ls : List ℕ) (n l : ℕ) → Steps top k ls → slice_get ls n ≡ Some l → l ≤ k + 1 + n
level_bound top k [] n l h at = absurd (cc)
level_bound top k (x ∷ ls) zero l h at = let same : x ≡ l = cc in let le = h.1 in omega (arith, le)
level_bound top k (x ∷ ls) (suc n) l h at =
    let le = h.1 in
    let more = level_bound top x ls n l h.2 at in
    omega (arith, le, more)

level_at : (b : List Line) (x : Line) (a : List Line) → slice_get (levels_of (b ++ x ∷ a)) (length b) ≡ Some x.level
level_at [] x a = refl
level_at (y ∷ b) x a = level_at b x a

-- no row stands deeper than there are rows before it
pub level_low : (es : List Element) (k : ℕ) (b : List Line) (x : Line) (a : List Line)
    → 0 < k → rows_of_all es k ≡ b ++ x ∷ a → x.level + 1 ≤ k + count es
level_low es k b x a some is =
    let back : k - 1 + 1 ≡ k = omega arith in
    let ordered : Steps (k - 1) (k - 1) (levels_of (b ++ x ∷ a)) =
    subst (λ rs. Steps (k - 1) (k - 1) (levels_of rs)) (ap (rows_of_all es) back ∙ is) (rows_in_preorder es (k - 1)) in
    let le = level_bound (k - 1) (k - 1) (levels_of (b ++ x ∷ a)) (length b) x.level ordered (level_at b x a) in
    let many = sym (count_at es k) ∙ ap length is ∙ length-append b (x ∷ a) in
    omega (arith, le, many)
