-- The rows of trees stand for these trees.
use Rattle.std.proofs.Common.{◌≡◌, ℕ, ◌+◌, ◌<◌, ◌≤◌, List, [], ◌∷◌, ◌++◌, map, refl, sym, ap, ap₂, ◌∙◌, subst, append_assoc, arith, if◌then◌else◌, le-ltb, lt-ltb}
use Rattle.std.proofs.lemmas.List.{append-nil}
use Rattle.std.proofs.lemmas.List.Folds.{flat_map-map}
use Rattle.aas_model.specs.declared.element.Element.{Element, roll-Element, roll-out-Element, out-roll-Element, fold_out-Element, ind-Element}
use Rattle.aas_path_trees.specs.Children.{kids_of}
use Rattle.aas_rows.specs.Rows.{Line, line_at, Leveled, rows_over, rows, rows_of_all, Placed, all_at, deeper, beside, element_of, forest, BeginsRows}
use Rattle.aas_rows.specs.Laws.{RowsGiveTheTrees}

-- ---- one element

pub rows_out : (e : Element) (k : ℕ) → rows e k ≡ line_at k e ∷ rows_of_all (kids_of e) (k + 1)
unfolding rows
rows_out e k =
    ap (λ f. f k) (fold_out-Element Leveled rows_over e) ∙ ap (λ rs. line_at k e ∷ rs) (flat_map-map (λ (f : Leveled). f (k + 1)) rows (kids_of e))

pub element_of-line : (k : ℕ) (e : Element) → element_of (line_at k e) (kids_of e) ≡ e
element_of-line k e = roll-out-Element e

-- ---- induction

abbrev pub Every : (Element → Type 0) → List Element → Type 0
Every P [] = Unit {0}
Every P (e ∷ es) = P e × Every P es

every_known : (P : Element → Type 0) (ks : List ((e : Element) × P e)) → Every P (map (λ k. k.0) ks)
every_known P [] = tt
every_known P (k ∷ ks) = (k.1, every_known P ks)

-- what holds of an element where it holds of each child holds of all
pub by_kids : (P : Element → Type 0) → ((e : Element) → Every P (kids_of e) → P e) → (e : Element) → P e
by_kids P step = ind-Element P (λ x y is. step (roll-Element x) (subst (Every P) (sym (ap (λ f. f.kids) (out-roll-Element x ∙ sym is))) (every_known P y.kids)))

pub every : (P : Element → Type 0) → ((e : Element) → P e) → (es : List Element) → Every P es
every P all [] = tt
every P all (e ∷ es) = (all e, every P all es)

-- ---- what stands at a level

-- the first stands no deeper than k
abbrev pub Begins : ℕ → List Placed → Type 0
Begins k [] = Unit {0}
Begins k (p ∷ ps) = p.0 ≤ k

pub forest_begins : (k : ℕ) (rs : List Line) → BeginsRows k rs → Begins k (forest rs)
unfolding forest
forest_begins k [] h = tt
forest_begins k (r ∷ rs) h = h

deeper_none : (k : ℕ) (ps : List Placed) → Begins k ps → deeper k ps ≡ []
deeper_none k [] h = refl
deeper_none k (p ∷ ps) h = ap (λ b. if b then p.1 ∷ deeper k ps else []) (le-ltb k p.0 h)

beside_none : (k : ℕ) (ps : List Placed) → Begins k ps → beside k ps ≡ ps
beside_none k [] h = refl
beside_none k (p ∷ ps) h = ap (λ b. if b then beside k ps else p ∷ ps) (le-ltb k p.0 h)

pub deeper_all : (k l : ℕ) (es : List Element) (ps : List Placed) → k < l → Begins k ps → deeper k (all_at l es ++ ps) ≡ es
deeper_all k l [] ps lt h = deeper_none k ps h
deeper_all k l (e ∷ es) ps lt h = ap (λ b. if b then e ∷ deeper k (all_at l es ++ ps) else []) (lt-ltb k l lt) ∙ ap (λ xs. e ∷ xs) (deeper_all k l es ps lt h)

pub beside_all : (k l : ℕ) (es : List Element) (ps : List Placed) → k < l → Begins k ps → beside k (all_at l es ++ ps) ≡ ps
beside_all k l [] ps lt h = beside_none k ps h
beside_all k l (e ∷ es) ps lt h = ap (λ b. if b then beside k (all_at l es ++ ps) else (l, e) ∷ (all_at l es ++ ps)) (lt-ltb k l lt) ∙ beside_all k l es ps lt h

-- ---- trees from their rows

pub rows_begin : (es : List Element) (k : ℕ) (rs : List Line) → BeginsRows k rs → BeginsRows k (rows_of_all es k ++ rs)
rows_begin [] k rs h = h
rows_begin (e ∷ es) k rs h = subst (λ (xs : List Line). BeginsRows k ((xs ++ rows_of_all es k) ++ rs)) (sym (rows_out e k)) (omega arith)

pub Grows : Element → Type 0
Grows e = (k : ℕ) (rs : List Line) → BeginsRows k rs → forest (rows e k ++ rs) ≡ (k, e) ∷ forest rs

grow_all : (es : List Element) → Every Grows es → (k : ℕ) (rs : List Line) → BeginsRows k rs → forest (rows_of_all es k ++ rs) ≡ all_at k es ++ forest rs
unfolding Grows
grow_all [] h k rs b = refl
grow_all (e ∷ es) h k rs b =
    ap forest (append_assoc (rows e k) (rows_of_all es k) rs) ∙ h.0 k (rows_of_all es k ++ rs) (rows_begin es k rs b) ∙ ap (λ ps. (k, e) ∷ ps) (grow_all es h.1 k rs b)

pub begins_deeper : (k : ℕ) (rs : List Line) → BeginsRows k rs → BeginsRows (k + 1) rs
begins_deeper k [] b = tt
begins_deeper k (r ∷ rs) b = omega (arith, b)

grow_line : (r : Line) (rs : List Line) → forest (r ∷ rs) ≡ (r.level, element_of r (deeper r.level (forest rs))) ∷ beside r.level (forest rs)
unfolding forest
grow_line r rs = refl

grow : (e : Element) → Every Grows (kids_of e) → Grows e
unfolding Grows
grow e h k rs b =
    let below : forest (rows_of_all (kids_of e) (k + 1) ++ rs) ≡ all_at (k + 1) (kids_of e) ++ forest rs = grow_all (kids_of e) h (k + 1) rs (begins_deeper k rs b) in
    let lt : k < k + 1 = omega arith in
    ap (λ xs. forest (xs ++ rs)) (rows_out e k)
    ∙ grow_line (line_at k e) (rows_of_all (kids_of e) (k + 1) ++ rs)
    ∙ ap (λ ps. (k, element_of (line_at k e) (deeper k ps)) ∷ beside k ps) below
    ∙ ap₂ (λ es ps. (k, element_of (line_at k e) es) ∷ ps) (deeper_all k (k + 1) (kids_of e) (forest rs) lt (forest_begins k rs b)) (beside_all k (k + 1) (kids_of e) (forest rs) lt (forest_begins k rs b))
    ∙ ap (λ x. (k, x) ∷ forest rs) (element_of-line k e)

pub grown : (es : List Element) (k : ℕ) (rs : List Line) → BeginsRows k rs → forest (rows_of_all es k ++ rs) ≡ all_at k es ++ forest rs
grown es k rs b = grow_all es (every Grows (by_kids Grows grow) es) k rs b

heads : (k : ℕ) (es : List Element) → map (λ (p : Placed). p.1) (all_at k es) ≡ es
heads k [] = refl
heads k (e ∷ es) = ap (λ xs. e ∷ xs) (heads k es)

nothing : forest [] ≡ []
unfolding forest
nothing = refl

pub rows_give_trees : RowsGiveTheTrees
rows_give_trees es k =
    let whole : forest (rows_of_all es k) ≡ all_at k es = ap forest (sym (append-nil (rows_of_all es k))) ∙ grown es k [] tt ∙ ap (λ ps. all_at k es ++ ps) nothing ∙ append-nil (all_at k es) in
    ap (map (λ (p : Placed). p.1)) whole ∙ heads k es

pub begins_all : (es : List Element) (k : ℕ) → BeginsRows k (rows_of_all es k)
begins_all es k = subst (BeginsRows k) (append-nil (rows_of_all es k)) (rows_begin es k [] tt)

pub begins_more : (k l : ℕ) (xs rest : List Line) → k ≤ l → BeginsRows l xs → BeginsRows k rest → BeginsRows l (xs ++ rest)
begins_more k l [] [] le h g = tt
begins_more k l [] (r ∷ rest) le h g = omega (arith, g)
begins_more k l (x ∷ xs) rest le h g = h
