-- Rows that step down by one level at most are the rows of the trees that they stand for.
use Rattle.std.proofs.Common.{◌≡◌, ℕ, ◌+◌, ◌<◌, ◌≤◌, Bool, true, false, nat_lt, List, [], ◌∷◌, ◌++◌, map, refl, ap, ap₂, ◌∙◌, append_assoc, arith, if◌then◌else◌}
use Rattle.std.proofs.lemmas.Bool.{ltb-false}
use Rattle.std.proofs.lemmas.Bool.Decides.{Decides-ltb}
use Rattle.aas_model.specs.declared.element.Element.{Element, Element-F, out-roll-Element}
use Rattle.aas_rows.specs.Rows.{Line, rows, rows_of_all, Placed, lines, deeper, beside, element_of, forest, Steps, levels_of}
use Rattle.aas_rows.specs.Laws.{TreesGiveTheRows}
use Rattle.aas_rows.proofs.Trees.{rows_out}

-- below the level top each stands no deeper than the one before, the first no deeper than m
abbrev pub Falls : ℕ → ℕ → List Placed → Type 0
Falls top m [] = Unit {0}
Falls top m (p ∷ ps) = (top < p.0) × (p.0 ≤ m) × Falls top p.0 ps

falls_more : (top m n : ℕ) (ps : List Placed) → m ≤ n → Falls top m ps → Falls top n ps
falls_more top m n [] le h = tt
falls_more top m n (p ∷ ps) le h = (h.0, omega (arith, h.1), h.2)

beside_falls_by : (top l m : ℕ) (p : Placed) (ps : List Placed) (b : Bool) → nat_lt l p.0 ≡ b → Falls top m (p ∷ ps) → Falls top l (beside l ps) → Falls top l (if b then beside l ps else p ∷ ps)
beside_falls_by top l m p ps true e h ih = ih
beside_falls_by top l m p ps false e h ih = (h.0, ltb-false l p.0 e, h.2)

beside_falls : (top l m : ℕ) (ps : List Placed) → Falls top m ps → Falls top l (beside l ps)
beside_falls top l m [] h = tt
beside_falls top l m (p ∷ ps) h = beside_falls_by top l m p ps (nat_lt l p.0) refl h (beside_falls top l p.0 ps h.2)

pub forest_falls : (top k : ℕ) (rs : List Line) → Steps top k (levels_of rs) → Falls top (k + 1) (forest rs)
unfolding forest
forest_falls top k [] h = tt
forest_falls top k (r ∷ rs) h = (h.0, h.1, beside_falls top r.level (r.level + 1) (forest rs) (forest_falls top r.level rs h.2))

-- those that stand deeper stand one level deeper
parted_by : (top l : ℕ) (p : Placed) (ps : List Placed) (b : Bool) → nat_lt l p.0 ≡ b → Falls top (l + 1) (p ∷ ps) → rows_of_all (deeper l ps) (l + 1) ++ lines (beside l ps) ≡ lines ps
    → rows_of_all (if b then p.1 ∷ deeper l ps else []) (l + 1) ++ lines (if b then beside l ps else p ∷ ps) ≡ lines (p ∷ ps)
parted_by top l p ps true e h ih =
    let lt : l < p.0 = (Decides-ltb l p.0).0 e in
    let same : l + 1 ≡ p.0 = omega (arith, h.1) in
    append_assoc (rows p.1 (l + 1)) (rows_of_all (deeper l ps) (l + 1)) (lines (beside l ps)) ∙ ap₂ (λ n xs. rows p.1 n ++ xs) same ih
parted_by top l p ps false e h ih = refl

parted : (top l : ℕ) (ps : List Placed) → Falls top (l + 1) ps → rows_of_all (deeper l ps) (l + 1) ++ lines (beside l ps) ≡ lines ps
parted top l [] h = refl
parted top l (p ∷ ps) h = parted_by top l p ps (nat_lt l p.0) refl h (parted top l ps (falls_more top p.0 (l + 1) ps h.1 h.2))

pub row_of_made : (r : Line) (es : List Element) → rows (element_of r es) r.level ≡ r ∷ rows_of_all es (r.level + 1)
row_of_made r es =
    let own : Element-F Element = record { common = r.common; payload = r.payload; role = r.role; kids = es } in
    rows_out (element_of r es) r.level
    ∙ ap (λ (o : Element-F Element). record { level = r.level; common = o.common; payload = o.payload; role = o.role } ∷ rows_of_all o.kids (r.level + 1)) (out-roll-Element own)

pub lines_forest : (top k : ℕ) (rs : List Line) → Steps top k (levels_of rs) → lines (forest rs) ≡ rs
unfolding forest
lines_forest top k [] h = refl
lines_forest top k (r ∷ rs) h =
    ap (λ xs. xs ++ lines (beside r.level (forest rs))) (row_of_made r (deeper r.level (forest rs)))
    ∙ ap (λ xs. r ∷ xs) (parted top r.level (forest rs) (forest_falls top r.level rs h.2) ∙ lines_forest top r.level rs h.2)

one_level : (k m : ℕ) (ps : List Placed) → m ≤ k + 1 → Falls k m ps → rows_of_all (map (λ (p : Placed). p.1) ps) (k + 1) ≡ lines ps
one_level k m [] le h = refl
one_level k m (p ∷ ps) le h = let same : k + 1 ≡ p.0 = omega (arith, h.0, h.1) in ap₂ (λ n xs. rows p.1 n ++ xs) same (one_level k p.0 ps (omega (arith, h.0, h.1)) h.2)

pub trees_give_rows : TreesGiveTheRows
trees_give_rows rs k h = one_level k (k + 1) (forest rs) (omega arith) (forest_falls k k rs h) ∙ lines_forest k k rs h
