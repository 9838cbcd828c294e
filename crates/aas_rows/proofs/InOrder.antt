-- The rows of trees are in preorder.
use Rattle.std.proofs.Common.{ℕ, ◌+◌, ◌<◌, ◌≤◌, List, [], ◌∷◌, ◌++◌, sym, subst, append_assoc, arith}
use Rattle.std.proofs.lemmas.List.{append-nil}
use Rattle.aas_model.specs.declared.element.Element.{Element}
use Rattle.aas_path_trees.specs.Children.{kids_of}
use Rattle.aas_rows.specs.Rows.{Line, rows, rows_of_all, levels_of, Steps, InPreorder}
use Rattle.aas_rows.proofs.Trees.{rows_out, Every, by_kids, every}

-- rows that may follow each row from level k on
abbrev Follows : ℕ → ℕ → List Line → Type 0
Follows top k rest = (l : ℕ) → k ≤ l → Steps top l (levels_of rest)

Orderly : Element → Type 0
Orderly e = (top prev k : ℕ) (rest : List Line) → top < k → k ≤ prev + 1 → Follows top k rest → Steps top prev (levels_of (rows e k ++ rest))

orderly_all : (es : List Element) → Every Orderly es → (top prev k : ℕ) (rest : List Line) → top < k → k ≤ prev + 1 → Steps top prev (levels_of rest) → Follows top k rest
    → Steps top prev (levels_of (rows_of_all es k ++ rest))
unfolding Orderly
orderly_all [] h top prev k rest lt le now next = now
orderly_all (e ∷ es) h top prev k rest lt le now next =
    subst (λ xs. Steps top prev (levels_of xs)) (sym (append_assoc (rows e k) (rows_of_all es k) rest))
    (h.0 top prev k (rows_of_all es k ++ rest) lt le (λ l above. orderly_all es h.1 top l k rest lt (omega arith) (next l above) next))

orderly : (e : Element) → Every Orderly (kids_of e) → Orderly e
unfolding Orderly
orderly e h top prev k rest lt le next =
    subst (λ xs. Steps top prev (levels_of (xs ++ rest))) (sym (rows_out e k))
    (lt, le, orderly_all (kids_of e) h top k (k + 1) rest (omega arith) (omega arith) (next k (omega arith)) (λ l above. next l (omega arith)))

pub rows_in_preorder : (es : List Element) (k : ℕ) → InPreorder k (levels_of (rows_of_all es (k + 1)))
rows_in_preorder es k =
    subst (λ xs. InPreorder k (levels_of xs)) (append-nil (rows_of_all es (k + 1)))
    (orderly_all es (every Orderly (by_kids Orderly orderly) es) k k (k + 1) [] (omega arith) (omega arith) tt (λ l above. tt))
