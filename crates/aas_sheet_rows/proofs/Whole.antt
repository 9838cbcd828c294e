-- The whole table as a tree.
use Rattle.std.proofs.Common.{Bool, true, false, nat_lt, lt-ltb}
use Rattle.std.proofs.Common.{◌≡◌, ℕ, suc, ◌+◌, ◌<◌, List, [], ◌∷◌, ◌++◌, length, map, take, drop, refl, sym, ap, ap₂}
use Rattle.std.proofs.Common.{◌∙◌, subst, arith, if◌then◌else◌, ◌-◌, Some, slice_get}
use Rattle.std.proofs.lemmas.List.{take_all, append-nil}
use Rattle.aas_model.specs.declared.documents.Submodel.{Submodel}
use Rattle.aas_model.specs.declared.element.Element.{Element}
use Rattle.aas_rows.specs.Rows.{Line, Placed, rows, deeper, forest, trees_of, Steps}
use Rattle.aas_rows.proofs.Back.{Falls, forest_falls}
use Rattle.aas_rows.proofs.Ranked.{StandsAt, first_tree}
use Rattle.aas_sheet_rows.specs.Growing.{rows_between}
use Rattle.aas_sheet_rows.specs.Table.{lines_of, submodel_of, IsTable}
use Rattle.aas_sheet_index.specs.Sides.{sizes_of}
use Rattle.aas_sheet_rows.specs.declared.row.Row.{Row}
use Rattle.aas_sheet_index.specs.declared.side.Side.{Side}
use Rattle.aas_store.specs.Spots.{elements_of_all}
use Rattle.aas_sheet_rows.proofs.Found.{own_size}
use Rattle.aas_sheet_rows.proofs.Standing.{element_there, ranked_stands}
use Rattle.aas_sheet_rows.proofs.Loans.{levels_same, lines_long}

all_deeper : (m : ℕ) (ps : List Placed) → Falls 0 m ps → deeper 0 ps ≡ map (λ (p : Placed). p.1) ps
all_deeper m [] h = refl
all_deeper m (p ∷ ps) h =
    ap (λ b. if b then p.1 ∷ deeper 0 ps else []) (lt-ltb 0 p.0 h.0) ∙ ap (λ es. p.1 ∷ es) (all_deeper p.0 ps h.2)

pub whole_grown : (rs rs' : List Row) (ss ss' : List Side) → IsTable rs ss → rs' ≡ rs → ss' ≡ ss
    → deeper 0 (forest (rows_between rs' ss' 0 (length ss'))) ≡ trees_of (lines_of rs ss)
whole_grown rs rs' ss ss' t rows_is sides_is =
    ap₂ (λ rs ss. deeper 0 (forest (rows_between rs ss 0 (length ss)))) rows_is sides_is
    ∙ ap (λ xs. deeper 0 (forest xs))
    (take_all (length ss) (lines_of rs ss) (omega (arith, lines_long rs ss t.long, t.long)))
    ∙ all_deeper 1 (forest (lines_of rs ss))
    (forest_falls 0 0 (lines_of rs ss) (subst (Steps 0 0) (sym (levels_same rs ss t.long)) t.ordered))

-- ---- one element

-- the rows of an element grow to it alone
pub one_grown : (before behind : List Line) (e : Element) (k first end : ℕ)
    → 0 < k → length before ≡ first → first + length (rows e k) ≡ end
    → deeper 0 (forest (drop first (take end (before ++ (rows e k ++ behind))))) ≡ e ∷ []
unfolding forest
one_grown before behind e k first end some at stop =
    ap₂ (λ m n. deeper 0 (forest (drop m (take n (before ++ (rows e k ++ behind))))))
    (sym at) (sym stop ∙ ap (λ n. n + length (rows e k)) (sym at))
    ∙ ap (λ xs. deeper 0 (forest xs)) (cut before)
    ∙ ap (λ xs. deeper 0 (forest xs)) (sym (append-nil (rows e k))) ∙ ap (deeper 0) (first_tree e k [] tt)
    ∙ ap (λ b. if b then e ∷ [] else []) (lt-ltb 0 k some)
  where
    front : (m : List Line) → take (length m) (m ++ behind) ≡ m
    front [] = refl
    front (x ∷ m) = ap (λ xs. x ∷ xs) (front m)

    cut : (b : List Line) → drop (length b) (take (length b + length (rows e k)) (b ++ (rows e k ++ behind))) ≡ rows e k
    cut [] =
        let same : 0 + length (rows e k) ≡ length (rows e k) = omega arith in
        ap (λ n. take n (rows e k ++ behind)) same ∙ front (rows e k)
    cut (x ∷ b) =
        let same : suc (length b) + length (rows e k) ≡ suc (length b + length (rows e k)) = omega arith in
        ap (λ n. drop (suc (length b)) (take n (x ∷ (b ++ (rows e k ++ behind))))) same ∙ cut b

-- ---- the element of a rank

-- the rows from a rank up to its end grow to the element there
pub grown_of_rank : (rs : List Row) (ss : List Side) (rank end : ℕ) (e : Element)
    → IsTable rs ss → StandsAt (lines_of rs ss) 1 rank e → slice_get (sizes_of ss) rank ≡ Some (end - rank) → rank < end
    → deeper 0 (forest (rows_between rs ss rank end)) ≡ e ∷ []
grown_of_rank rs ss rank end e t s size above =
    let tall : end - rank ≡ length (rows e s.level) = own_size rs ss 1 rank (end - rank) e s t size in
    ap (λ xs. deeper 0 (forest (drop rank (take end xs)))) s.whole
    ∙ one_grown s.before s.behind e s.level rank end (omega (arith, s.deep)) s.at (omega arith)

pub taken : (head : Submodel) (rs : List Row) (ss : List Side) (d : Submodel) (rank end : ℕ) → IsTable rs ss
    → submodel_of head rs ss ≡ d → rank < length ss → slice_get (sizes_of ss) rank ≡ Some (end - rank) → rank < end
    → (e : Element) × (slice_get (elements_of_all d.kids) rank ≡ Some e)
    × (deeper 0 (forest (rows_between rs ss rank end)) ≡ e ∷ [])
taken head rs ss d rank end t view lt size above =
    let e = element_there head rs ss d t view rank lt in
    (e.0, e.1, grown_of_rank rs ss rank end e.0 t (ranked_stands head rs ss d t view rank e.0 e.1) size above)

-- the one tree that is grown
pub only : (es : List Element) (e x : Element) → es ≡ e ∷ [] → slice_get es 0 ≡ Some x → Some x ≡ Some e
only es e x is at = sym at ∙ ap (λ es. slice_get es 0) is

-- the one element of a row
pub only_row : (k : ℕ) (e x : Element) → deeper 0 ((k, x) ∷ []) ≡ e ∷ [] → x ≡ e
only_row k e x is = by (nat_lt 0 k) is
  where
    by : (b : Bool) → (if b then x ∷ [] else []) ≡ e ∷ [] → x ≡ e
    by true is = cc
    by false is = absurd (cc)

pub some_grown : (es : List Element) (e : Element) → es ≡ e ∷ [] → es ≡ [] → ⊥
some_grown es e is none = let same : e ∷ [] ≡ [] = sym is ∙ none in absurd (cc)
