-- Elements at their ranks in a table, and their children.
use Rattle.std.proofs.Common.{◌≡◌, ℕ, zero, suc, ◌+◌, ◌-◌, ◌<◌, ◌≤◌, ◌⊎◌, inl, inr, Bool, true, false, List, [], ◌∷◌}
use Rattle.std.proofs.Common.{◌++◌, length, take, drop, get_or, Option, Some, None, option_and_then, option_map}
use Rattle.std.proofs.Common.{slice_get, refl, sym, ap, ap₂, ◌∙◌, subst, arith, length-append}
use Rattle.std.specs.List.{count_by}
use Rattle.std.proofs.lemmas.List.{append-nil}
use Rattle.std.proofs.lemmas.Option.{slice_get_cases, slice_get_past}
use Rattle.aas_model.specs.Payload as payload
use Rattle.aas_model.specs.Element.{kind_of}
use Rattle.aas_model.specs.declared.documents.Submodel.{Submodel}
use Rattle.aas_model.specs.declared.element.Element.{Element}
use Rattle.aas_model.specs.declared.path.PathStep.{PathStep}
use Rattle.aas_model.specs.declared.path.PathStep.TheVariants.{Place}
use Rattle.aas_model_names.specs.declared.kind.Kind.{Kind}
use Rattle.aas_path_trees.specs.Children.{kids_of, is_list, is_list_payload}
use Rattle.aas_path_trees.specs.ElementAt.{child_by, element_among, element_at}
use Rattle.aas_rows.specs.Children.{is_at, nth_where}
use Rattle.aas_rows.specs.Edits.{count}
use Rattle.aas_rows.specs.Rows.{Line, line_at, rows, rows_of_all}
use Rattle.aas_rows.proofs.Edited.{count_at, no_rank_among}
use Rattle.aas_rows.proofs.Ranked.{StandsAt, followed, led, stands_once, stands_at_path}
use Rattle.aas_rows.proofs.Stepping.{have_child_rows, map_same}
use Rattle.aas_rows.proofs.Trees.{rows_out, Every, by_kids, every, begins_all}
use Rattle.aas_store.specs.Spots.{elements, elements_of_all, rank_at, spot_among, spot_below}
use Rattle.aas_store.specs.declared.spot.Spot.{Spot}
use Rattle.aas_store.proofs.Listed.{elements_out, as_many_of_all}
use Rattle.aas_sheet_rows.specs.Found.{all_rows, side_of_step, Among}
use Rattle.aas_sheet_rows.specs.declared.finding.RowRange.{RowRange}
use Rattle.aas_sheet_index.specs.Sides.{is_below}
use Rattle.aas_sheet_rows.specs.Table.{line_of, lines_of, submodel_of, IsTable}
use Rattle.aas_sheet_index.specs.Sides.{sizes_of}
use Rattle.aas_sheet_rows.specs.declared.row.Row.{Row}
use Rattle.aas_sheet_index.specs.declared.side.Side.{Side}
use Rattle.aas_sheet_rows.proofs.Found.{Stood, Stepped, own_row, stood, siblings_counted, step_found}
use Rattle.aas_sheet_rows.proofs.Loans.{rows_same, lines_long}

-- ---- the elements in preorder, and their rows

Ranks : Element → Type 0
Ranks e = (k n : ℕ) (x : Element) → slice_get (elements e) n ≡ Some x → StandsAt (rows e k) k n x

-- an entry of two lists, one behind the other
entry_of_two : (xs ys : List Element) (n : ℕ) (x : Element) → slice_get (xs ++ ys) n ≡ Some x
    → (slice_get xs n ≡ Some x) ⊎ ((m : ℕ) × (length xs + m ≡ n) × (slice_get ys m ≡ Some x))
entry_of_two [] ys n x is = inr (n, omega arith, is)
entry_of_two (y ∷ xs) ys zero x is = inl is
entry_of_two (y ∷ xs) ys (suc n) x is = elim (entry_of_two xs ys n x is) [
  | inl here ↦ inl here
  | inr more ↦ inr (more.0, next more.0 more.1, more.2)
]
  where
    next : (m : ℕ) → length xs + m ≡ n → suc (length xs) + m ≡ suc n
    next m e = omega arith

as_many_rows : (e : Element) (k : ℕ) → length (elements e) ≡ length (rows e k)
as_many_rows e k =
    let kids : length (elements_of_all (kids_of e)) ≡ length (rows_of_all (kids_of e) (k + 1)) =
    as_many_of_all (kids_of e) ∙ sym (count_at (kids_of e) (k + 1)) in
    ap length (elements_out e) ∙ ap suc kids ∙ sym (ap length (rows_out e k))

ranks_all : (es : List Element) → Every Ranks es → (k n : ℕ) (x : Element)
    → slice_get (elements_of_all es) n ≡ Some x → StandsAt (rows_of_all es k) k n x
unfolding Ranks
ranks_all [] h k n x is = absurd (cc)
ranks_all (e ∷ es) h k n x is =
    elim (entry_of_two (elements e) (elements_of_all es) n x is) [
      | inl here ↦ followed (rows e k) (rows_of_all es k) k n x (h.0 k n x here) (begins_all es k)
      | inr more ↦
          led (rows e k) (rows_of_all es k) k k more.0 n x (omega arith)
          (ap (λ m. m + more.0) (sym (as_many_rows e k)) ∙ more.1) (ranks_all es h.1 k more.0 x more.2)
    ]

ranks : (e : Element) → Every Ranks (kids_of e) → Ranks e
unfolding Ranks
ranks e h k n x is = by n (ap (λ es. slice_get es n) (sym (elements_out e)) ∙ is)
  where
    by : (n : ℕ) → slice_get (e ∷ elements_of_all (kids_of e)) n ≡ Some x → StandsAt (rows e k) k n x
    by zero is =
        let same : e ≡ x = cc in
        record {
          before = [];
          behind = [];
          level = k;
          whole = sym (append-nil (rows e k)) ∙ ap (λ e. rows e k ++ []) same;
          at = refl;
          higher = tt;
          deep = omega arith;
        }
    by (suc n) is =
        subst (λ rs. StandsAt rs k (suc n) x) (sym (rows_out e k))
        (led (line_at k e ∷ []) (rows_of_all (kids_of e) (k + 1)) k (k + 1) n
        (suc n) x (omega arith) (omega arith) (ranks_all (kids_of e) h (k + 1) n x is))

pub stands_ranked : (es : List Element) (k n : ℕ) (x : Element)
    → slice_get (elements_of_all es) n ≡ Some x → StandsAt (rows_of_all es k) k n x
stands_ranked es k n x is = ranks_all es (every Ranks (by_kids Ranks ranks) es) k n x is

pub stands_inside : (all : List Line) (k n : ℕ) (e : Element) → StandsAt all k n e → n < length all
stands_inside all k n e s =
    let whole = ap length s.whole ∙ length-append s.before (rows e s.level ++ s.behind)
    ∙ ap (λ m. length s.before + m) (length-append (rows e s.level) s.behind) in
    let own = ap length (rows_out e s.level) in
    omega (arith, whole, own, s.at)

there_is : (es : List Element) (n : ℕ)
    → n < length (elements_of_all es) → (e : Element) × (slice_get (elements_of_all es) n ≡ Some e)
there_is es n lt = by (slice_get_cases (elements_of_all es) n).1
  where
    by : ((x : Element) × (n < length (elements_of_all es))
        × (slice_get (elements_of_all es) n ≡ Some x) × (get_or (elements_of_all es) n x ≡ x))
        ⊎ ((length (elements_of_all es) ≤ n) × (slice_get (elements_of_all es) n ≡ None))
        → (e : Element) × (slice_get (elements_of_all es) n ≡ Some e)
    by (inl here) = (here.0, here.2)
    by (inr past) = let le = past.0 in absurd (omega (arith, le, lt))

-- what stands at a rank is the element of that rank
pub element_ranked : (es : List Element) (k l n : ℕ) (e : Element)
    → StandsAt (rows_of_all es k) l n e → slice_get (elements_of_all es) n ≡ Some e
element_ranked es k l n e s =
    let inside = stands_inside (rows_of_all es k) l n e s in
    let many = as_many_of_all es ∙ sym (count_at es k) in
    let x = there_is es n (omega (arith, inside, many)) in
    x.1 ∙ ap (λ x. Some x) (stands_once (rows_of_all es k) k l n x.0 e (stands_ranked es k n x.0 x.1) s)

-- the element of the rank of a path is the one to which it leads
pub element_of_path : (d : Submodel) (p : List PathStep) (r : Option ℕ)
    → r ≡ rank_at d p → element_at d p ≡ option_and_then (λ n. slice_get (elements_of_all d.kids) n) r
element_of_path d [] r is = sym (ap (option_and_then (λ n. slice_get (elements_of_all d.kids) n)) is)
element_of_path d (s ∷ p) r is = by (element_among false s p d.kids) refl
  where
    by : (o : Option Element) → element_among false s p d.kids ≡ o
        → o ≡ option_and_then (λ n. slice_get (elements_of_all d.kids) n) r
    by None none = sym (ap (option_and_then (λ n. slice_get (elements_of_all d.kids) n))
        (is ∙ no_rank_among false s p d.kids none))
    by (Some e) found =
        let st = stands_at_path false s p d.kids 1 e found in
        sym (ap (option_and_then (λ n. slice_get (elements_of_all d.kids) n)) (is ∙ st.1)
        ∙ element_ranked d.kids 1 1 st.0 e st.2)

-- ---- the elements of a table

module _ (head : Submodel) (rs : List Row) (ss : List Side) (d : Submodel)
    (t : IsTable rs ss) (view : submodel_of head rs ss ≡ d) where
  pub lines_are : rows_of_all d.kids 1 ≡ lines_of rs ss
  lines_are = ap (λ (d : Submodel). rows_of_all d.kids 1) (sym view) ∙ rows_same head rs ss t

  pub as_many_sides : length (elements_of_all d.kids) ≡ length ss
  as_many_sides =
      as_many_of_all d.kids ∙ sym (count_at d.kids 1) ∙ ap length lines_are ∙ lines_long rs ss t.long ∙ t.long

  pub ranked_stands : (rank : ℕ) (e : Element)
      → slice_get (elements_of_all d.kids) rank ≡ Some e → StandsAt (lines_of rs ss) 1 rank e
  ranked_stands rank e is = subst (λ ls. StandsAt ls 1 rank e) lines_are (stands_ranked d.kids 1 rank e is)

  pub element_there : (rank : ℕ) → rank < length ss → (e : Element) × (slice_get (elements_of_all d.kids) rank ≡ Some e)
  element_there rank lt = let many = as_many_sides in there_is d.kids rank (omega (arith, many, lt))

  pub none_past : (rank : ℕ) → length ss ≤ rank → slice_get (elements_of_all d.kids) rank ≡ None
  none_past rank le = let many = as_many_sides in slice_get_past (elements_of_all d.kids) rank (omega (arith, many, le))

  -- the children of the element of a rank
  pub ranked_kids : (rank end : ℕ) (row : Row) (side : Side) → rank < length ss → row ≡ get_or rs rank row
      → side ≡ get_or ss rank side → slice_get (sizes_of ss) rank ≡ Some (end - rank) → rank < end
      → (e : Element) × (slice_get (elements_of_all d.kids) rank ≡ Some e) × Stood rs ss rank end e row side
  ranked_kids rank end row side lt row_is side_is size above =
      let e = element_there rank lt in
      (e.0, e.1, stood rs ss 1 rank end e.0 row side t (ranked_stands rank e.0 e.1) lt row_is side_is size above)

  -- all rows of a table are those of the submodel's children
  pub all_among : Among rs ss 0 (length ss) 0 d.kids
  all_among = record {
    before = [];
    behind = [];
    whole = sym lines_are ∙ sym (append-nil (rows_of_all d.kids 1));
    start = refl;
    stop = let long = ap length lines_are in let lines = lines_long rs ss t.long in omega (arith, t.long, long, lines);
    higher = tt;
  }

  pub children_counted : count_by (is_below 0) ss ≡ length d.kids
  children_counted = siblings_counted 0 rs ss d.kids t.long lines_are

  -- the rank of the child in a place
  pub rank_in_place : (place : ℕ)
      → option_map (λ i. 0 + i) (side_of_step true (Place place) 0 (take (length ss - 0) (drop 0 ss)))
      ≡ nth_where (is_at 1) place (rows_of_all d.kids 1)
  rank_in_place place =
      step_found rs ss 0 (length ss) 0 d.kids true (Place place) t all_among
      ∙ map_same (λ (c : ℕ × Element). 0 + count (take c.0 d.kids))
      (λ c. count (take c.0 d.kids)) (child_by true (Place place) d.kids) (λ c. omega arith)
      ∙ sym (have_child_rows true (Place place) d.kids 1)

  -- the children of the element of a rank, by a step
  pub spot_of_rank : (rank end : ℕ) (row : Row) (side : Side) (s : PathStep) (in_list : Bool) (result : Option Spot)
      → rank < length ss → row ≡ get_or rs rank row → side ≡ get_or ss rank side
      → slice_get (sizes_of ss) rank ≡ Some (end - rank) → rank < end → in_list ≡ is_list_payload row.payload
      → ((ks : List Element) → Among rs ss (rank + 1) end side.level ks → result ≡ spot_among in_list ks (rank + 1) s)
      → result ≡ spot_below d (Some rank) s
  spot_of_rank rank end row side s in_list result lt row_is side_is size above list_is found =
      let own = ranked_kids rank end row side lt row_is side_is size above in
      found (kids_of own.0) own.2.kids ∙ ap (λ b. spot_among b (kids_of own.0) (rank + 1) s) (list_is ∙ own.2.in_list)
      ∙ sym (ap (option_and_then (λ e. spot_among (is_list e) (kids_of e) (rank + 1) s)) own.1)

  pub no_spot_past : (rank : ℕ) (s : PathStep) → length ss ≤ rank → None ≡ spot_below d (Some rank) s
  no_spot_past rank s le =
      sym (ap (option_and_then (λ e. spot_among (is_list e) (kids_of e) (rank + 1) s)) (none_past rank le))

-- columns that are read in place of a table's
pub viewed : (head : Submodel) (rs rs' : List Row) (ss ss' : List Side) (d : Submodel) → IsTable rs ss
    → submodel_of head rs ss ≡ d → rs' ≡ rs → ss' ≡ ss → IsTable rs' ss' × (submodel_of head rs' ss' ≡ d)
viewed head rs rs' ss ss' d t view rows_are sides_are = (
  subst (λ rs. IsTable rs ss') (sym rows_are) (subst (λ ss. IsTable rs ss) (sym sides_are) t),
  ap₂ (submodel_of head) rows_are sides_are ∙ view,
)

pub all_read : (head : Submodel) (rs rs' : List Row) (ss : List Side) (d : Submodel)
    → IsTable rs ss → submodel_of head rs ss ≡ d → rs' ≡ rs → Among rs' ss 0 (length ss) 0 d.kids
all_read head rs rs' ss d t view rows_are =
    let v = viewed head rs rs' ss ss d t view rows_are refl in
    all_among head rs' ss d v.0 v.1

pub all_spanned : (head : Submodel) (rs rs' : List Row) (ss : List Side) (d : Submodel) (span : RowRange)
    → IsTable rs ss → submodel_of head rs ss ≡ d → rs' ≡ rs → span ≡ all_rows ss
    → Among rs' ss span.first span.end span.level d.kids
all_spanned head rs rs' ss d span t view rows_are is =
    subst (λ (span : RowRange). Among rs' ss span.first span.end span.level d.kids)
    (sym is) (all_read head rs rs' ss d t view rows_are)

-- ---- spots of children

abbrev Child : Type 0
Child = ℕ × Element

abbrev pub some_spot : ℕ → Kind → Option Spot
some_spot rank kind = Some (record { rank = rank; kind = kind })

abbrev pub spot_of : ℕ → List Element → Child → Spot
spot_of first ks c = record { rank = first + length (elements_of_all (take c.0 ks)); kind = kind_of c.1 }

pub no_side : Side
no_side = record { id_short = None; level = 0; size = 0; short_key = 0 }

pub own_side : (ss : List Side) (n : ℕ) (d : Side) → get_or ss n d ≡ get_or ss n (get_or ss n d)
own_side [] n d = refl
own_side (s ∷ ss) zero d = refl
own_side (s ∷ ss) (suc n) d = own_side ss n d

-- the spot of the child to which a step leads
pub spot_there : (rs : List Row) (ss : List Side) (first k rank : ℕ)
    (ks : List Element) (l : Bool) (s : PathStep) (row : Row) (kind : Kind)
    → length rs ≡ length ss → rank < length ss → row ≡ get_or rs rank row
    → kind ≡ payload.kind_of row.payload → Stepped rs ss first k rank ks l s
    → some_spot rank kind ≡ spot_among l ks first s
spot_there rs ss first k rank ks l s row kind long lt row_is kind_is st =
    let same : line_of row (get_or ss rank no_side) ≡ line_at st.stands.level st.child.1 = own_row rs ss
    (k + 1) rank st.child.1 row (get_or ss rank no_side) st.stands long lt row_is (own_side ss rank no_side) in
    ap₂ some_spot (st.at ∙ ap (λ n. first + n) (sym (as_many_of_all (take st.child.0 ks))))
    (kind_is ∙ ap (λ (r : Line). payload.kind_of r.payload) same)
    ∙ ap (option_map (spot_of first ks)) (sym st.by_step)

pub no_spot : (first : ℕ) (ks : List Element) (l : Bool) (s : PathStep)
    → child_by l s ks ≡ None → None ≡ spot_among l ks first s
no_spot first ks l s none = ap (option_map (spot_of first ks)) (sym none)
