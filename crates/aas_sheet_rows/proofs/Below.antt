-- What is read of the rows below what a path leads to.
use Rattle.std.proofs.Common.{◌≡◌, ℕ, ◌+◌, ◌-◌, ◌<◌, ◌≤◌, ◌⊎◌, inl, inr, false, List, [], ◌∷◌, ◌++◌, length, get_or}
use Rattle.std.proofs.Common.{Option, Some, None, is_some, option_and_then, option_map, slice_get, refl, sym, ap, ◌∙◌}
use Rattle.std.proofs.Common.{subst, append_assoc, arith, length-append}
use Rattle.std.specs.Option.{MatchOption, option_map_or, option_or}
use Rattle.std.proofs.lemmas.Option.{slice_get_cases}
use Rattle.aas_lemmas.proofs.Lists.{at_seam}
use Rattle.aas_model.specs.declared.documents.Submodel.{Submodel}
use Rattle.aas_model.specs.declared.element.Element.{Element}
use Rattle.aas_model.specs.declared.path.PathStep.{PathStep}
use Rattle.aas_model.specs.declared.path.PathStep.TheVariants.{Name}
use Rattle.aas_model.specs.declared.reference.Reference.{Reference}
use Rattle.aas_path_trees.specs.Children.{id_short_of, kids_of}
use Rattle.aas_path_trees.specs.ElementAt.{child_by, element_among, element_at, is_text, place_named}
use Rattle.aas_path_trees.specs.ElementAt.{place_of, children_at}
use Rattle.aas_rows.proofs.Edited.{no_rank_among}
use Rattle.aas_rows.proofs.Ranked.{StandsAt, followed, led, stands_at_path}
use Rattle.aas_rows.proofs.Stepping.{position_inside}
use Rattle.aas_rows.proofs.Trees.{rows_begin, rows_out}
use Rattle.aas_rows.specs.Edits.{rank_among}
use Rattle.aas_rows.specs.Rows.{Line, line_at, rows, rows_of_all}
use Rattle.aas_rows.specs.Views as shown
use Rattle.aas_rows.specs.declared.view.RowView.{RowView}
use Rattle.aas_sheet_index.specs.Sides.{sizes_of}
use Rattle.aas_sheet_index.specs.declared.side.Side.{Side}
use Rattle.aas_sheet_rows.proofs.Edits.{reached}
use Rattle.aas_sheet_rows.proofs.Found.{own_row, own_size, stood}
use Rattle.aas_sheet_rows.proofs.Standing.{no_side, own_side, spot_of}
use Rattle.aas_sheet_rows.specs.Found.{Among}
use Rattle.aas_sheet_rows.specs.Table.{line_of, lines_of, IsTable}
use Rattle.aas_sheet_rows.specs.declared.row.Row.{Row}
use Rattle.aas_store.specs.Reads.{IsRowOf, first_semantic_id, semantic_id_of}
use Rattle.aas_store.specs.Spots.{rank_at, spot_among}
use Rattle.aas_store.proofs.Paths.{from_zero, no_element}

-- ---- the row of what a path leads to

-- the view of a row of a level shows it at its own
own_level : (v : RowView) (k : ℕ) (e : Element) → shown.line_of v ≡ line_at k e → IsRowOf e v
own_level v k e is = is ∙ ap (λ k. line_at k e) (sym (ap (λ (l : Line). l.level) is))

-- the row of a path's rank is that of the element to which it leads
pub row_of_path : (d : Submodel) (p : List PathStep) (rank : ℕ) (r : Option RowView)
    → Some rank ≡ rank_at d p → option_map shown.line_of r ≡ slice_get (rows_of_all d.kids 1) rank
    → MatchOption r (element_at d p ≡ None) (λ v. MatchOption (element_at d p) ⊥ (λ e. IsRowOf e v))
row_of_path d p rank r is row =
    let m = reached d p rank is in
    let e : Element = m.element in
    let found : element_at d p ≡ Some e = ap (element_at d) m.path ∙ m.found in
    let there : slice_get (rows_of_all d.kids 1) rank ≡ Some (line_at m.st.level e) =
    ap (λ n. slice_get (rows_of_all d.kids 1) n) (sym m.at)
    ∙ ap (λ ls. slice_get ls (length m.st.before))
    (m.st.whole ∙ ap (λ xs. m.st.before ++ (xs ++ m.st.behind)) (rows_out e m.st.level))
    ∙ at_seam m.st.before (line_at m.st.level e) (rows_of_all (kids_of e) (m.st.level + 1) ++ m.st.behind) in
    by r e m.st.level (row ∙ there) (element_at d p) found
  where
    by : (r : Option RowView) (e : Element) (k : ℕ)
        → option_map shown.line_of r ≡ Some (line_at k e) → (o : Option Element) → o ≡ Some e
        → MatchOption r (o ≡ None) (λ v. MatchOption o ⊥ (λ e. IsRowOf e v))
    by None e k row o found = absurd (cc)
    by (Some v) e k row None found = absurd (cc)
    by (Some v) e k row (Some f) found = let same : shown.line_of v ≡ line_at k f = cc in own_level v k f same

-- ---- a child of a name

abbrev Child : Type 0
Child = ℕ × Element

-- the child of a name has a spot where it has a place
pub spot_named : (n : List ℕ) (ks : List Element) (first : ℕ)
    → is_some (spot_among false ks first (Name n)) ≡ is_some (place_named n ks)
unfolding child_by place_of
spot_named n ks first = by (place_named n ks) refl
  where
    here : (i : ℕ) → i < length ks
        → is_some (option_map (spot_of first ks) (option_map {U = Child} (λ k. (i, k)) (slice_get ks i)))
        ≡ is_some (Some i)
    here i lt = elim (slice_get_cases ks i).1 [
      | inl there ↦ ap (λ o. is_some (option_map (spot_of first ks) (option_map {U = Child} (λ k. (i, k)) o))) there.2
      | inr past ↦ (let le = past.0 in absurd (omega (arith, le, lt)))
    ]

    by : (o : Option ℕ) → place_named n ks ≡ o → is_some
        (option_map (spot_of first ks) (option_and_then (λ i. option_map {U = Child} (λ k. (i, k)) (slice_get ks i)) o))
        ≡ is_some o
    by None none = refl
    by (Some i) some = here i (position_inside (λ k. is_text n (id_short_of k)) ks i some)

-- ---- siblings, one at a time

-- the first of siblings that stand among rows, and the others behind it
pub record First (rs : List Row) (ss : List Side) (rank end k : ℕ) (ks : List Element) (row : Row) : Type 0 where
  pub first : Element
  pub others : List Element
  pub are : ks ≡ first ∷ others
  pub own : semantic_id_of first ≡ row.common.semantics.semantic_id
  pub behind : (next : ℕ)
      → slice_get (sizes_of ss) rank ≡ Some (next - rank) → rank < next → Among rs ss next end k others

pub first_there : (rs : List Row) (ss : List Side) (rank end k : ℕ) (ks : List Element) (row : Row)
    → IsTable rs ss → Among rs ss rank end k ks → rank < end → end ≤ length ss → row ≡ get_or rs rank row
    → First rs ss rank end k ks row
first_there rs ss rank end k [] row t a lt within is = let stop = a.stop in absurd (omega (arith, stop, lt))
first_there rs ss rank end k (e ∷ es) row t a lt within is =
    let own : List Line = rows e (k + 1) in
    let rest : List Line = rows_of_all es (k + 1) in
    let st : StandsAt (lines_of rs ss) (k + 1) rank e = record {
      before = a.before;
      behind = rest ++ a.behind;
      level = k + 1;
      whole = a.whole ∙ ap (λ xs. a.before ++ xs) (append_assoc own rest a.behind);
      at = a.start;
      higher = rows_begin es (k + 1) a.behind a.higher;
      deep = omega arith;
    } in
    let same : line_of row (get_or ss rank no_side) ≡ line_at (k + 1) e =
    own_row rs ss (k + 1) rank e row (get_or ss rank no_side) st t.long
    (omega (arith, lt, within)) is (own_side ss rank no_side) in
    record {
      first = e;
      others = es;
      are = refl;
      own = ap (λ (l : Line). l.common.semantics.semantic_id) (sym same);
      behind = λ next size above.
          let tall : next - rank ≡ length own = own_size rs ss (k + 1) rank (next - rank) e st t size in
          let front = length-append a.before own in
          let both = length-append own rest in
          let start = a.start in
          let stop = a.stop in record {
            before = a.before ++ own;
            behind = a.behind;
            whole = st.whole ∙ sym (append_assoc a.before own (rest ++ a.behind));
            start = omega (arith, tall, front, start, above);
            stop = omega (arith, tall, both, stop, above);
            higher = a.higher;
          };
    }

-- a loop over siblings has come to those that stand from a rank on, and none before them has a semanticId
pub record SemanticLeft (rs : List Row) (ss : List Side) (rank end k : ℕ) (ks : List Element) : Type 0 where
  pub others : List Element
  pub among : Among rs ss rank end k others
  pub same : first_semantic_id ks ≡ first_semantic_id others

pub begun : (rs : List Row) (ss : List Side) (rank end k : ℕ) (ks : List Element)
    → Among rs ss rank end k ks → SemanticLeft rs ss rank end k ks
begun rs ss rank end k ks a = record { others = ks; among = a; same = refl }

-- the loop at one that has a row
module _ (rs : List Row) (ss : List Side) (rank end k : ℕ) (ks : List Element) (row : Row)
    (t : IsTable rs ss) (lt : rank < end) (within : end ≤ length ss) (is : row ≡ get_or rs rank row) where
  pub semantic_here : (r : Reference)
      → SemanticLeft rs ss rank end k ks → row.common.semantics.semantic_id ≡ Some r → Some r ≡ first_semantic_id ks
  semantic_here r l some =
      let f = first_there rs ss rank end k l.others row t l.among lt within is in
      sym (l.same ∙ ap first_semantic_id f.are ∙ ap (λ o. option_or o (first_semantic_id f.others)) (f.own ∙ some))

  pub semantic_behind : (next : ℕ) → SemanticLeft rs ss rank end k ks → row.common.semantics.semantic_id ≡ None
      → slice_get (sizes_of ss) rank ≡ Some (next - rank) → rank < next → SemanticLeft rs ss next end k ks
  semantic_behind next l none size above =
      let f = first_there rs ss rank end k l.others row t l.among lt within is in record {
        others = f.others;
        among = f.behind next size above;
        same = l.same ∙ ap first_semantic_id f.are ∙ ap (λ o. option_or o (first_semantic_id f.others)) (f.own ∙ none);
      }

pub semantic_none : (rs : List Row) (ss : List Side) (rank end k : ℕ) (ks : List Element)
    → end ≤ rank → SemanticLeft rs ss rank end k ks → None ≡ first_semantic_id ks
semantic_none rs ss rank end k ks le l = sym (l.same ∙ by l.others l.among)
  where
    by : (es : List Element) → Among rs ss rank end k es → first_semantic_id es ≡ None
    by [] a = refl
    by (e ∷ es) a =
        let own = ap length (rows_out e (k + 1)) in
        let both = length-append (rows e (k + 1)) (rows_of_all es (k + 1)) in
        let stop = a.stop in absurd (omega (arith, own, both, stop, le))

-- ---- below a path

-- what a path leads to stands in the table
found_stands : (rs : List Row) (ss : List Side) (end : ℕ)
    (s : PathStep) (p : List PathStep) (rank : ℕ) (ks : List Element)
    → Among rs ss 0 end 0 ks
    → Some rank ≡ option_map (λ r. 0 + r) (rank_among false s p ks)
    → (e : Element) × (element_among false s p ks ≡ Some e) × StandsAt (lines_of rs ss) 1 rank e
found_stands rs ss end s p rank ks a is = by (element_among false s p ks) refl
  where
    found : Some rank ≡ rank_among false s p ks
    found = is ∙ from_zero (rank_among false s p ks)

    by : (o : Option Element) → element_among false s p ks ≡ o
        → (e : Element) × (element_among false s p ks ≡ Some e) × StandsAt (lines_of rs ss) 1 rank e
    by None none = let lost : Some rank ≡ None = found ∙ no_rank_among false s p ks none in absurd (cc)
    by (Some e) there =
        let st = stands_at_path false s p ks 1 e there in
        let same : Some rank ≡ Some st.0 = found ∙ st.1 in
        let at : st.0 ≡ rank = cc in
        let own : StandsAt (rows_of_all ks 1 ++ a.behind) 1 st.0 e =
        followed (rows_of_all ks 1) a.behind 1 st.0 e st.2 a.higher in
        let start = a.start in (
          e,
          there,
          subst (λ ls. StandsAt ls 1 rank e) (sym a.whole) (led a.before
              (rows_of_all ks 1 ++ a.behind) 1 1 st.0 rank e (omega arith) (omega (arith, start, at)) own),
        )

-- the rows below what a path leads to are those of its children
pub found_below : (rs : List Row) (ss : List Side) (d : Submodel)
    (p q : List PathStep) (s : PathStep) (rank next : ℕ) (side : Side)
    → IsTable rs ss → Among rs ss 0 (length ss) 0 d.kids → p ≡ s ∷ q
    → Some rank ≡ option_map (λ r. 0 + r) (rank_among false s q d.kids) → rank < length ss
    → side ≡ get_or ss rank side → slice_get (sizes_of ss) rank ≡ Some (next - rank) → rank < next
    → Among rs ss (rank + 1) next side.level (children_at d p)
found_below rs ss d p q s rank next side t a path is lt side_is size above =
    let st = found_stands rs ss (length ss) s q rank d.kids a is in
    let kids : kids_of st.0 ≡ children_at d p =
    sym (ap (children_at d) path ∙ ap (λ o. option_map_or kids_of o []) st.1) in
    subst (Among rs ss (rank + 1) next side.level) kids (by st.0 st.2 (slice_get_cases rs rank).1)
  where
    by : (e : Element) → StandsAt (lines_of rs ss) 1 rank e
        → ((x : Row) × (rank < length rs) × (slice_get rs rank ≡ Some x) × (get_or rs rank x ≡ x))
        ⊎ ((length rs ≤ rank) × (slice_get rs rank ≡ None))
        → Among rs ss (rank + 1) next side.level (kids_of e)
    by e st (inl here) = (stood rs ss 1 rank next e here.0 side t st lt (sym here.3) side_is size above).kids
    by e st (inr past) = let le = past.0 in absurd (omega (arith, le, lt, t.long))

pub nothing_below : (d : Submodel) (p q : List PathStep) (s : PathStep)
    → p ≡ s ∷ q → None ≡ option_map (λ r. 0 + r) (rank_among false s q d.kids) → children_at d p ≡ []
nothing_below d p q s path none =
    ap (children_at d) path
    ∙ ap (λ o. option_map_or kids_of o []) (no_element d (s ∷ q) (none ∙ from_zero (rank_among false s q d.kids)))
