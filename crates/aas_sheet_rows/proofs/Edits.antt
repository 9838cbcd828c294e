-- What edits of a submodel make of the rows of its table.
use Rattle.std.proofs.Common.{◌≡◌, ℕ, ◌+◌, ◌-◌, ◌^◌, ◌<◌, ◌≤◌, Bool, true, false, if◌then◌else◌, List, [], ◌∷◌, ◌++◌}
use Rattle.std.proofs.Common.{length, take, drop, Option, Some, None, IsSome, slice_get, get_or, refl, subst, sym, ap}
use Rattle.std.proofs.Common.{ap₂, ◌∙◌, arith, append_assoc, length-append, option_and_then, Result, Ok, Err}
use Rattle.std.proofs.Common.{OnOk, OnErr}
use Rattle.std.specs.List.{remove_range, replace_range}
use Rattle.std.specs.Option.{option_map_or}
use Rattle.std.proofs.lemmas.List.{append-nil}
use Rattle.std.proofs.lemmas.Grind.{flat_map-append}
use Rattle.aas_model.specs.declared.documents.Submodel.{Submodel}
use Rattle.aas_model.specs.declared.element.Element.{Element, out-Element}
use Rattle.aas_model.specs.declared.element.Role.{Role}
use Rattle.aas_model.specs.declared.path.PathStep.{PathStep}
use Rattle.aas_path_trees.specs.Children.{kids_of, role_of, with_role}
use Rattle.aas_path_trees.specs.Edits.{fits_role, if_fits, inserted, removed, replaced, removed_among, role_at}
use Rattle.aas_path_trees.specs.Edits.{role_under, role_within, with_last, with_last_at}
use Rattle.aas_path_trees.specs.ElementAt.{element_among, element_at}
use Rattle.aas_path_trees.specs.Patched.{kinds, element_count}
use Rattle.aas_path_trees.specs.WithElement.{with_among, with_element}
use Rattle.aas_path_trees.proofs.Patches.{kinds_out}
use Rattle.aas_path_trees.proofs.Removed.{removed_among-none}
use Rattle.aas_rows.specs.Edits.{StandsIn, count}
use Rattle.aas_rows.specs.Rows.{Line, line_at, rows, rows_of_all, sizes}
use Rattle.aas_rows.proofs.Edited.{count_at, have_edited_rows, no_rank_among, row_of_with_kids}
use Rattle.aas_rows.proofs.Ranked.{StandsAt}
use Rattle.aas_rows.proofs.Trees.{rows_out}
use Rattle.aas_store.specs.Spots.{rank_at}
use Rattle.aas_store.proofs.Paths.{no_element}
use Rattle.aas_sheet_rows.specs.Table.{line_of, lines_of, submodel_of, IsTable}
use Rattle.aas_sheet_index.specs.Sides.{levels, sizes_of}
use Rattle.aas_sheet_rows.specs.declared.row.Row.{Row}
use Rattle.aas_sheet_index.specs.declared.side.Side.{Side}
use Rattle.aas_sheet_rows.proofs.Found.{own_row, own_size}
use Rattle.aas_sheet_rows.proofs.Loans.{lines_long}
use Rattle.aas_sheet_rows.proofs.Laid.{level_low}
use Rattle.aas_sheet_rows.proofs.Made.{made_table, made_submodel}
use Rattle.aas_sheet_index.proofs.Spliced.{take_seam, drop_seam}
use Rattle.aas_sheet_rows.proofs.Standing.{lines_are, stands_inside}

-- a part in the middle of rows, and others in its place
pub replaced_mid : (ls b m a w : List Line) (first end : ℕ)
    → ls ≡ b ++ (m ++ a) → length b ≡ first → end ≡ first + length m → replace_range ls first end w ≡ (b ++ w) ++ a
replaced_mid ls b m a w first end is front back =
    ap₂ (λ x y. (x ++ w) ++ y) (take_seam ls b (m ++ a) first is front)
    (drop_seam ls (b ++ m) a end (is ∙ sym (append_assoc b m a))
    (length-append b m ∙ ap (λ n. n + length m) front ∙ sym back))

pub removed_mid : (ls b m a : List Line) (first end : ℕ)
    → ls ≡ b ++ (m ++ a) → length b ≡ first → end ≡ first + length m → remove_range ls first end ≡ b ++ a
removed_mid ls b m a first end is front back =
    ap₂ (λ x y. x ++ y) (take_seam ls b (m ++ a) first is front)
    (drop_seam ls (b ++ m) a end (is ∙ sym (append_assoc b m a))
    (length-append b m ∙ ap (λ n. n + length m) front ∙ sym back))

-- the rows of an element with one child more
last_rows : (o e : Element) (r : Role) (k : ℕ) → rows (with_last o e r) k ≡ rows o k ++ rows (with_role e r) (k + 1)
last_rows o e r k =
    row_of_with_kids o (kids_of o ++ with_role e r ∷ []) k
    ∙ ap (λ ls. line_at k o ∷ ls)
    (flat_map-append (λ e. rows e (k + 1)) (kids_of o) (with_role e r ∷ [])
    ∙ ap (λ ls. rows_of_all (kids_of o) (k + 1) ++ ls) (append-nil (rows (with_role e r) (k + 1))))
    ∙ ap (λ ls. ls ++ rows (with_role e r) (k + 1)) (sym (rows_out o k))

-- a submodel with other rows
pub record Made (d new : Submodel) (ls : List Line) : Type 0 where
  pub kids : List Element
  pub is : new ≡ record d { kids = kids }
  pub rows_are : rows_of_all kids 1 ≡ ls

-- what a path leads to, at its rank
pub record Reached (d : Submodel) (p : List PathStep) (rank : ℕ) : Type 0 where
  pub step : PathStep
  pub rest : List PathStep
  pub path : p ≡ step ∷ rest
  pub element : Element
  pub found : element_among false step rest d.kids ≡ Some element
  pub st : StandsIn false step rest d.kids 1 element
  pub at : length st.before ≡ rank

pub reached : (d : Submodel) (p : List PathStep) (rank : ℕ) → Some rank ≡ rank_at d p → Reached d p rank
reached d [] rank is = absurd (cc)
reached d (s ∷ p) rank is = by (element_among false s p d.kids) refl
  where
    by : (o : Option Element) → element_among false s p d.kids ≡ o → Reached d (s ∷ p) rank
    by None none = let lost : Some rank ≡ None = is ∙ no_rank_among false s p d.kids none in absurd (cc)
    by (Some e) found =
        let st : StandsIn false s p d.kids 1 e = have_edited_rows false s p d.kids 1 e found in
        let same : Some (length st.before) ≡ Some rank = sym st.at ∙ sym is in
        record { step = s; rest = p; path = refl; element = e; found = found; st = st; at = cc }

module _ (head : Submodel) (rs : List Row) (ss : List Side) (d : Submodel)
    (t : IsTable rs ss) (view : submodel_of head rs ss ≡ d) where
  abbrev reached_stands : (p : List PathStep) (rank : ℕ) (r : Reached d p rank)
      → StandsAt (lines_of rs ss) 1 rank r.element
  reached_stands p rank r =
      record {
        before = r.st.before;
        behind = r.st.behind;
        level = r.st.level;
        whole = sym (lines_are head rs ss d t view) ∙ r.st.whole;
        at = r.at;
        higher = r.st.higher;
        deep = r.st.deep;
      }

  pub reached_within : (p : List PathStep) (rank : ℕ) → Reached d p rank → rank < length ss
  reached_within p rank r =
      let inside = stands_inside (lines_of rs ss) 1 rank r.element (reached_stands p rank r) in
      omega (arith, inside, lines_long rs ss t.long, t.long)

  -- the row of what is reached, and the rank behind it
  pub reached_row : (p : List PathStep) (rank : ℕ) (r : Reached d p rank) (row : Row) (side : Side)
      → row ≡ get_or rs rank row → side ≡ get_or ss rank side → line_of row side ≡ line_at r.st.level r.element
  reached_row p rank r row side row_is side_is =
      own_row rs ss 1 rank r.element row side (reached_stands p rank r) t.long (reached_within p rank r) row_is side_is

  pub reached_end : (p : List PathStep) (rank end : ℕ) (r : Reached d p rank)
      → slice_get (sizes_of ss) rank ≡ Some (end - rank) → rank < end → end ≡ rank + length (rows r.element r.st.level)
  reached_end p rank end r size above =
      let tall : end - rank ≡ length (rows r.element r.st.level) =
      own_size rs ss 1 rank (end - rank) r.element (reached_stands p rank r) t size in
      omega (arith, tall, above)

  table_rows : (p : List PathStep) (rank : ℕ) (r : Reached d p rank)
      → lines_of rs ss ≡ r.st.before ++ (rows r.element r.st.level ++ r.st.behind)
  table_rows p rank r = sym (lines_are head rs ss d t view) ∙ r.st.whole

  pub made_removed : (p : List PathStep) (rank end : ℕ) (r : Reached d p rank)
      → end ≡ rank + length (rows r.element r.st.level) → Made d (removed d p) (remove_range (lines_of rs ss) rank end)
  made_removed p rank end r back = record {
    kids = removed_among false r.step r.rest d.kids;
    is = ap (removed d) r.path;
    rows_are = r.st.removed ∙ sym (removed_mid (lines_of rs ss) r.st.before
        (rows r.element r.st.level) r.st.behind rank end (table_rows p rank r) r.at back);
  }

  pub made_replaced : (p : List PathStep) (rank end : ℕ) (e : Element) (r : Reached d p rank)
      → end ≡ rank + length (rows r.element r.st.level)
      → Made d (replaced d p e)
      (replace_range (lines_of rs ss) rank end (rows (with_role e (role_of r.element)) r.st.level))
  made_replaced p rank end e r back =
      let w : Element = with_role e (role_of r.element) in record {
        kids = with_among false r.step r.rest d.kids w;
        is =
            ap (λ p. replaced d p e) r.path
            ∙ ap (λ o. option_map_or
            (λ o. record d { kids = with_among false r.step r.rest d.kids (with_role e (role_of o)) }) o d)
            r.found;
        rows_are = r.st.edited w ∙ sym (append_assoc r.st.before (rows w r.st.level) r.st.behind)
            ∙ sym (replaced_mid (lines_of rs ss) r.st.before (rows r.element r.st.level) r.st.behind
            (rows w r.st.level) rank end (table_rows p rank r) r.at back);
      }

  pub made_inserted : (p : List PathStep) (rank end : ℕ) (e : Element) (role : Role) (r : Reached d p rank)
      → end ≡ rank + length (rows r.element r.st.level) → role_at d p e ≡ Some role
      → Made d (inserted d p e) (replace_range (lines_of rs ss) end end (rows (with_role e role) (r.st.level + 1)))
  made_inserted p rank end e role r back fits =
      let w : Element = with_last r.element e role in
      let own : List Line = rows r.element r.st.level in
      let added : List Line = rows (with_role e role) (r.st.level + 1) in
      let front : length (r.st.before ++ own) ≡ end =
      length-append r.st.before own ∙ ap (λ n. n + length own) r.at ∙ sym back in
      record {
        kids = with_among false r.step r.rest d.kids w;
        is = ap₂ (λ o p. option_map_or (with_last_at d p e (element_at d p)) o d) fits r.path
            ∙ ap (λ o. with_last_at d (r.step ∷ r.rest) e o role) r.found;
        rows_are = r.st.edited w ∙ ap (λ ls. r.st.before ++ (ls ++ r.st.behind)) (last_rows r.element e role r.st.level)
            ∙ ap (λ ls. r.st.before ++ ls) (append_assoc own added r.st.behind)
            ∙ sym (append_assoc r.st.before own (added ++ r.st.behind))
            ∙ sym (append_assoc (r.st.before ++ own) added r.st.behind)
            ∙ sym (replaced_mid (lines_of rs ss) (r.st.before ++ own) [] r.st.behind added end end
            (table_rows p rank r ∙ sym (append_assoc r.st.before own r.st.behind)) front (plus_none end));
      }
    where
      plus_none : (n : ℕ) → n ≡ n + 0
      plus_none n = omega arith

  pub made_first : (e : Element) (role : Role) → role_at d [] e ≡ Some role
      → Made d (inserted d [] e) (replace_range (lines_of rs ss) (length ss) (length ss) (rows (with_role e role) 1))
  made_first e role fits = record {
    kids = d.kids ++ with_role e role ∷ [];
    is = ap (λ o. option_map_or (with_last_at d [] e None) o d) fits;
    rows_are =
        flat_map-append (λ e. rows e 1) d.kids (with_role e role ∷ [])
        ∙ ap₂ (λ x y. x ++ y) (lines_are head rs ss d t view) (append-nil (rows (with_role e role) 1))
        ∙ sym (append-nil (lines_of rs ss ++ rows (with_role e role) 1))
        ∙ sym (replaced_mid (lines_of rs ss) (lines_of rs ss) [] [] (rows (with_role e role) 1) (length ss)
        (length ss) (sym (append-nil (lines_of rs ss))) (lines_long rs ss t.long ∙ t.long) (plus_none (length ss)));
  }
    where
      plus_none : (n : ℕ) → n ≡ n + 0
      plus_none n = omega arith

  -- ---- new columns

  pub edited_table : (new : Submodel) (ls : List Line) (rs' : List Row) (ss' : List Side)
      → Made d new ls → length rs' ≡ length ss' → lines_of rs' ss' ≡ ls → sizes_of ss' ≡ sizes (levels ss')
      → IsTable rs' ss' × (submodel_of head rs' ss' ≡ new)
  edited_table new ls rs' ss' m long are sized =
      let same : lines_of rs' ss' ≡ rows_of_all m.kids 1 = are ∙ sym m.rows_are in (
        made_table m.kids rs' ss' long same sized,
        made_submodel head m.kids rs' ss' same ∙ ap (λ (d : Submodel). record d { kids = m.kids }) view ∙ sym m.is,
      )

  -- columns into which rows were put, or which are as they were
  pub put_table : {A B : Type 0} (q : Result A B) (new : Submodel) (ls : List Line) (rs' : List Row) (ss' : List Side)
      → Made d new ls → OnOk q (lines_of rs' ss' ≡ ls) → OnOk q (length rs' ≡ length ss')
      → OnOk q (sizes_of ss' ≡ sizes (levels ss')) → OnErr q (rs' ≡ rs) → OnErr q (ss' ≡ ss)
      → IsTable rs' ss' × OnOk q (submodel_of head rs' ss' ≡ new)
  put_table (Ok a) new ls rs' ss' m are long sized rows_same sides_same = edited_table new ls rs' ss' m long are sized
  put_table (Err b) new ls rs' ss' m are long sized rows_same sides_same = (
    subst (λ (rs : List Row). IsTable rs ss') (sym rows_same)
        (subst (λ (ss : List Side). IsTable rs ss) (sym sides_same) t),
    tt,
  )

-- how deep a new element can stand, and how many there can be below it
pub edit_bounds : (d new : Submodel) (ls : List Line) (first end k : ℕ) (w : Element)
    → Made d new (replace_range ls first end (rows w k)) → element_count new ≤ 65536
    → (k ≤ 65536) × (length (kinds w) ≤ 65536) × (length (replace_range ls first end (rows w k)) ≤ 65536)
edit_bounds d new ls first end k w m few =
    let many : count m.kids ≤ 65536 = subst (λ (n : Submodel). element_count n ≤ 65536) m.is few in
    let below : List Line = rows_of_all (kids_of w) (k + 1) in
    let whole : rows_of_all m.kids 1 ≡ take first ls ++ line_at k w ∷ (below ++ drop end ls) =
    m.rows_are ∙ append_assoc (take first ls) (rows w k) (drop end ls)
    ∙ ap (λ rs. take first ls ++ (rs ++ drop end ls)) (rows_out w k) in
    let low = level_low m.kids 1 (take first ls) (line_at k w) (below ++ drop end ls) (omega arith) whole in
    let size = sym (count_at m.kids 1) ∙ ap length whole
    ∙ length-append (take first ls) (line_at k w ∷ (below ++ drop end ls)) in
    let more = length-append below (drop end ls) in
    let own = ap length (kinds_out w) in
    let kids = count_at (kids_of w) (k + 1) in
    let rows_all = sym (count_at m.kids 1) ∙ ap length m.rows_are in
    (omega (arith, low, many), omega (arith, size, more, own, kids, many), omega (arith, rows_all, many))

-- where a path leads nowhere, nothing is removed or replaced
pub nothing_removed : (d : Submodel) (p : List PathStep) → None ≡ rank_at d p → d ≡ removed d p
nothing_removed d [] none = refl
nothing_removed d (s ∷ p) none =
    ap (λ ks. record d { kids = ks }) (sym (removed_among-none p false s d.kids (no_element d (s ∷ p) none)))

pub nothing_replaced : (d : Submodel) (p : List PathStep) (e : Element) → None ≡ rank_at d p → d ≡ replaced d p e
nothing_replaced d p e none =
    sym (ap (λ o. option_map_or (λ o. with_element d p (with_role e (role_of o))) o d) (no_element d p none))

-- a new child of what is reached has the role that its row says
pub role_taken : (d : Submodel) (p : List PathStep) (rank : ℕ) (e : Element) (r : Reached d p rank)
    → IsSome (role_at d p e)
    → (role : Role) × (role_at d p e ≡ Some role) × (role_within (out-Element r.element).payload ≡ Some role)
role_taken d p rank e r takes = by (role_within (out-Element r.element).payload) refl
  where
    at_found : role_at d p e ≡ option_and_then (if_fits e) (role_within (out-Element r.element).payload)
    at_found = ap (λ p. role_at d p e) r.path ∙ ap (λ o. option_and_then (λ o. role_under o e) o) r.found

    none : role_at d p e ≡ None
        → (role : Role) × (role_at d p e ≡ Some role) × (role_within (out-Element r.element).payload ≡ Some role)
    none lost = let no : false ≡ true = subst (λ (o : Option Role). IsSome o) lost takes in absurd (cc)

    by : (o : Option Role) → role_within (out-Element r.element).payload ≡ o
        → (role : Role) × (role_at d p e ≡ Some role) × (role_within (out-Element r.element).payload ≡ Some role)
    by None is = let lost : role_at d p e ≡ None = at_found ∙ ap (option_and_then (if_fits e)) is in none lost
    by (Some role) is = fits (fits_role e role) refl
      where
        fits : (b : Bool) → fits_role e role ≡ b
            → (role : Role) × (role_at d p e ≡ Some role) × (role_within (out-Element r.element).payload ≡ Some role)
        fits true f =
            (role, at_found ∙ ap (option_and_then (if_fits e)) is ∙ ap (λ b. if b then Some role else None) f, is)
        fits false f =
            let lost : role_at d p e ≡ None =
            at_found ∙ ap (option_and_then (if_fits e)) is ∙ ap (λ b. if b then Some role else None) f in
            none lost

-- where a path without an element takes a child, it is the empty one
pub only_root : (d : Submodel) (p : List PathStep) (e : Element) → None ≡ rank_at d p → IsSome (role_at d p e) → p ≡ []
only_root d [] e none takes = refl
only_root d (s ∷ p) e none takes =
    let lost : role_at d (s ∷ p) e ≡ None =
    ap (λ o. option_and_then (λ o. role_under o e) o) (no_element d (s ∷ p) none) in
    let no : false ≡ true = subst (λ (o : Option Role). IsSome o) lost takes in
    absurd (cc)

pub few_enough : (n : ℕ) → n ≤ 65536 → n ≤ 2 ^ 31
few_enough n le = omega arith
