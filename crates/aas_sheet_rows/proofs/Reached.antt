-- The element to which a path leads, in columns that an edit reads in place of a table's.
use Rattle.std.proofs.Common.{◌≡◌, ℕ, ◌+◌, ◌-◌, ◌<◌, ◌≤◌, ◌^◌, List, length, Option, Some, IsSome, get_or, slice_get}
use Rattle.std.proofs.Common.{unwrap_or, refl, sym, ap, ap₂, ◌∙◌, subst, arith}
use Rattle.std.specs.List.{replace_range}
use Rattle.aas_model.specs.declared.documents.Submodel.{Submodel}
use Rattle.aas_model.specs.declared.element.Element.{Element, out-Element}
use Rattle.aas_model.specs.declared.element.Role.{Role}
use Rattle.aas_model.specs.declared.element.Role.TheVariants.{Member}
use Rattle.aas_model.specs.declared.path.PathStep.{PathStep}
use Rattle.aas_path_trees.specs.Children.{role_of, with_role}
use Rattle.aas_path_trees.specs.Edits.{inserted, replaced, role_at, role_within}
use Rattle.aas_path_trees.specs.Patched.{kinds, element_count}
use Rattle.aas_rows.specs.Rows.{Line, line_at, rows}
use Rattle.aas_store.specs.Spots.{rank_at}
use Rattle.aas_sheet_rows.specs.Table.{line_of, lines_of, submodel_of, IsTable}
use Rattle.aas_sheet_index.specs.Sides.{sizes_of}
use Rattle.aas_sheet_rows.specs.declared.row.Row.{Row}
use Rattle.aas_sheet_index.specs.declared.side.Side.{Side}
use Rattle.aas_sheet_rows.proofs.Edits.{Made, Reached, edit_bounds, few_enough, made_inserted, made_replaced, reached}
use Rattle.aas_sheet_rows.proofs.Edits.{reached_end, reached_row, reached_within, role_taken}
use Rattle.aas_sheet_rows.proofs.Standing.{viewed}

-- its rank is one of the rows
pub record Read (head : Submodel) (rs : List Row) (ss : List Side) (d : Submodel) (p : List PathStep) (rank : ℕ) :
    Type 0 where
  pub table : IsTable rs ss
  pub view : submodel_of head rs ss ≡ d
  pub reached : Reached d p rank
  pub inside : rank < length ss
  pub within : rank < length rs

pub read : (head : Submodel) (rs rs' : List Row) (ss ss' : List Side) (d : Submodel) (p : List PathStep) (rank : ℕ)
    → IsTable rs ss → submodel_of head rs ss ≡ d → rs' ≡ rs → ss' ≡ ss → Some rank ≡ rank_at d p
    → Read head rs' ss' d p rank
read head rs rs' ss ss' d p rank t view rows_are sides_are is =
    let v = viewed head rs rs' ss ss' d t view rows_are sides_are in
    let r = reached d p rank is in
    let inside : rank < length ss' = reached_within head rs' ss' d v.0 v.1 p rank r in
    record { table = v.0; view = v.1; reached = r; inside = inside; within = omega (arith, inside, v.0.long) }

module _ (head : Submodel) (rs : List Row) (ss : List Side) (d : Submodel)
    (p : List PathStep) (rank : ℕ) (a : Read head rs ss d p rank) (row : Row) (side : Side)
    (row_is : row ≡ get_or rs rank row) (side_is : side ≡ get_or ss rank side) where
  own_line : line_of (get_or rs rank row) (get_or ss rank side) ≡ line_at a.reached.st.level a.reached.element
  own_line =
      reached_row head rs ss d a.table a.view p rank a.reached (get_or rs rank row)
      (get_or ss rank side) (ap (get_or rs rank) row_is) (ap (get_or ss rank) side_is)

  level_is : (get_or ss rank side).level ≡ a.reached.st.level
  level_is = ap (λ (l : Line). l.level) own_line

  pub level_high : 0 < (get_or ss rank side).level
  level_high = let deep = a.reached.st.deep in let same = level_is in omega (arith, same, deep)

  module _ (end : ℕ) (size : slice_get (sizes_of ss) rank ≡ Some (end - rank)) (above : rank < end) (e : Element) where
    end_is : end ≡ rank + length (rows a.reached.element a.reached.st.level)
    end_is = reached_end head rs ss d a.table a.view p rank end a.reached size above

    -- another element in its place
    pub made_instead : (role : Role) → role ≡ row.role
        → Made d (replaced d p e)
        (replace_range (lines_of rs ss) rank end (rows (with_role e role) (get_or ss rank side).level))
    made_instead role is =
        let same : role ≡ role_of a.reached.element =
        is ∙ ap (λ (x : Row). x.role) row_is ∙ ap (λ (l : Line). l.role) own_line in
        subst (λ (ls : List Line). Made d (replaced d p e) ls)
        (ap₂ (λ q k. replace_range (lines_of rs ss) rank end (rows (with_role e q) k)) (sym same) (sym level_is))
        (made_replaced head rs ss d a.table a.view p rank end e a.reached end_is)

    -- one more child behind its others
    pub made_last : (role : Role) → IsSome (role_at d p e) → role ≡ unwrap_or (role_within row.payload) Member
        → Made d (inserted d p e)
        (replace_range (lines_of rs ss) end end (rows (with_role e role) ((get_or ss rank side).level + 1)))
    made_last role takes is =
        let payload_is : row.payload ≡ (out-Element a.reached.element).payload =
        ap (λ (x : Row). x.payload) row_is ∙ ap (λ (l : Line). l.payload) own_line in
        let taken = role_taken d p rank e a.reached takes in
        let same : role ≡ taken.0 =
        is ∙ ap (λ (o : Option Role). unwrap_or o Member) (ap role_within payload_is ∙ taken.2) in
        subst (λ (ls : List Line). Made d (inserted d p e) ls)
        (ap₂ (λ q k. replace_range (lines_of rs ss) end end (rows (with_role e q) (k + 1))) (sym same) (sym level_is))
        (made_inserted head rs ss d a.table a.view p rank end e taken.0 a.reached end_is taken.1)

    pub last_low : IsSome (role_at d p e) → element_count (inserted d p e) ≤ 65536
        → (get_or ss rank side).level + 1 ≤ 65536
    last_low takes few =
        let role : Role = unwrap_or (role_within row.payload) Member in
        (edit_bounds d (inserted d p e) (lines_of rs ss) end end
        ((get_or ss rank side).level + 1) (with_role e role) (made_last role takes refl) few).0

-- what is laid out in a table's rows fits
pub record Fits (ls : List Line) (k : ℕ) (w : Element) : Type 0 where
  pub low : k + length (kinds w) ≤ 4294967295
  pub few : length ls ≤ 2 ^ 31

pub fits : (d new : Submodel) (ls : List Line) (first end k : ℕ) (w : Element)
    → Made d new (replace_range ls first end (rows w k)) → element_count new ≤ 65536
    → Fits (replace_range ls first end (rows w k)) k w
fits d new ls first end k w m few =
    let bounds = edit_bounds d new ls first end k w m few in
    let level : k ≤ 65536 = bounds.0 in
    let below : length (kinds w) ≤ 65536 = bounds.1 in
    let all : length (replace_range ls first end (rows w k)) ≤ 65536 = bounds.2 in
    record { low = omega arith; few = few_enough _ all }
