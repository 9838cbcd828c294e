use Rattle.std.proofs.Common.{◌≡◌, ◌<◌, ◌+◌, ◌-◌, ℕ, List, length, slice_get, Some, sym, ap, ◌∙◌, subst, arith}
use Rattle.std.specs.List.{remove_range}
use Rattle.aas_path_trees.specs.Edits.{removed}
use Rattle.aas_sheet_rows.specs.Table.{lines_of, submodel_of, IsTable}
use Rattle.aas_sheet_index.specs.Sides.{sizes_of}
use Rattle.aas_sheet_index.specs.declared.side.Side.{Side}
use Rattle.aas_sheet_rows.proofs.Children.{as_many_left, one_less}
use Rattle.aas_sheet_rows.proofs.Edits.{nothing_removed, reached, reached_within, reached_end}
use Rattle.aas_sheet_rows.proofs.Edits.{made_removed, edited_table}
use Rattle.aas_sheet_rows.proofs.Standing.{children_counted}
use Rattle.aas_sheet_rows.proofs.sheet.Sheet.remove.Goals as goal
use Rattle.aas_sheet_rows.proofs.sheet.Sheet.remove.Goals.{After-remove_rows, Then-len-eq1}

-- the table that is left
left : (c : After-remove_rows)
    → IsTable c.remove_rows.new.rows c.remove_rows.new.sides
    × (submodel_of c.self.inside.head c.remove_rows.new.rows c.remove_rows.new.sides
    ≡ removed c.args.self.now c.args.path.now.steps)
left c =
    let t = c.self.inside in
    let d = c.args.self.now in
    let p = c.args.path.now.steps in
    let rank : ℕ = c.in-Some.rank in
    let end : ℕ = c.rank_behind-end.result in
    let r = reached d p rank c.in-Some.ensures in
    let size : slice_get (sizes_of t.sides) rank ≡ Some (end - rank) =
    sym (ap (λ (ss : List Side). slice_get (sizes_of ss) rank) c.as_slice-2.ensures)
    ∙ c.rank_behind-end.ensures.value in
    let back = reached_end t.head t.rows t.sides d c.self.invariant.0
    c.self.view_is p rank end r size c.rank_behind-end.ensures.above in
    edited_table t.head t.rows t.sides d c.self.invariant.0 c.self.view_is (removed d p)
    (remove_range (lines_of t.rows t.sides) rank end) c.remove_rows.new.rows c.remove_rows.new.sides
    (made_removed t.head t.rows t.sides d c.self.invariant.0 c.self.view_is p rank end r back)
    c.remove_rows.ensures.long c.remove_rows.ensures.lines c.remove_rows.ensures.sized

-- how many children there were
before : (c : After-remove_rows) → c.self.inside.children ≡ length c.args.self.now.kids
before c =
    let t = c.self.inside in
    c.self.invariant.1 ∙ children_counted t.head t.rows t.sides c.args.self.now c.self.invariant.0 c.self.view_is

-- of a path of one step, one child is less
less : (c : Then-len-eq1)
    → length (removed c.args.self.now c.args.path.now.steps).kids + 1 ≡ length c.args.self.now.kids
less c =
    one_less c.args.self.now c.args.path.now.steps c.in-Some.rank
    (reached c.args.self.now c.args.path.now.steps c.in-Some.rank c.in-Some.ensures)
    (sym c.len.ensures ∙ c.if-len-eq1.true)

pub returns-in_default : goal.returns-in_default
returns-in_default c = nothing_removed c.args.self.now c.args.path.now.steps c.in_default.ensures

pub rank_behind-end-requires-clause-within : goal.rank_behind-end-requires-clause-within
rank_behind-end-requires-clause-within c =
    let t = c.self.inside in
    let d = c.args.self.now in
    let p = c.args.path.now.steps in
    let rank : ℕ = c.in-Some.rank in
    subst (λ (ss : List Side). rank < length ss) (sym c.as_slice-2.ensures)
    (reached_within t.head t.rows t.sides d c.self.invariant.0 c.self.view_is p rank
    (reached d p rank c.in-Some.ensures))

pub overflow_sub-self : goal.overflow_sub-self
overflow_sub-self c =
    let fewer = less c in
    let old = before (goal.at.overflow_sub-self c).After-remove_rows in
    omega (arith, fewer, old)

pub invariant_of-self : goal.invariant_of-self
invariant_of-self c =
    let table = left (goal.at.invariant_of-self c).After-remove_rows in
    let fewer = less (goal.at.invariant_of-self c).Then-len-eq1 in
    let old = before (goal.at.invariant_of-self c).After-remove_rows in
    let now = children_counted c.self.inside.head c.remove_rows.new.rows c.remove_rows.new.sides
    (removed c.args.self.now c.args.path.now.steps) table.0 table.1 in
    (table.0, omega (arith, fewer, old, now))

pub invariant_of-self-else-len-eq1 : goal.invariant_of-self-else-len-eq1
invariant_of-self-else-len-eq1 c =
    let d = c.args.self.now in
    let p = c.args.path.now.steps in
    let rank : ℕ = c.in-Some.rank in
    let table = left (goal.at.invariant_of-self-else-len-eq1 c).After-remove_rows in
    let same = as_many_left d p rank (reached d p rank c.in-Some.ensures) (λ one.
    c.if-len-eq1.false (c.len.ensures ∙ one)) in (
      table.0,
      before (goal.at.invariant_of-self-else-len-eq1 c).After-remove_rows ∙ sym same
          ∙ sym (children_counted c.self.inside.head c.remove_rows.new.rows c.remove_rows.new.sides
          (removed d p) table.0 table.1),
    )

pub returns-then-len-eq1 : goal.returns-then-len-eq1
returns-then-len-eq1 c = (left (goal.at.returns-then-len-eq1 c).After-remove_rows).1

pub returns-else-len-eq1 : goal.returns-else-len-eq1
returns-else-len-eq1 c = (left (goal.at.returns-else-len-eq1 c).After-remove_rows).1
