use Rattle.std.proofs.Common.{◌≡◌, ℕ, List, get_or, ap, ap₂, subst, rules, OnOk}
use Rattle.std.specs.List.{replace_range}
use Rattle.aas_model.specs.declared.documents.Submodel.{Submodel}
use Rattle.aas_model.specs.declared.element.Element.{Element}
use Rattle.aas_model.specs.declared.path.PathStep.{PathStep}
use Rattle.aas_path_trees.specs.Children.{with_role}
use Rattle.aas_path_trees.specs.Edits.{replaced}
use Rattle.aas_rows.specs.Rows.{Line, rows}
use Rattle.aas_sheet_rows.specs.Table.{lines_of, submodel_of, IsTable}
use Rattle.aas_sheet_rows.specs.declared.row.Row.{Row}
use Rattle.aas_sheet_index.specs.declared.side.Side.{Side}
use Rattle.aas_sheet_rows.proofs.Children.{put_children, replaced_children}
use Rattle.aas_sheet_rows.proofs.Edits.{Made, nothing_replaced, put_table}
use Rattle.aas_sheet_rows.proofs.Reached.{Fits, Read, fits, level_high, made_instead, read}
use Rattle.aas_sheet_rows.proofs.sheet.Sheet.replace.Goals as goal
use Rattle.aas_sheet_rows.proofs.sheet.Sheet.replace.Goals.{After-as_slice-above, After-as_slice-sides, After-put_rows}

-- what the path leads to, as it is read
here : (c : After-as_slice-sides)
    → Read c.self.inside.head c.as_slice-rows.result.now
    c.as_slice-sides.result.now c.args.self.now c.args.path.now.steps c.in-Some.rank
here c =
    let t = c.self.inside in
    read t.head t.rows c.as_slice-rows.result.now t.sides c.as_slice-sides.result.now
    c.args.self.now c.args.path.now.steps c.in-Some.rank c.self.invariant.0
    c.self.view_is c.as_slice-rows.ensures c.as_slice-sides.ensures
    c.in-Some.ensures

-- the element as it is put there, its level, and the rows then
abbrev element : After-as_slice-above → Element
element c = with_role c.args.element c.get.result.now.role

abbrev level : After-as_slice-above → ℕ
level c = (get_or c.as_slice-sides.result.now c.in-Some.rank c.index-sides-rank.result).level

abbrev lines : After-as_slice-above → List Line
lines c =
    replace_range (lines_of c.self.inside.rows c.self.inside.sides) c.in-Some.rank c.rank_behind-end.result
    (rows (element c) (level c))

made : (c : After-as_slice-above)
    → Read c.self.inside.head c.as_slice-rows.result.now
    c.as_slice-sides.result.now c.args.self.now c.args.path.now.steps c.in-Some.rank
    → Made c.args.self.now (replaced c.args.self.now c.args.path.now.steps c.args.element) (lines c)
made c a =
    let rs : List Row = c.as_slice-rows.result.now in
    let ss : List Side = c.as_slice-sides.result.now in
    let d : Submodel = c.args.self.now in
    let p : List PathStep = c.args.path.now.steps in
    let rank : ℕ = c.in-Some.rank in
    let end : ℕ = c.rank_behind-end.result in
    subst (λ (ls : List Line).
    Made d (replaced d p c.args.element) (replace_range ls rank end (rows (element c) (level c))))
    (ap₂ lines_of c.as_slice-rows.ensures c.as_slice-sides.ensures)
    (made_instead c.self.inside.head rs ss d p rank a c.index-rows-rank.result
    c.index-sides-rank.result c.index-rows-rank.is c.index-sides-rank.is
    end c.rank_behind-end.ensures.value c.rank_behind-end.ensures.above c.args.element
    c.get.result.now.role (ap (λ (x : Row). x.role) c.get.ensures))

fit : (c : After-as_slice-above)
    → Read c.self.inside.head c.as_slice-rows.result.now
    c.as_slice-sides.result.now c.args.self.now c.args.path.now.steps c.in-Some.rank
    → Fits (lines c) (level c) (element c)
fit c a =
    let d : Submodel = c.args.self.now in
    fits d (replaced d c.args.path.now.steps c.args.element) (lines_of c.self.inside.rows c.self.inside.sides)
    c.in-Some.rank c.rank_behind-end.result (level c) (element c) (made c a) c.requires

-- the table then, and what it stands for where the rows were put
put : (c : After-put_rows)
    → Made c.args.self.now (replaced c.args.self.now c.args.path.now.steps c.args.element)
    (replace_range (lines_of c.self.inside.rows c.self.inside.sides) c.in-Some.rank c.rank_behind-end.result
    (rows (with_role c.args.element c.get.result.now.role)
    (get_or c.as_slice-sides.result.now c.in-Some.rank c.index-sides-rank.result).level))
    → IsTable c.put_rows.new.rows c.put_rows.new.sides
    × OnOk c.put_rows.result (submodel_of c.self.inside.head c.put_rows.new.rows c.put_rows.new.sides
    ≡ replaced c.args.self.now c.args.path.now.steps c.args.element)
put c made =
    let t = c.self.inside in
    let d : Submodel = c.args.self.now in
    let is = c.put_rows.ensures in
    put_table t.head t.rows t.sides d c.self.invariant.0 c.self.view_is c.put_rows.result
    (replaced d c.args.path.now.steps c.args.element)
    (replace_range (lines_of t.rows t.sides) c.in-Some.rank c.rank_behind-end.result
    (rows (with_role c.args.element c.get.result.now.role)
    (get_or c.as_slice-sides.result.now c.in-Some.rank c.index-sides-rank.result).level))
    c.put_rows.new.rows c.put_rows.new.sides made is.lines is.long is.sized is.same_rows is.same_sides

pub returns-in_default-clause-ok : goal.returns-in_default-clause-ok
returns-in_default-clause-ok c =
    nothing_replaced c.args.self.now c.args.path.now.steps c.args.element c.in_default.ensures

pub offset_bounds-rows-rank : goal.offset_bounds-rows-rank
offset_bounds-rows-rank c = let within = (here c).within in search rules

pub bounds-rows-rank : goal.bounds-rows-rank
bounds-rows-rank c = (here c).within

pub offset_bounds-sides-rank : goal.offset_bounds-sides-rank
offset_bounds-sides-rank c =
    let inside = (here (goal.at.offset_bounds-sides-rank c).After-as_slice-sides).inside in search rules

pub bounds-sides-rank : goal.bounds-sides-rank
bounds-sides-rank c = (here (goal.at.bounds-sides-rank c).After-as_slice-sides).inside

pub bounds-sides-rank-in-Some : goal.bounds-sides-rank-in-Some
bounds-sides-rank-in-Some c = (here (goal.at.bounds-sides-rank-in-Some c).After-as_slice-sides).inside

pub rank_behind-end-requires-clause-within : goal.rank_behind-end-requires-clause-within
rank_behind-end-requires-clause-within c =
    (here (goal.at.rank_behind-end-requires-clause-within c).After-as_slice-sides).inside

pub put_rows-requires-clause-high : goal.put_rows-requires-clause-high
put_rows-requires-clause-high c =
    let a = here (goal.at.put_rows-requires-clause-high c).After-as_slice-sides in
    level_high c.self.inside.head c.as_slice-rows.result.now c.as_slice-sides.result.now
    c.args.self.now c.args.path.now.steps c.in-Some.rank a c.index-rows-rank.result
    c.index-sides-rank.result c.index-rows-rank.is c.index-sides-rank.is

pub put_rows-requires-clause-low : goal.put_rows-requires-clause-low
put_rows-requires-clause-low c = (fit (goal.at.put_rows-requires-clause-low c).After-as_slice-above
    (here (goal.at.put_rows-requires-clause-low c).After-as_slice-sides)).low

pub put_rows-requires-clause-few : goal.put_rows-requires-clause-few
put_rows-requires-clause-few c = (fit (goal.at.put_rows-requires-clause-few c).After-as_slice-above
    (here (goal.at.put_rows-requires-clause-few c).After-as_slice-sides)).few

pub invariant_of-self : goal.invariant_of-self
invariant_of-self c =
    let t = c.self.inside in
    let d : Submodel = c.args.self.now in
    let new : Submodel = replaced d c.args.path.now.steps c.args.element in
    let table = put c (made (goal.at.invariant_of-self c).After-as_slice-above
    (here (goal.at.invariant_of-self c).After-as_slice-sides)) in (
      table.0,
      put_children t.head t.rows t.sides d c.self.invariant.0 c.self.view_is
          c.put_rows.result new c.put_rows.new.rows c.put_rows.new.sides
          t.children c.self.invariant.1 table.0 table.1 c.put_rows.ensures.same_sides
          (replaced_children d c.args.path.now.steps c.args.element),
    )

pub returns-clause-ok : goal.returns-clause-ok
returns-clause-ok c = (put c (made (goal.at.returns-clause-ok c).After-as_slice-above
    (here (goal.at.returns-clause-ok c).After-as_slice-sides))).1
