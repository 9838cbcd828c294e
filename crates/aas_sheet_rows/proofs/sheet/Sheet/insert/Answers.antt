use Rattle.std.proofs.Common.{◌≡◌, ◌≤◌, ◌+◌, ℕ, true, false, List, [], length, get_or, Option, unwrap_or, refl, sym, ap}
use Rattle.std.proofs.Common.{ap₂, ◌∙◌, subst, arith, rules}
use Rattle.std.specs.List.{replace_range}
use Rattle.aas_model.specs.declared.documents.Submodel.{Submodel}
use Rattle.aas_model.specs.declared.element.Element.{Element}
use Rattle.aas_model.specs.declared.element.Role.{Role}
use Rattle.aas_model.specs.declared.element.Role.TheVariants.{Member}
use Rattle.aas_model.specs.declared.path.PathStep.{PathStep}
use Rattle.aas_path_trees.specs.Children.{with_role}
use Rattle.aas_path_trees.specs.Edits.{inserted, role_within}
use Rattle.aas_rows.specs.Rows.{Line, rows}
use Rattle.aas_sheet_rows.specs.Table.{children_in, lines_of, submodel_of, IsTable}
use Rattle.aas_sheet_rows.specs.declared.row.Row.{Row}
use Rattle.aas_sheet_index.specs.declared.side.Side.{Side}
use Rattle.aas_sheet_rows.proofs.Children.{as_many_below, few_children, one_more}
use Rattle.aas_sheet_rows.proofs.Edits.{Made, edited_table, made_first, only_root}
use Rattle.aas_sheet_rows.proofs.Reached.{Fits, Read, fits, last_low, made_last, read}
use Rattle.aas_sheet_rows.proofs.Standing.{children_counted}
use Rattle.aas_sheet_rows.proofs.sheet.Sheet.insert.Goals as goal
use Rattle.aas_sheet_rows.proofs.sheet.Sheet.insert.Goals.{in-Some, in-None, After-as_slice-above}
use Rattle.aas_sheet_rows.proofs.sheet.Sheet.insert.Goals.{After-as_slice-sides, In_ok-put_rows}

-- what the path leads to, as it is read
here : (c : After-as_slice-sides)
    → Read c.self.inside.head c.as_slice-rows.result.now
    c.as_slice-sides.result.now c.args.self.now c.args.path.now.steps c.in-Some.rank
here c =
    let t = c.self.inside in
    read t.head t.rows c.as_slice-rows.result.now t.sides c.as_slice-sides.result.now
    c.args.self.now c.args.path.now.steps c.in-Some.rank c.self.invariant.0
    c.self.view_is c.as_slice-rows.ensures c.as_slice-sides.ensures
    c.in-Some.ensures

-- the rows with those of the element
abbrev lines : After-as_slice-above → List Line
lines c =
    replace_range (lines_of c.self.inside.rows c.self.inside.sides) c.match-trace.end.0 c.match-trace.end.0
    (rows c.match-trace.element c.match-trace.end.1)

made : (c : After-as_slice-above)
    → Made c.args.self.now (inserted c.args.self.now c.args.path.now.steps c.args.element) (lines c)
made c =
    let t = c.self.inside in
    let d : Submodel = c.args.self.now in
    let p : List PathStep = c.args.path.now.steps in
    let e : Element = c.args.element in
    let all : List Line = lines_of t.rows t.sides in
    elim c.match-trace.branch [
      | in-Some w ↦
          let rank : ℕ = w.in-Some.rank in
          let rs : List Row = w.as_slice-rows.result.now in
          let ss : List Side = w.as_slice-sides.result.now in
          let a = read t.head t.rows rs t.sides ss d p rank c.self.invariant.0 c.self.view_is
          w.as_slice-rows.ensures w.as_slice-sides.ensures w.in-Some.ensures in
          let end : ℕ = w.rank_behind.result in
          let role : Role = w.unwrap_or-element.result in
          let level : ℕ = (get_or ss rank w.index-sides-rank.result).level + 1 in
          rw (w.element-is, w.end-is)
          (subst (λ (ls : List Line).
          Made d (inserted d p e) (replace_range ls end end (rows (with_role e role) level)))
          (ap₂ lines_of w.as_slice-rows.ensures w.as_slice-sides.ensures)
          (made_last t.head rs ss d p rank a w.index-rows-rank.result w.index-sides-rank.result w.index-rows-rank.is
          w.index-sides-rank.is end w.rank_behind.ensures.value w.rank_behind.ensures.above e role c.requires.takes
          (w.unwrap_or-element.ensures ∙ ap (λ (o : Option Role). unwrap_or o Member)
          (w.role_within.ensures ∙ ap (λ (x : Row). role_within x.payload) w.get.ensures))))
      | in-None w ↦
          rw (w.element-is, w.end-is)
          (subst (λ (p : List PathStep).
          Made d (inserted d p e) (replace_range all w.len.result w.len.result (rows (with_role e Member) 1)))
          (sym (only_root d p e w.in-None.ensures c.requires.takes))
          (subst (λ n. Made d (inserted d [] e) (replace_range all n n (rows (with_role e Member) 1)))
          (sym w.len.ensures) (made_first t.head t.rows t.sides d c.self.invariant.0 c.self.view_is e Member refl)))
    ]

fit : (c : After-as_slice-above) → Fits (lines c) c.match-trace.end.1 c.match-trace.element
fit c =
    let d : Submodel = c.args.self.now in
    fits d (inserted d c.args.path.now.steps c.args.element) (lines_of c.self.inside.rows c.self.inside.sides)
    c.match-trace.end.0 c.match-trace.end.0 c.match-trace.end.1 c.match-trace.element (made c) c.requires.few

-- the table that has the element
put : (c : In_ok-put_rows)
    → Made c.args.self.now (inserted c.args.self.now c.args.path.now.steps c.args.element)
    (replace_range (lines_of c.self.inside.rows c.self.inside.sides) c.match-trace.end.0 c.match-trace.end.0
    (rows c.match-trace.element c.match-trace.end.1))
    → IsTable c.put_rows.new.rows c.put_rows.new.sides
    × (submodel_of c.self.inside.head c.put_rows.new.rows c.put_rows.new.sides
    ≡ inserted c.args.self.now c.args.path.now.steps c.args.element)
put c made =
    let t = c.self.inside in
    let d : Submodel = c.args.self.now in
    let is = c.in_ok-put_rows.ensures in
    edited_table t.head t.rows t.sides d c.self.invariant.0 c.self.view_is
    (inserted d c.args.path.now.steps c.args.element)
    (replace_range (lines_of t.rows t.sides) c.match-trace.end.0 c.match-trace.end.0
    (rows c.match-trace.element c.match-trace.end.1))
    c.put_rows.new.rows c.put_rows.new.sides made is.long is.lines is.sized

-- how many children there were, and how many there are
counted : (c : In_ok-put_rows)
    → IsTable c.put_rows.new.rows c.put_rows.new.sides
    × (submodel_of c.self.inside.head c.put_rows.new.rows c.put_rows.new.sides
    ≡ inserted c.args.self.now c.args.path.now.steps c.args.element)
    → (c.self.inside.children ≡ length c.args.self.now.kids)
    × (children_in c.put_rows.new.sides ≡ length (inserted c.args.self.now c.args.path.now.steps c.args.element).kids)
counted c table =
    let t = c.self.inside in
    let d : Submodel = c.args.self.now in (
      c.self.invariant.1 ∙ children_counted t.head t.rows t.sides d c.self.invariant.0 c.self.view_is,
      children_counted t.head c.put_rows.new.rows c.put_rows.new.sides
          (inserted d c.args.path.now.steps c.args.element) table.0 table.1,
    )

pub offset_bounds-rows-rank : goal.offset_bounds-rows-rank
offset_bounds-rows-rank c = let within = (here c).within in search rules

pub bounds-rows-rank : goal.bounds-rows-rank
bounds-rows-rank c = (here c).within

pub rank_behind-requires-clause-within : goal.rank_behind-requires-clause-within
rank_behind-requires-clause-within c = (here (goal.at.rank_behind-requires-clause-within c).After-as_slice-sides).inside

pub overflow_add-end : goal.overflow_add-end
overflow_add-end c =
    let rs : List Row = c.as_slice-rows.result.now in
    let ss : List Side = c.as_slice-sides.result.now in
    let rank : ℕ = c.in-Some.rank in
    let fits : (get_or ss rank c.index-sides-rank.result).level + 1 ≤ 65536 =
    last_low c.self.inside.head rs ss c.args.self.now c.args.path.now.steps rank
    (here (goal.at.overflow_add-end c).After-as_slice-sides) c.index-rows-rank.result
    c.index-sides-rank.result c.index-rows-rank.is c.index-sides-rank.is
    c.rank_behind.result c.rank_behind.ensures.value c.rank_behind.ensures.above
    c.args.element c.requires.takes c.requires.few in
    search rules

pub put_rows-requires-clause-low : goal.put_rows-requires-clause-low
put_rows-requires-clause-low c = (fit (goal.at.put_rows-requires-clause-low c).After-as_slice-above).low

pub put_rows-requires-clause-few : goal.put_rows-requires-clause-few
put_rows-requires-clause-few c = (fit (goal.at.put_rows-requires-clause-few c).After-as_slice-above).few

pub overflow_add-self : goal.overflow_add-self
overflow_add-self c =
    let table =
    put (goal.at.overflow_add-self c).In_ok-put_rows (made (goal.at.overflow_add-self c).After-as_slice-above) in
    let before = (counted (goal.at.overflow_add-self c).In_ok-put_rows table).0 in
    let more =
    one_more c.args.self.now c.args.path.now.steps c.args.element (c.is_empty.ensures.0 c.if-is_empty.true) in
    let few = few_children c.self.inside.head c.put_rows.new.rows c.put_rows.new.sides
    (inserted c.args.self.now c.args.path.now.steps c.args.element) table.0 table.1 c.requires.few in
    let small : c.self.inside.children + 1 ≤ 65536 = omega (arith, more, before, few) in
    search rules

pub invariant_of-self-then-is_empty : goal.invariant_of-self-then-is_empty
invariant_of-self-then-is_empty c =
    let table = put (goal.at.invariant_of-self-then-is_empty c).In_ok-put_rows
    (made (goal.at.invariant_of-self-then-is_empty c).After-as_slice-above) in
    let counts = counted (goal.at.invariant_of-self-then-is_empty c).In_ok-put_rows table in
    let before = counts.0 in
    let now = counts.1 in
    let more =
    one_more c.args.self.now c.args.path.now.steps c.args.element (c.is_empty.ensures.0 c.if-is_empty.true) in
    (table.0, omega (arith, more, before, now))

pub invariant_of-self-else-is_empty : goal.invariant_of-self-else-is_empty
invariant_of-self-else-is_empty c =
    let table = put (goal.at.invariant_of-self-else-is_empty c).In_ok-put_rows
    (made (goal.at.invariant_of-self-else-is_empty c).After-as_slice-above) in
    let counts = counted (goal.at.invariant_of-self-else-is_empty c).In_ok-put_rows table in
    let as_many = as_many_below c.args.self.now c.args.path.now.steps c.args.element (λ root.
    let yes : c.is_empty.result ≡ true = c.is_empty.ensures.1 root in
    let no : c.is_empty.result ≡ false = c.if-is_empty.false in absurd (cc)) in
    (table.0, counts.0 ∙ sym as_many ∙ sym counts.1)

pub returns-then-is_empty-clause-ok : goal.returns-then-is_empty-clause-ok
returns-then-is_empty-clause-ok c = (put (goal.at.returns-then-is_empty-clause-ok c).In_ok-put_rows
    (made (goal.at.returns-then-is_empty-clause-ok c).After-as_slice-above)).1

pub returns-else-is_empty-clause-ok : goal.returns-else-is_empty-clause-ok
returns-else-is_empty-clause-ok c = (put (goal.at.returns-else-is_empty-clause-ok c).In_ok-put_rows
    (made (goal.at.returns-else-is_empty-clause-ok c).After-as_slice-above)).1
