use Rattle.std.proofs.Common.{◌<◌, length, sym, arith}
use Rattle.std.proofs.lemmas.Option.{slice_get_within}
use Rattle.aas_rows.specs.Views.{line_of}
use Rattle.aas_json_write_rows.proofs.Ahead.{ahead_past, ahead_end, ahead_found, ahead_deep}
use Rattle.aas_json_write_rows.proofs.elements.next_element.Goals as goal

pub returns-in_default-clause-next : goal.returns-in_default-clause-next
returns-in_default-clause-next g c =
    ahead_past (g.R.Rows.lines c.args.rows.now) c.args.from c.loop-row.at c.loop-row.invariant
    (sym c.in_default.ensures.row)

pub returns-then-row-eq0-clause-next : goal.returns-then-row-eq0-clause-next
returns-then-row-eq0-clause-next g c =
    ahead_end (g.R.Rows.lines c.args.rows.now) c.args.from c.loop-row.at
    (line_of c.in-Some.row) c.loop-row.invariant (sym c.in-Some.ensures.row) (omega (arith, c.if-row-eq0.true))

pub returns-then-row-eq1-clause-next : goal.returns-then-row-eq1-clause-next
returns-then-row-eq1-clause-next g c =
    ahead_found (g.R.Rows.lines c.args.rows.now) c.args.from c.loop-row.at
    (line_of c.in-Some.row) c.loop-row.invariant (sym c.in-Some.ensures.row) (omega (arith, c.if-row-eq1.true))

pub returns-then-row-eq1-clause-within : goal.returns-then-row-eq1-clause-within
returns-then-row-eq1-clause-within g c =
    let h : c.loop-row.at < length (g.R.Rows.lines c.args.rows.now) =
    slice_get_within (g.R.Rows.lines c.args.rows.now) c.loop-row.at
    (line_of c.in-Some.row) (sym c.in-Some.ensures.row) in
    omega (arith, c.row.ensures.short)

pub overflow_add-at : goal.overflow_add-at
overflow_add-at g c =
    let h : c.loop-row.at < length (g.R.Rows.lines c.args.rows.now) =
    slice_get_within (g.R.Rows.lines c.args.rows.now) c.loop-row.at
    (line_of c.in-Some.row) (sym c.in-Some.ensures.row) in
    omega (arith, c.row.ensures.short)

pub loop-row-smaller : goal.loop-row-smaller
loop-row-smaller g c =
    let h : c.loop-row.at < length (g.R.Rows.lines c.args.rows.now) =
    slice_get_within (g.R.Rows.lines c.args.rows.now) c.loop-row.at
    (line_of c.in-Some.row) (sym c.in-Some.ensures.row) in
    omega arith

pub loop-row-preserved : goal.loop-row-preserved
loop-row-preserved g c =
    ahead_deep (g.R.Rows.lines c.args.rows.now) c.args.from c.loop-row.at (line_of c.in-Some.row) c.loop-row.invariant
    (sym c.in-Some.ensures.row) (omega (arith, c.if-row-eq0.false, c.if-row-eq1.false))
