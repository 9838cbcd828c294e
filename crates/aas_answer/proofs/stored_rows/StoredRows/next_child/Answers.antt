use Rattle.std.proofs.Common.{◌<◌, length, sym, ◌∙◌, arith}
use Rattle.std.proofs.lemmas.Option.{slice_get_within}
use Rattle.aas_rows.specs.Views.{line_of}
use Rattle.aas_answer.proofs.Children.{child_further, child_here, no_child_past}
use Rattle.aas_answer.proofs.stored_rows.StoredRows.next_child.Goals as goal

pub returns-then-row-eq1-clause-first : goal.returns-then-row-eq1-clause-first
returns-then-row-eq1-clause-first g c =
    child_here c.args.self.now c.loop-row.at (line_of c.in-Some.row)
    (sym c.in-Some.ensures.row) (omega (arith, c.if-row-eq1.true))
    ∙ sym c.loop-row.invariant

pub returns-then-row-eq1-clause-within : goal.returns-then-row-eq1-clause-within
returns-then-row-eq1-clause-within g c =
    let inside : c.loop-row.at < length c.args.self.now =
    slice_get_within c.args.self.now c.loop-row.at (line_of c.in-Some.row) (sym c.in-Some.ensures.row) in
    omega (arith, c.row.ensures.short)

pub overflow_add-at : goal.overflow_add-at
overflow_add-at g c =
    let inside : c.loop-row.at < length c.args.self.now =
    slice_get_within c.args.self.now c.loop-row.at (line_of c.in-Some.row) (sym c.in-Some.ensures.row) in
    omega (arith, c.row.ensures.short)

pub loop-row-smaller : goal.loop-row-smaller
loop-row-smaller g c =
    let inside : c.loop-row.at < length c.args.self.now =
    slice_get_within c.args.self.now c.loop-row.at (line_of c.in-Some.row) (sym c.in-Some.ensures.row) in
    omega arith

pub loop-row-preserved : goal.loop-row-preserved
loop-row-preserved g c =
    c.loop-row.invariant
    ∙ child_further c.args.self.now c.loop-row.at (line_of c.in-Some.row) (sym c.in-Some.ensures.row) (λ one.
    absurd (c.if-row-eq1.false one))

pub returns-clause-first : goal.returns-clause-first
returns-clause-first g c =
    no_child_past c.args.self.now c.loop-row.at (sym c.in_default.ensures.row) ∙ sym c.loop-row.invariant
