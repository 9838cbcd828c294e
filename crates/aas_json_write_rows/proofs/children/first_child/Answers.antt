use Rattle.std.proofs.Common.{◌<◌, length, sym, arith}
use Rattle.std.proofs.lemmas.Option.{slice_get_within}
use Rattle.aas_rows.specs.Views.{line_of}
use Rattle.aas_json_write_rows.proofs.Looking.{cut_off, no_stop, look_start, look_past, look_end, look_found}
use Rattle.aas_json_write_rows.proofs.Looking.{look_unfit, look_deep}
use Rattle.aas_json_write_rows.proofs.children.first_child.Goals as goal
use Rattle.aas_json_write_rows.proofs.children.first_child.Goals.{else-deep-level-2-via-then-deep-level-2+else-role_fits}
use Rattle.aas_json_write_rows.proofs.children.first_child.Goals.{else-deep-level-2-via-else-deep-level-2}

pub returns-then-show-level : goal.returns-then-show-level
returns-then-show-level g c =
    cut_off c.args.show (line_of c.args.row.now) c.args.stop (g.R.Rows.lines c.args.rows.now)
    c.args.from c.args.after c.requires (omega (arith, c.from-level.ensures, c.if-show-level.true))

pub returns-then-not-has_stop : goal.returns-then-not-has_stop
returns-then-not-has_stop g c =
    no_stop c.args.show (line_of c.args.row.now) c.args.stop
    (g.R.Rows.lines c.args.rows.now) c.args.from c.args.after c.requires (cc)

pub loop-child-init : goal.loop-child-init
loop-child-init g c =
    look_start c.args.show (g.R.Rows.lines c.args.rows.now) (line_of c.args.row.now) c.args.stop c.args.from

pub returns-in_default : goal.returns-in_default
returns-in_default g c =
    look_past c.args.show (g.R.Rows.lines c.args.rows.now) (line_of c.args.row.now) c.args.stop
    c.args.from c.loop-child.at c.loop-child.invariant (sym c.in_default.ensures.row)

pub returns-then-deep-level : goal.returns-then-deep-level
returns-then-deep-level g c =
    look_end c.args.show (g.R.Rows.lines c.args.rows.now) (line_of c.args.row.now)
    (line_of c.in-Some.child) c.args.stop c.args.from c.loop-child.at c.loop-child.invariant (sym c.in-Some.ensures.row)
    (omega (arith, c.if-deep-level.true, c.from-deep.ensures, c.from-level.ensures))

pub returns-then-role_fits : goal.returns-then-role_fits
returns-then-role_fits g c =
    look_found c.args.show (g.R.Rows.lines c.args.rows.now) (line_of c.args.row.now)
    (line_of c.in-Some.child) c.args.stop c.args.from c.loop-child.at c.loop-child.invariant (sym c.in-Some.ensures.row)
    (omega (arith, c.if-deep-level-2.true, c.from-deep.ensures, c.from-level.ensures))
    (omega (arith, c.if-show-level.false, c.from-level.ensures)) (cc) (cc)

pub overflow_add-at : goal.overflow_add-at
overflow_add-at g c =
    let h : c.loop-child.at < length (g.R.Rows.lines c.args.rows.now) =
    slice_get_within (g.R.Rows.lines c.args.rows.now) c.loop-child.at
    (line_of c.in-Some.child) (sym c.in-Some.ensures.row) in
    omega (arith, c.row.ensures.short)

pub loop-child-smaller : goal.loop-child-smaller
loop-child-smaller g c =
    let h : c.loop-child.at < length (g.R.Rows.lines c.args.rows.now) =
    slice_get_within (g.R.Rows.lines c.args.rows.now) c.loop-child.at
    (line_of c.in-Some.child) (sym c.in-Some.ensures.row) in
    omega arith

pub loop-child-preserved : goal.loop-child-preserved
loop-child-preserved g c = elim c.else-deep-level-2.branch [
  | else-deep-level-2-via-then-deep-level-2+else-role_fits w ↦
      look_unfit c.args.show (g.R.Rows.lines c.args.rows.now) (line_of c.args.row.now) (line_of c.in-Some.child)
      c.args.stop c.args.from c.loop-child.at c.loop-child.invariant (sym c.in-Some.ensures.row)
      (omega (arith, w.if-deep-level-2.true, c.from-deep.ensures, c.from-level.ensures)) (cc)
  | else-deep-level-2-via-else-deep-level-2 w ↦
      look_deep c.args.show (g.R.Rows.lines c.args.rows.now) (line_of c.args.row.now) (line_of c.in-Some.child)
      c.args.stop c.args.from c.loop-child.at c.loop-child.invariant (sym c.in-Some.ensures.row)
      (omega (arith, w.if-deep-level-2.false, c.if-deep-level.false, c.from-deep.ensures, c.from-level.ensures))
]
