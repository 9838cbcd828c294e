use Rattle.std.proofs.Common.{◌≡◌, ◌≤◌, ◌+◌, ◌-◌, suc, length, arith, rules}
use Rattle.std.proofs.lemmas.Option.{slice_get_within}
use Rattle.aas_rows.specs.Rows.{line_at}
use Rattle.aas_sheet_rows.proofs.Laid.{laying_begun, laying_on, fewer_left, level_low, top_left}
use Rattle.aas_sheet_rows.proofs.laying.lay_all.Goals as goal

pub loop-waiting-init : goal.loop-waiting-init
loop-waiting-init c = (
  laying_begun c.args.elements c.args.level c.args.rows.now c.args.sides.now c.new-waiting.result
      c.stack.new.waiting c.requires.long c.new-waiting.ensures c.in_ok-stack.ensures,
  λ keyed. keyed,
)

pub overflow_add-level : goal.overflow_add-level
overflow_add-level c =
    let l = c.loop-waiting in
    let within = slice_get_within l.waiting (c.len.result - 1) c.remove-tree.result c.remove-tree.ensures.item in
    let long : suc (c.len.result - 1) ≡ length l.waiting = omega (arith, c.len.ensures, within) in
    let whole = top_left c.args.rows.now c.args.sides.now c.args.elements
    c.args.level l.rows l.sides l.waiting c.remove-tree.new.self
    (c.len.result - 1) c.remove-tree.result l.invariant.0 long c.remove-tree.ensures.item c.remove-tree.ensures.rest in
    let low = level_low c.args.elements c.args.level l.invariant.0.done
    (line_at c.remove-tree.result.level c.remove-tree.result.element) _ c.requires.high whole in
    let fits : c.remove-tree.result.level + 1 ≤ 4294967295 = omega (arith, low, c.requires.low) in
    search rules

pub loop-waiting-smaller : goal.loop-waiting-smaller
loop-waiting-smaller c =
    let l = c.loop-waiting in
    let within = slice_get_within l.waiting (c.len.result - 1) c.remove-tree.result c.remove-tree.ensures.item in
    fewer_left l.waiting c.remove-tree.new.self c.stack-in-loop-waiting.new.waiting
    (c.len.result - 1) c.remove-tree.result c.in_ok-kids.kids
    (omega (arith, c.len.ensures, within)) c.remove-tree.ensures.item c.remove-tree.ensures.rest
    c.in_ok-kids.ensures.kids c.in_ok-stack-2.ensures

pub loop-waiting-preserved : goal.loop-waiting-preserved
loop-waiting-preserved c =
    let l = c.loop-waiting in
    let within = slice_get_within l.waiting (c.len.result - 1) c.remove-tree.result c.remove-tree.ensures.item in (
      laying_on c.args.rows.now c.args.sides.now c.args.elements c.args.level l.rows c.lay.new.rows
          l.sides c.lay.new.sides l.waiting c.remove-tree.new.self c.stack-in-loop-waiting.new.waiting
          (c.len.result - 1) c.remove-tree.result
          c.in_ok-kids.kids l.invariant.0 (omega (arith, c.len.ensures, within)) c.remove-tree.ensures.item
          c.remove-tree.ensures.rest c.in_ok-kids.ensures.long c.in_ok-kids.ensures.lines
          c.in_ok-kids.ensures.kids c.in_ok-stack-2.ensures,
      λ keyed. c.in_ok-kids.ensures.keyed (l.invariant.1 keyed),
    )
