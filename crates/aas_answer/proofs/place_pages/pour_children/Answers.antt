use Rattle.std.proofs.Common.{arith}
use Rattle.aas_answer.specs.Listed.{child_text}
use Rattle.aas_answer.proofs.Children.{entries_end, first_entered, next_entered, next_there, no_entries}
use Rattle.aas_answer.proofs.place_pages.pour_children.Goals as goal

pub returns-in_default : goal.returns-in_default
returns-in_default g c =
    no_entries (child_text c.args.form c.args.head.now) c.args.rows.now c.args.span.from c.args.span.limit c.args.so_far
    (g.O.Out.told c.args.out.now) c.in_default.ensures

pub loop-place-init : goal.loop-place-init
loop-place-init g c =
    first_entered (child_text c.args.form c.args.head.now) c.args.rows.now c.args.span.from
    c.in-Some.first c.args.so_far (g.O.Out.told c.args.out.now) c.in-Some.ensures

pub returns-in_default-next_child : goal.returns-in_default-next_child
returns-in_default-next_child g c =
    let l = c.loop-place in
    entries_end (child_text c.args.form c.args.head.now) c.args.rows.now
    c.args.span.from l.place l.at c.args.span.limit c.args.so_far l.state
    (g.O.Out.told c.args.out.now) (g.O.Out.told l.out) l.invariant c.in_default-next_child.ensures.first
    (omega (arith, c.loop-place-test.true))

pub pour_child-requires-clause-there : goal.pour_child-requires-clause-there
pour_child-requires-clause-there g c =
    let l = c.loop-place in
    next_there (child_text c.args.form c.args.head.now) c.args.rows.now
    c.args.span.from l.place l.at c.in-Some-next_child.rank c.args.so_far l.state
    (g.O.Out.told c.args.out.now) (g.O.Out.told l.out) l.invariant c.in-Some-next_child.ensures.first

pub loop-place-preserved : goal.loop-place-preserved
loop-place-preserved g c =
    let l = c.loop-place in
    next_entered (child_text c.args.form c.args.head.now) c.args.rows.now
    c.args.span.from l.place l.at c.in-Some-next_child.rank c.comma_of.result.now
    c.args.so_far l.state c.add_text-comma.result c.in_ok-state.state
    (g.O.Out.told c.args.out.now) (g.O.Out.told l.out)
    (g.O.Out.told c.add_text-comma.new.out) (g.O.Out.told c.pour_child.new.out)
    l.invariant c.in-Some-next_child.ensures.first c.comma_of.ensures c.add_text-comma.ensures c.in_ok-state.ensures
