use Rattle.std.proofs.Common.{arith}
use Rattle.aas_json_write_rows.proofs.Ahead.{Next, next_there, further_start, further_more, further_end}
use Rattle.aas_json_write_rows.proofs.elements.pour_further.Goals as goal

pub loop-next-init : goal.loop-next-init
loop-next-init g c =
    further_start c.args.show (g.R.Rows.lines c.args.rows.now) c.args.from c.args.so_far
    (g.O.TextEnd.told c.args.out.now)

pub pour_found-state-requires-clause-there : goal.pour_found-state-requires-clause-there
pour_found-state-requires-clause-there g c =
    let rows = g.R.Rows.lines c.args.rows.now in
    (next_there c.args.show rows c.loop-next.at c.in-Some.next.rank (c.in-Some.ensures.next c.args.show)).there

pub loop-next-smaller : goal.loop-next-smaller
loop-next-smaller g c =
    let rows = g.R.Rows.lines c.args.rows.now in
    let h : Next c.args.show rows c.loop-next.at c.in-Some.next.rank =
    next_there c.args.show rows c.loop-next.at c.in-Some.next.rank (c.in-Some.ensures.next c.args.show) in
    omega (arith, h.order, h.within)

pub loop-next-preserved : goal.loop-next-preserved
loop-next-preserved g c =
    let rows = g.R.Rows.lines c.args.rows.now in
    let told = g.O.TextEnd.told in
    let comma = c.add_text-comma in
    let element = c.pour_found-state in
    further_more c.args.show rows c.args.from c.loop-next.at c.in-Some.next.rank
    c.args.so_far c.loop-next.state comma.result element.result
    (told c.args.out.now) (told c.loop-next.out) (told comma.new.out) (told element.new.out)
    c.loop-next.invariant (c.in-Some.ensures.next c.args.show) comma.ensures element.ensures

pub returns : goal.returns
returns g c =
    further_end c.args.show
    (g.R.Rows.lines c.args.rows.now) c.args.from c.loop-next.at c.args.so_far c.loop-next.state c.add_text.result
    (g.O.TextEnd.told c.args.out.now) (g.O.TextEnd.told c.loop-next.out) (g.O.TextEnd.told c.add_text.new.out)
    c.loop-next.invariant (c.in_default.ensures.next c.args.show) c.add_text.ensures
