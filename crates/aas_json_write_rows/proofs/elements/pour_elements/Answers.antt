use Rattle.aas_json_write_rows.proofs.Ahead.{next_there, no_elements, not_later, all_elements, is_later}
use Rattle.aas_json_write_rows.proofs.elements.pour_elements.Goals as goal

pub returns-in_default-clause-text : goal.returns-in_default-clause-text
returns-in_default-clause-text g c =
    no_elements c.args.show (g.R.Rows.lines c.args.rows.now) c.args.pen.later c.args.pen.state
    (g.O.TextEnd.told c.args.out.now) (c.in_default.ensures.next c.args.show)

pub returns-in_default-clause-later : goal.returns-in_default-clause-later
returns-in_default-clause-later g c =
    not_later c.args.show (g.R.Rows.lines c.args.rows.now) c.args.pen.later (c.in_default.ensures.next c.args.show)

pub pour_found-element-requires-clause-there : goal.pour_found-element-requires-clause-there
pour_found-element-requires-clause-there g c =
    let rows = g.R.Rows.lines c.args.rows.now in
    (next_there c.args.show rows 0 c.in-Some.first.rank (c.in-Some.ensures.next c.args.show)).there

pub returns-clause-text : goal.returns-clause-text
returns-clause-text g c =
    let rows = g.R.Rows.lines c.args.rows.now in
    let told = g.O.TextEnd.told in
    let name = c.put_elements_name-named in
    let element = c.pour_found-element in
    let others = c.pour_further-state in
    all_elements c.args.show rows c.in-Some.first.rank c.args.pen.later
    c.args.pen.state name.result element.result others.result
    (told c.args.out.now) (told name.new.out) (told element.new.out) (told others.new.out)
    (c.in-Some.ensures.next c.args.show) name.ensures element.ensures others.ensures

pub returns-clause-later : goal.returns-clause-later
returns-clause-later g c =
    let rows = g.R.Rows.lines c.args.rows.now in
    is_later c.args.show rows c.in-Some.first.rank c.args.pen.later (c.in-Some.ensures.next c.args.show)
