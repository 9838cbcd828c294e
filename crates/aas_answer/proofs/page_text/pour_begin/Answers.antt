use Rattle.std.proofs.Common.{◌++◌, codes}
use Rattle.aas_out.proofs.Adding.{adds_both}
use Rattle.aas_answer.specs.Answers.{cursor_text}
use Rattle.aas_answer.proofs.page_text.pour_begin.Goals as goal

pub returns : goal.returns
returns g c =
    let t = g.O.Out.told c.args.out.now in
    let u = g.O.Out.told c.add_text-named.new.out in
    let v = g.O.Out.told c.pour_cursor-paged.new.out in
    let w = g.O.Out.told c.add_text.new.out in
    adds_both c.args.so_far c.add_text-named.result c.add_text.result t u w (codes "{\"paging_metadata\":")
    (cursor_text c.args.cursor.now ++ codes ",\"result\":[") c.add_text-named.ensures
    (adds_both c.add_text-named.result c.pour_cursor-paged.result c.add_text.result u v w
    (cursor_text c.args.cursor.now) (codes ",\"result\":[") c.pour_cursor-paged.ensures c.add_text.ensures)
