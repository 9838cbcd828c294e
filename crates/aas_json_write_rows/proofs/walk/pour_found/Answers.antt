use Rattle.std.proofs.Common.{◌∷◌, [], false, sym}
use Rattle.aas_json_write_members.specs.Members.{all_stops}
use Rattle.aas_json_write_members.specs.Script.{script}
use Rattle.aas_out.proofs.Adding.{adds_both, adds_same}
use Rattle.aas_rows.specs.Views.{line_of}
use Rattle.aas_json_write_rows.specs.Poured.{kids_at}
use Rattle.aas_json_write_rows.specs.Walk.{remaining}
use Rattle.aas_json_write_rows.proofs.Going.{text_walked}
use Rattle.aas_json_write_rows.proofs.Looking.{text_here}
use Rattle.aas_json_write_rows.proofs.walk.pour_found.Goals as goal

pub returns-then-is_childless : goal.returns-then-is_childless
returns-then-is_childless g c =
    let told = g.O.TextEnd.told in
    let w = c.args.show in
    let rows = g.R.Rows.lines c.args.rows.now in
    let n = c.args.rank in
    let r = line_of c.args.row.now in
    let first = told c.args.out.now in
    let second = told c.add_text-opened.new.out in
    let last = told c.put_childless.new.out in
    let vs = kids_at w rows r n in
    adds_same c.args.so_far c.put_childless.result first last _ _
    (adds_both c.args.so_far c.add_text-opened.result c.put_childless.result first second last
    (123 ∷ []) (script w r vs all_stops false)
    c.add_text-opened.ensures (c.put_childless.ensures vs))
    (sym (text_here w rows n r c.requires.found))

pub returns : goal.returns
returns g c =
    let told = g.O.TextEnd.told in
    let w = c.args.show in
    let rows = g.R.Rows.lines c.args.rows.now in
    let n = c.args.rank in
    let first = told c.args.out.now in
    let second = told c.add_text-opened.new.out in
    let last = told c.walk_element.new.out in
    adds_same c.args.so_far c.walk_element.result first last _ _
    (adds_both c.args.so_far c.add_text-opened.result c.walk_element.result first second last
    (123 ∷ []) (remaining w rows [] n all_stops false)
    c.add_text-opened.ensures c.walk_element.ensures)
    (sym (text_walked w rows n (line_of c.args.row.now) c.requires.found))
