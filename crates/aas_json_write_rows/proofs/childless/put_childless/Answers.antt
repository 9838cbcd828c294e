use Rattle.aas_rows.specs.Views.{line_of}
use Rattle.aas_json_write_rows.proofs.Bare.{begun_first, begun_last, begun_more}
use Rattle.aas_json_write_rows.proofs.childless.put_childless.Goals as goal

pub returns : goal.returns
returns g c vs =
    let told = g.O.TextEnd.told in
    let bare = c.requires.childless in
    let annotations = c.put_part-pen in
    let inoutput = c.put_part-pen-2 in
    let input = c.put_part-pen-3 in
    let output = c.put_part-pen-4 in
    let statements = c.put_part-pen-5 in
    let value = c.put_part-pen-6 in
    let last = c.put_part-pen-7 in
    let begun = begun_first c.args.show (line_of c.args.row.now) c.args.later c.args.so_far (told c.args.out.now) in
    let begun =
    begun_more annotations.result (told annotations.new.out) bare begun
    annotations.ensures.text annotations.ensures.later in
    let begun =
    begun_more inoutput.result (told inoutput.new.out) bare begun
    inoutput.ensures.text inoutput.ensures.later in
    let begun = begun_more input.result (told input.new.out) bare begun input.ensures.text input.ensures.later in
    let begun = begun_more output.result (told output.new.out) bare begun output.ensures.text output.ensures.later in
    let begun =
    begun_more statements.result (told statements.new.out) bare begun
    statements.ensures.text statements.ensures.later in
    let begun = begun_more value.result (told value.new.out) bare begun value.ensures.text value.ensures.later in
    begun_last last.result.state c.add_text.result (told last.new.out)
    (told c.add_text.new.out) vs begun last.ensures.text c.add_text.ensures
