use Rattle.std.proofs.Common.{sym}
use Rattle.std.proofs.lemmas.Result.{IfOk-weaker}
use Rattle.aas_rows.specs.Views.{line_of}
use Rattle.aas_answer.proofs.Children.{same_line}
use Rattle.aas_answer.proofs.place_pages.copy_alone.Goals as goal

pub returns : goal.returns
returns g c =
    let row = c.in-Some.row in
    IfOk-weaker c.copy.result _ _
    (λ copied line e at.
    same_line c.args.rows.now c.args.rank row.level (line_of row) copied e (sym c.in-Some.ensures.row) line at)
    c.copy.ensures.line
