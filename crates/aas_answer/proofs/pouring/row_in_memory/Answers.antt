use Rattle.std.proofs.Common.{◌∙◌}
use Rattle.std.proofs.lemmas.Result.{IfOk-weaker}
use Rattle.aas_out.proofs.TextPoured.{text_poured}
use Rattle.aas_answer.specs.Shown.{row_shown}
use Rattle.aas_answer.proofs.pouring.row_in_memory.Goals as goal

pub returns : goal.returns
returns g c =
    let begun = c.new-out.result in
    let out = c.pour_row-state.new.out in
    let shown = row_shown c.args.level c.args.extent (g.R.Rows.lines c.args.rows.now) c.args.rank in
    IfOk-weaker c.text_of.result _ _
    (λ text whole. whole.1 ∙ text_poured begun.text.items out.text.items begun.faults out.faults
    c.pour_row-state.result shown c.pour_row-state.ensures c.new-out.ensures whole.0)
    c.text_of.ensures
