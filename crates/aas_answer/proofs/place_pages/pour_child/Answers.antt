use Rattle.std.proofs.Common.{sym, ap, ◌∙◌}
use Rattle.aas_out.proofs.Adding.{adds_same}
use Rattle.aas_json_write_rows.specs.Poured.{text_at}
use Rattle.aas_answer.specs.Listed.{child_text}
use Rattle.aas_answer.proofs.Children.{child_shown}
use Rattle.aas_answer.proofs.place_pages.pour_child.Goals as goal

pub returns-in-Whole : goal.returns-in-Whole
returns-in-Whole g c = λ e at.
    let lines = c.args.rows.now in
    let rank = c.args.rank in
    adds_same c.args.so_far c.pour_element.result (g.O.Out.told c.args.out.now) (g.O.Out.told c.pour_element.new.out)
    (text_at c.show_at-show.result lines rank) (child_text c.args.form c.args.head.now e) c.pour_element.ensures
    (ap (λ w. text_at w lines rank) c.show_at-show.ensures
    ∙ child_shown c.in-Whole.level c.in-Whole.extent lines rank e at c.requires.low
    ∙ ap (λ form. child_text form c.args.head.now e) (sym c.in-Whole.is))
