use Rattle.std.proofs.Common.{ap, subst, ◌∙◌}
use Rattle.aas_json_mapping.specs.Trees.{submodels}
use Rattle.aas_json_spelling.specs.Spells.{canonical_text}
use Rattle.aas_json_write_members.specs.Heads.{submodel_text}
use Rattle.aas_out.proofs.Adding.{adds_same}
use Rattle.aas_json_write_rows.specs.Elements.{elements_of}
use Rattle.aas_json_write_rows.specs.Poured.{AreLow}
use Rattle.aas_json_write_rows.specs.Shown.{show_at}
use Rattle.aas_json_write_rows.specs.Submodels.{with_elements}
use Rattle.aas_json_write_rows.proofs.Documents.{rows_give_submodel, submodel_put}
use Rattle.aas_json_write_rows.proofs.Shown.{submodel_is_shown}
use Rattle.aas_json_write_rows.proofs.submodel.pour_submodel.Goals as goal

pub returns-clause-text : goal.returns-clause-text
returns-clause-text g c =
    let lines = g.R.Rows.lines c.args.rows.now in
    adds_same c.args.so_far c.end_submodel.result
    (g.O.TextEnd.told c.args.out.now) (g.O.TextEnd.told c.end_submodel.new.out)
    (submodel_text c.args.head.now (elements_of c.show_at-show.result lines)) _
    (submodel_put c.args.head.now (elements_of c.show_at-show.result lines) c.args.so_far
    c.begin_submodel-before.result.state c.pour_elements-elements.result.state c.end_submodel.result
    (g.O.TextEnd.told c.args.out.now) (g.O.TextEnd.told c.begin_submodel-before.new.out)
    (g.O.TextEnd.told c.pour_elements-elements.new.out) (g.O.TextEnd.told c.end_submodel.new.out)
    c.begin_submodel-before.result.later c.pour_elements-elements.result.later
    c.begin_submodel-before.ensures.text c.begin_submodel-before.ensures.later
    c.pour_elements-elements.ensures.text c.pour_elements-elements.ensures.later c.end_submodel.ensures)
    (ap (λ w. submodel_text c.args.head.now (elements_of w lines)) c.show_at-show.ensures)

pub returns-clause-canonical : goal.returns-clause-canonical
returns-clause-canonical g c = λ es is.
    let h = c.args.head.now in
    let w = show_at 0 c.args.level c.args.extent in
    adds_same c.args.so_far c.end_submodel.result (g.O.TextEnd.told c.args.out.now)
    (g.O.TextEnd.told c.end_submodel.new.out) (submodel_text h (elements_of w (g.R.Rows.lines c.args.rows.now))) _
    (returns-clause-text g c)
    (ap (λ ls. submodel_text h (elements_of w ls)) is ∙ rows_give_submodel w h es
    ∙ ap (canonical_text submodels)
    (submodel_is_shown c.args.level c.args.extent (with_elements h es) (subst AreLow is c.requires)))
