use Rattle.std.proofs.Common.{ap, ◌∙◌}
use Rattle.aas_page.specs.Pages.{page_of}
use Rattle.aas_answer.proofs.Planned.{page_planned}
use Rattle.aas_answer.proofs.planning.plan_page.Goals as goal

pub returns : goal.returns
returns g c =
    let d = g.S.Store.documents c.args.store.now in
    let s = c.args.selection.now in
    page_planned c.args.collection c.args.level c.args.extent
    d s c.in_ok-page.page.ids c.in_ok-page.page.more c.in_ok-cursor.cursor
    (c.in_ok-page.ensures ∙ ap (λ after. page_of c.args.collection s.filter after s.limit d) c.after.ensures)
    c.in_ok-cursor.ensures
