use Rattle.std.proofs.Common.{sym, ◌∙◌}
use Rattle.aas_store.proofs.Listed.{as_many_of_all}
use Rattle.aas_sheet_rows.proofs.Standing.{as_many_sides}
use Rattle.aas_sheet_rows.proofs.sheet.Sheet.element_count.Goals as goal

pub returns : goal.returns
returns c =
    let t = c.self.inside in
    c.len.ensures ∙ sym (as_many_sides t.head t.rows t.sides c.args.self.now c.self.invariant.0 c.self.view_is)
    ∙ as_many_of_all c.args.self.now.kids
