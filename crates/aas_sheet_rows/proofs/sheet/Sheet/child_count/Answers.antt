use Rattle.std.proofs.Common.{◌∙◌}
use Rattle.aas_sheet_rows.proofs.Standing.{children_counted}
use Rattle.aas_sheet_rows.proofs.sheet.Sheet.child_count.Goals as goal

pub returns : goal.returns
returns c =
    let t = c.self.inside in
    c.self.invariant.1 ∙ children_counted t.head t.rows t.sides c.args.self.now c.self.invariant.0 c.self.view_is
