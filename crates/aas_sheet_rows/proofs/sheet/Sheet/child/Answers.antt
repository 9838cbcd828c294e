use Rattle.std.proofs.Common.{ℕ, Option, false, sym, ap, ◌∙◌}
use Rattle.aas_store.specs.Spots.{spot_among, spot_below, step_of}
use Rattle.aas_sheet_rows.specs.declared.finding.RowRange.{RowRange}
use Rattle.aas_sheet_rows.proofs.Standing.{all_spanned}
use Rattle.aas_sheet_rows.proofs.sheet.Sheet.child.Goals as goal

pub returns-in-None : goal.returns-in-None
returns-in-None c =
    let t = c.self.inside in
    let d = c.args.self.now in
    c.child_among.ensures d.kids
    (all_spanned t.head t.rows c.as_slice-rows.result.now t.sides d c.all_rows.result
    c.self.invariant.0 c.self.view_is c.as_slice-rows.ensures c.all_rows.ensures)
    ∙ ap (λ (b : RowRange). spot_among false d.kids b.first (step_of c.args.step)) c.all_rows.ensures
    ∙ ap (λ (p : Option ℕ). spot_below d p (step_of c.args.step)) (sym c.in-None.is)

pub returns-in-Some : goal.returns-in-Some
returns-in-Some c =
    c.child_of_rank.ensures
    ∙ ap (λ (p : Option ℕ). spot_below c.args.self.now p (step_of c.args.step)) (sym c.in-Some.is)
