use Rattle.std.proofs.Common.{List, ap₂, ◌∙◌}
use Rattle.aas_model.specs.declared.documents.Submodel.{Submodel}
use Rattle.aas_model.specs.declared.element.Element.{Element}
use Rattle.aas_sheet_rows.proofs.Whole.{whole_grown}
use Rattle.aas_sheet_rows.proofs.sheet.Sheet.submodel.Goals as goal

pub returns : goal.returns
returns c =
    let t = c.self.inside in
    ap₂ (λ (d : Submodel) (es : List Element). record d { kids = es }) c.in_ok-copied.ensures
    (c.in_ok-copied-2.ensures
    ∙ whole_grown t.rows c.as_slice-rows.result.now t.sides c.as_slice-sides.result.now
    c.self.invariant.0 c.as_slice-rows.ensures c.as_slice-sides.ensures)
    ∙ c.self.view_is
