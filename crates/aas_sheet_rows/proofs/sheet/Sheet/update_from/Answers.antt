use Rattle.std.proofs.Common.{◌≡◌, List, length, sym, ap, ap₂, ◌∙◌, subst}
use Rattle.aas_model.specs.declared.patch.PatchRow.{PatchRow}
use Rattle.aas_sheet_rows.specs.Table.{submodel_of}
use Rattle.aas_sheet_rows.specs.Written.{InRange, written}
use Rattle.aas_sheet_rows.specs.declared.row.Row.{Row}
use Rattle.aas_sheet_rows.proofs.Putting.{written_long}
use Rattle.aas_sheet_index.proofs.Spliced.{filled_all}
use Rattle.aas_sheet_rows.proofs.Updated.{updated}
use Rattle.aas_sheet_rows.proofs.sheet.Sheet.update_from.Goals as goal

pub put_payloads-requires : goal.put_payloads-requires
put_payloads-requires c =
    let t = c.self.inside in
    let u = updated t.head t.rows t.sides c.requires.0 c.args.patch.rows c.args.first
    c.args.self.now c.self.invariant.0 c.self.view_is c.requires.2 c.requires.1 in
    subst (λ (rs : List Row). InRange c.args.first (length rs) c.as_mut_slice-2.result.now)
    (sym c.as_mut_slice.ensures.value)
    (subst (λ (ps : List PatchRow). InRange c.args.first (length t.rows) ps)
    (sym c.as_mut_slice-2.ensures.value) u.within)

pub returns : goal.returns
returns c = λ p at fits.
    let t = c.self.inside in
    let u = updated t.head t.rows t.sides p c.args.patch.rows c.args.first
    c.args.self.now c.self.invariant.0 c.self.view_is fits at in
    let new : c.put_payloads.new.rows ≡ written t.rows c.args.first c.args.patch.rows = c.put_payloads.ensures
    ∙ ap₂ (λ rs ps. written rs c.args.first ps) c.as_mut_slice.ensures.value c.as_mut_slice-2.ensures.value in
    ap (λ rs. submodel_of t.head rs t.sides)
    (filled_all t.rows c.put_payloads.new.rows (ap length new ∙ written_long t.rows c.args.first c.args.patch.rows)
    ∙ new)
    ∙ u.same
