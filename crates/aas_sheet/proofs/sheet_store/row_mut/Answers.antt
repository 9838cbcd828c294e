use Rattle.std.proofs.Common.{MutBor, refl, sym}
use Rattle.aas_store.proofs.Shelves.{same_read}
use Rattle.aas_sheet.specs.Lent.{holding_row}
use Rattle.aas_sheet.specs.SheetStore.{documents}
use Rattle.aas_sheet.proofs.Lent.{left_holding, left_same, no_row, row_in, there}
use Rattle.aas_sheet_rows.specs.declared.row.Row.{Row}
use Rattle.aas_sheet.proofs.sheet_store.row_mut.Goals as goal

pub returns-in-Some : goal.returns-in-Some
returns-in-Some c =
    let a = c.args in
    let s = c.in-Some.sheet.now in
    let is = sym c.in-Some.ensures.value in (
      same_read c.row_mut.result _ (holding_row a.store.now a.id.now a.rank) _ _
          (left_holding a.store.now a.id.now a.rank s is) (left_same a.store.now a.id.now s is),
      row_in c.row_mut.result (λ (r : MutBor Row). r.now) (documents a.store.now).submodels a.id.now a.rank s
          (there a.store.now a.id.now _ is) c.row_mut.ensures.row,
    )

pub returns-in-None : goal.returns-in-None
returns-in-None c = (refl, no_row c.args.store.now c.args.id.now c.args.rank (sym c.in-None.ensures.value))
