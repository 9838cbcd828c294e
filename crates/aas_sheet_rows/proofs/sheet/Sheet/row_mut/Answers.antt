use Rattle.aas_sheet_rows.proofs.Loans.{written, row_found}
use Rattle.aas_store.proofs.Shelves.{same_read}
use Rattle.aas_sheet_rows.specs.Changed.{with_row}
use Rattle.aas_sheet_rows.proofs.sheet.Sheet.row_mut.Goals as goal

pub returns : goal.returns
returns c =
    let a = c.args in
    let t = c.self.inside in (
      same_read c.row_mut.result _ (with_row a.self.now a.rank) _ _
          (λ w. written t.head t.rows t.sides a.rank w a.self.now c.self.invariant.0 c.self.view_is) c.self.view_is,
      record {
        writes_back = tt;
        row =
            row_found c.row_mut.result t.head t.rows t.sides a.rank a.self.now
            c.self.invariant.0 c.self.view_is c.row_mut.ensures.value;
      },
    )
