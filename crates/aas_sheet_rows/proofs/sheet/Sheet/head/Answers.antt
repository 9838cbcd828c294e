use Rattle.std.proofs.Common.{ap}
use Rattle.aas_store.specs.Documents.{without_children}
use Rattle.aas_sheet_rows.proofs.sheet.Sheet.head.Goals as goal

pub returns : goal.returns
returns c = ap without_children c.self.view_is
