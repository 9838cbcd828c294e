use Rattle.aas_sheet_rows.proofs.Staying.{others_stay}
use Rattle.aas_sheet_rows.proofs.laws.others_stay.Goals as goal

pub returns : goal.returns
returns c = others_stay
