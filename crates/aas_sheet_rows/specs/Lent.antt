-- The types that are lent for writing, as the logic of loans holds them.
use denote.RattleType.{RattleType}
use Rattle.aas_model_text.specs.contracts.many.Many as many
use Rattle.aas_sheet_rows.specs.contracts.row.Kept as kept
use Rattle.aas_sheet_rows.specs.contracts.row.Row as row
use Rattle.aas_sheet_rows.specs.contracts.sheet.Sheet as sheet

abbrev pub sheet_type : RattleType
sheet_type = sheet.the_row

abbrev pub row_type : RattleType
row_type = row.the_row

abbrev pub kept_type : RattleType
kept_type = kept.the_row

abbrev pub kept_rows_type : RattleType
kept_rows_type = many.the_row kept.the_row
