-- What a view of a row shows.
use Rattle.std.specs.Prelude.{option_map}
use Rattle.std.specs.Str.{chars}
use Rattle.aas_rows.specs.Rows.{Line}
use Rattle.aas_rows.specs.declared.view.RowView.{RowView}

-- the row that is shown; its idShort is the one beside it
abbrev pub line_of : RowView → Line
line_of v = record {
  level = v.level;
  common = record v.common.now { id_short = option_map (λ s. chars s.now) v.id_short };
  payload = v.payload.now;
  role = v.role;
}
