use Rattle.std.proofs.Common.{◌≡◌, filter, map, drop}
use Rattle.aas_json_table.specs.Rows.{row_named}
use Rattle.aas_json_table.specs.Seen.{counts, row_of, rows_in}
use Rattle.aas_json_table.proofs.table.Rows.row_named.Given as goal

abbrev pub invariant-loop-row : goal.invariant-loop-row
invariant-loop-row l = row_named l.name (filter (counts l.self.metadata) (map row_of (drop l.row-index l.self.all.now))) ≡ row_named l.name (rows_in l.self)
