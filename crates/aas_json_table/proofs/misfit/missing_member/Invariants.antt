use Rattle.std.proofs.Common.{◌≡◌, filter, map, drop}
use Rattle.serde_json.specs.View.{members_view}
use Rattle.aas_json_table.specs.Misfit.{missing}
use Rattle.aas_json_table.specs.Seen.{counts, row_of, rows_in}
use Rattle.aas_json_table.proofs.misfit.missing_member.Given as goal

abbrev pub invariant-loop-row : goal.invariant-loop-row
invariant-loop-row l =
    missing (filter (counts l.rows.metadata) (map row_of (drop l.row-index l.rows.all.now))) (members_view l.members.entries) ≡ missing (rows_in l.rows) (members_view l.members.entries)
