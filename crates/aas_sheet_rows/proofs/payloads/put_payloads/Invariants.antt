use Rattle.std.proofs.Common.{◌≡◌, drop, length}
use Rattle.aas_sheet_rows.specs.Written.{InRange, written}
use Rattle.aas_sheet_rows.proofs.payloads.put_payloads.Given as goal

abbrev pub invariant-loop-row : goal.invariant-loop-row
invariant-loop-row l = record {
  unvisited : drop l.row-index l.patch ≡ drop l.row-index l.initial.patch;
  kept : length l.patch ≡ length l.initial.patch;
  long : length l.rows ≡ length l.initial.rows;
  within : InRange l.base (length l.initial.rows) (drop l.row-index l.initial.patch);
  so_far : written l.rows l.base (drop l.row-index l.initial.patch) ≡ written l.initial.rows l.base l.initial.patch;
}
