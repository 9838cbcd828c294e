use Rattle.std.proofs.Common.{◌≡◌, false}
use Rattle.aas_clients.specs.Places.{AreInTime, Keeps, KeepsQuiet}
use Rattle.aas_clients.specs.Visits.{since_last}
use Rattle.aas_clients.proofs.Tables.{OnlyFrom}
use Rattle.aas_clients.proofs.table.Table.tick.Given as goal

abbrev pub invariant-loop-number : goal.invariant-loop-number
invariant-loop-number g l = record {
  keeps : Keeps l.fn.self.places.items l.fn.self.next l.self.places.items l.self.next;
  present : l.self.present ≡ l.fn.self.present;
  since : l.self.last_since ≡ since_last l.fn.self.last_since l.may_begin l.now;
  quiet : l.is_over ≡ false → KeepsQuiet l.fn.self.places.items l.self.places.items l.number;
  later : OnlyFrom l.fn.self.places.items l.self.places.items l.number;
  in_time : AreInTime l.self.places.items l.number l.is_over l.now;
}
