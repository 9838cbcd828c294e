use Rattle.std.proofs.Common.{◌≡◌}
use Rattle.aas_clients.specs.Visits.{left_of}
use Rattle.aas_real_ends.proofs.clients.Clients.give.Given as goal

abbrev pub invariant-loop : goal.invariant-loop
invariant-loop g l = left_of l.self.table.present ≡ left_of l.fn.self.table.present
