use Rattle.std.proofs.Common.{◌≡◌, None}
use Rattle.aas_real_ends.proofs.clients.Clients.close.Given as goal

abbrev pub invariant-loop : goal.invariant-loop
invariant-loop g l = l.self.table.present ≡ None
