use Rattle.std.proofs.Common.{◌≡◌}
use Rattle.aas_real_ends.proofs.clients.tell_ready.Given as goal

abbrev pub invariant-loop-event : goal.invariant-loop-event
invariant-loop-event l = l.table.present ≡ l.fn.table.present
