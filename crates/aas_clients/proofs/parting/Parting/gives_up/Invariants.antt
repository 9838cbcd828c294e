use Rattle.std.proofs.Common.{◌≡◌}
use Rattle.aas_clients.proofs.parting.Parting.gives_up.Given as goal

abbrev pub invariant-loop : goal.invariant-loop
invariant-loop g l = record {
  taken : g.S.Socket.taken l.self.socket ≡ g.S.Socket.taken l.fn.self.socket;
  replies : l.self.replies ≡ l.fn.self.replies;
  shut : l.self.is_shut ≡ l.fn.self.is_shut;
}
