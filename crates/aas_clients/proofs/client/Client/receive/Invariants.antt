use Rattle.std.proofs.Common.{◌≡◌, ◌≤◌}
use Rattle.aas_clients.specs.Clients.{GoesOn}
use Rattle.aas_clients.specs.Kept.{limit_of}
use Rattle.aas_clients.proofs.client.Client.receive.Given as goal

abbrev pub invariant-loop : goal.invariant-loop
invariant-loop g l = record {
  limit : l.limit ≤ limit_of l.self.is_large;
  goes_on : GoesOn l.fn.self l.self;
  turn : l.self.turn ≡ l.fn.self.turn;
  replies : l.self.replies ≡ l.fn.self.replies;
  taken : g.S.Socket.taken l.self.socket ≡ g.S.Socket.taken l.fn.self.socket;
}
