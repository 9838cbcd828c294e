use Rattle.std.proofs.Common.{◌≡◌}
use Rattle.aas_clients.specs.Replies.{promised}
use Rattle.aas_clients.proofs.outbox.pour.Given as goal

abbrev pub invariant-loop : goal.invariant-loop
invariant-loop g l = record {
  promised : promised (g.S.Socket.taken l.socket) l.replies.bytes.items
      ≡ promised (g.S.Socket.taken l.fn.socket) l.fn.replies.bytes.items;
  told : g.S.Socket.told l.socket ≡ g.S.Socket.told l.fn.socket;
}
