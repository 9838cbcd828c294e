use Rattle.std.proofs.Common.{arith}
use Rattle.aas_clients.proofs.inbox.Inbox.awaits.Goals as goal

pub returns-then-len-self : goal.returns-then-len-self
returns-then-len-self c =
    (omega (arith, c.if-len-self.true, c.len.ensures, c.args.self.now.bytes.ok.0), c.args.self.now.unfinished)
