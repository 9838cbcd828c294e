use Rattle.std.proofs.Common.{arith}
use Rattle.aas_clients.proofs.inbox.Inbox.front.Goals as goal

pub returns-then-len-self-clause-front : goal.returns-then-len-self-clause-front
returns-then-len-self-clause-front c =
    (omega (arith, c.if-len-self.true, c.len.ensures, c.args.self.now.bytes.ok.0), c.args.self.now.unfinished)
