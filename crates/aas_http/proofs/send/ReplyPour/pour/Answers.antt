use Rattle.aas_out.proofs.Adding.{outcome_puts}
use Rattle.aas_http.specs.ReplyText.{reply_text}
use Rattle.aas_http.proofs.send.ReplyPour.pour.Goals as goal

pub returns : goal.returns
returns g c = rw c.outcome.ensures (outcome_puts c.put_reply.result (g.O.Out.told c.args.out.now)
    (g.O.Out.told c.put_reply.new.out) (reply_text c.args.self.now) c.put_reply.ensures)
