use Rattle.std.proofs.Common.{refl}
use Rattle.aas_out.proofs.Putting.{given_is_put, kept_by}
use Rattle.aas_out.proofs.linked.LinkOutOut.put.Goals as goal

pub returns : goal.returns
returns g c =
    given_is_put c.give_all.result c.args.bytes.now
    (g.L.Link.state c.args.self.now.link.now).sent (g.L.Link.state c.give_all.new.link).sent
    (g.L.Link.state c.args.self.now.link.now).faults (g.L.Link.state c.give_all.new.link).faults _ _
    c.give_all.ensures.given c.give_all.ensures.front c.give_all.ensures.call.cause
    (kept_by c.args.self.now.link.ghost_name c.args.self.now.link.ghost_name
    (g.L.Link.state c.args.self.now.link.now).left (g.L.Link.state c.give_all.new.link).left
    (g.L.Link.state c.args.self.now.link.now).surroundings (g.L.Link.state c.give_all.new.link).surroundings
    refl c.give_all.ensures.call.left c.give_all.ensures.call.surroundings)
