use Rattle.std.proofs.Common.{ap}
use Rattle.aas_session.specs.WholeReply.{poured_of}
use Rattle.aas_session.proofs.WholeReplies.{puts_whole, wrote_whole, front_whole}
use Rattle.aas_session.proofs.given.WholeAnswerPour.pour.Goals as goal

pub returns-in-Some : goal.returns-in-Some
returns-in-Some g c =
    let given = c.args.self.now in
    let poured = g.M.Machine.poured given.machine.now in
    puts_whole poured given.answer.now given.measured (g.O.Out.told c.args.out.now) (g.O.Out.told c.put_reply.new.out)
    c.pour.result (g.O.Out.told c.pour.new.out) _ (ap (poured_of poured) c.in-Some.is) c.in-Going.ensures c.pour.ensures

pub returns-in-None : goal.returns-in-None
returns-in-None g c =
    let given = c.args.self.now in
    let poured = g.M.Machine.poured given.machine.now in
    wrote_whole poured given.answer.now given.measured (g.O.Out.told c.args.out.now)
    (g.O.Out.told c.put_reply.new.out) (ap (poured_of poured) c.in-None.is) c.in-Going.ensures

pub returns-in-Stopped : goal.returns-in-Stopped
returns-in-Stopped g c =
    let given = c.args.self.now in
    front_whole (g.M.Machine.poured given.machine.now) given.answer.now given.measured
    (g.O.Out.told c.args.out.now) (g.O.Out.told c.put_reply.new.out) c.in-Stopped.ensures
