use Rattle.aas_server.specs.Status.{exit_code}
use Rattle.aas_server.proofs.Early.{early}
use Rattle.aas_server.proofs.not_begun.end_early.Goals as goal

pub returns-clause-early : goal.returns-clause-early
returns-clause-early g c = λ start cause reads.
    let C = g.C.Link in
    let D = g.D.Disk in
    rw c.exit_code.ensures
    (early c.args.it.fault (exit_code c.say_why.result)
    (C.state c.args.console.now) (C.state c.say_why.new.console) (D.state start) (D.state c.args.it.disk)
    cause reads.rose c.say_why.ensures.says c.say_why.ensures.unread c.say_why.ensures.silent reads.only)
