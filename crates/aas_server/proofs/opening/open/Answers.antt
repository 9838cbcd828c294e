use Rattle.std.proofs.lemmas.Option.{IfSome_then}
use Rattle.std.proofs.lemmas.Result.{IfErr-weaker}
use Rattle.aas_server.proofs.Early.{files_cause}
use Rattle.aas_server.proofs.opening.open.Goals as goal

pub returns-in-Ok-clause-cause : goal.returns-in-Ok-clause-cause
returns-in-Ok-clause-cause g c = IfErr-weaker c.replay_journal.result _ _
    (λ it cause. IfSome_then (g.D.Disk.state c.args.disk).seen c.in-Ok.ensures.opened (λ files is.
    files_cause files is.0 it.fault is.1 (cause is.0 is.2.told)))
    c.replay_journal.ensures.cause
