use Rattle.aas_journal.proofs.Disks.{tears_then}
use Rattle.aas_journal.proofs.durable.write_durably.Goals as goal

pub returns-clause-images : goal.returns-clause-images
returns-clause-images g c =
    tears_then c.args.part c.args.at _ _ _ _ _ _ _ c.write_at.ensures.call.past
    c.in_ok-write_at.ensures.images c.sync.ensures.reads.past c.sync.ensures.reads.images
