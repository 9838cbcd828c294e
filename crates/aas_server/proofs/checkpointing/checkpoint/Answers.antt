use Rattle.std.proofs.Common.{inl, ap}
use Rattle.aas_journal.specs.Shown.{disk_of, kept_by}
use Rattle.aas_server.specs.Status.{exit_code}
use Rattle.aas_server.proofs.Checkpointed.{checkpoints}
use Rattle.aas_server.proofs.Given.{early_status}
use Rattle.aas_server.proofs.checkpointing.checkpoint.Goals as goal

pub returns-in-Ok-clause-does : goal.returns-in-Ok-clause-does
returns-in-Ok-clause-does g c =
    let C = g.C.Link in
    let D = g.D.Disk in
    let d = c.in-Ok.repo.documents in
    let same = c.into_keeper-journal.ensures in
    let prepared = rw c.store.ensures.documents at c.prepare-prepared.ensures in
    rw c.into_disk.ensures
    (rw c.exit_code.ensures
    (checkpoints (λ line. line.items) (λ journal. (D.state (disk_of journal)))
    (D.state c.args.disk)
    c.into_keeper-journal.result c.make-made.new.journal d (kept_by c.into_keeper-journal.result)
    c.have_one_list.ensures c.payloads_replay_to_one_state.ensures
    (rw same c.in-Ok.ensures.begun)
    (rw same c.in-Ok.ensures.reads.only)
    (rw same c.in-Ok.ensures.reads.later)
    c.make-made.ensures.calls.past
    (λ payloads replays settled. c.make-made.ensures.stays d payloads prepared replays settled)
    (exit_code c.say.result)
    (C.state c.args.console.now) (C.state c.say.new.console)
    c.say.ensures.unread
    c.make-made.result
    (λ payloads keeps. c.make-made.ensures.made d payloads prepared keeps)
    c.make-made.ensures.forgone
    c.say.ensures.says
    (λ is. let none = c.say.ensures.silent is in (none.0, ap C.state none.1))
    c.say.ensures.forgone
    (λ four. c.make-made.ensures.calls.rose (c.say.ensures.failed four))))

pub returns-in-Err-clause-does : goal.returns-in-Err-clause-does
returns-in-Err-clause-does g c = inl (c.end_early.ensures.early c.args.disk c.in-Err.ensures.cause c.in-Err.ensures.reads)

pub returns-in-Err-clause-statuses : goal.returns-in-Err-clause-statuses
returns-in-Err-clause-statuses g c =
    early_status c.end_early.result.status c.end_early.ensures.statuses
