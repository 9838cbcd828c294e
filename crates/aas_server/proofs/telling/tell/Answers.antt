use Rattle.std.proofs.Common.{inl, inr}
use Rattle.aas_repo.specs.Held.{machine_state}
use Rattle.aas_journal.specs.Shown.{disk_of, journal_state}
use Rattle.aas_server.specs.Status.{exit_code}
use Rattle.aas_server.proofs.Given.{telling_status}
use Rattle.aas_server.proofs.Told.{told}
use Rattle.aas_server.proofs.telling.tell.Goals as goal

pub returns-in-Ok-clause-does : goal.returns-in-Ok-clause-does
returns-in-Ok-clause-does g c =
    let C = g.C.Link in
    let D = g.D.Disk in
    let opened = c.in-Ok.repo in
    rw c.into_disk.ensures
    (rw c.into_keeper.ensures
    (rw c.exit_code.ensures
    (inr (told c.have_one_list.ensures c.payloads_replay_to_one_state.ensures
    (g.R.Report.answers c.args.report.now) (exit_code c.give-status.result)
    (C.state c.args.console.now) (C.state c.give-status.new.console)
    (D.state c.args.disk)
    (D.state (disk_of opened.keeper))
    (machine_state journal_state opened).held
    c.in-Ok.ensures.begun
    c.give-status.ensures.says c.give-status.ensures.unread c.give-status.ensures.silent
    c.give-status.ensures.no_disk_fault
    c.in-Ok.ensures.reads.only))))

pub returns-in-Err-clause-does : goal.returns-in-Err-clause-does
returns-in-Err-clause-does g c = inl (c.end_early.ensures.early c.args.disk c.in-Err.ensures.cause c.in-Err.ensures.reads)

pub returns-in-Err-clause-statuses : goal.returns-in-Err-clause-statuses
returns-in-Err-clause-statuses g c =
    telling_status g.R.Report.others c.end_early.result.status c.end_early.ensures.statuses

pub returns-in-Ok-clause-statuses : goal.returns-in-Ok-clause-statuses
returns-in-Ok-clause-statuses g c = rw c.exit_code.ensures c.give-status.ensures.statuses
