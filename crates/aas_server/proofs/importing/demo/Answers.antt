use Rattle.std.proofs.Common.{◌≡◌, inl, sym, subst, arith}
use Rattle.aas_repo.specs.Held.{machine_state}
use Rattle.aas_outside_disk.specs.Disk.{OnlyReads}
use Rattle.aas_journal.specs.Shown.{disk_of, journal_state, kept_by}
use Rattle.aas_outside_disk.proofs.Later.{later_called, later_read, later_then}
use Rattle.aas_server.specs.Status.{exit_code}
use Rattle.aas_server.proofs.Given.{early_status}
use Rattle.aas_server.proofs.PutIn.{demo_imported}
use Rattle.aas_server.proofs.importing.demo.Goals as goal

pub returns-in-Ok-clause-does : goal.returns-in-Ok-clause-does
returns-in-Ok-clause-does g c =
    let C = g.C.Link in
    let D = g.D.Disk in
    let opened = c.in-Ok.repo in
    let after = c.import_demo-status.new.repo in
    rw c.into_disk.ensures
    (rw c.into_keeper.ensures
    (rw c.exit_code.ensures
    (demo_imported c.have_one_list.ensures c.payloads_replay_to_one_state.ensures c.accepted_commands_replay.ensures
    (D.state c.args.disk)
    (D.state (disk_of after.keeper))
    (machine_state journal_state opened).held
    after.documents (kept_by after.keeper) (λ payloads keeps. (keeps.files, keeps.told, keeps.image))
    c.in-Ok.ensures.begun c.in-Ok.ensures.reads.only.past c.in-Ok.ensures.reads.only.images c.import_demo-status.ensures.calls.past
    (after ≡ opened) c.args.count (exit_code c.import_demo-status.result)
    (C.state c.args.console.now)
    (C.state c.import_demo-status.new.console)
    c.import_demo-status.ensures.does c.import_demo-status.ensures.refused
    (λ unchanged. subst (λ repo. OnlyReads (D.state c.args.disk)
    (D.state (disk_of repo.keeper))) (sym unchanged)
    c.in-Ok.ensures.reads.only)
    c.import_demo-status.ensures.unread
    (record {
      console = c.import_demo-status.ensures.console_fault;
      disk = λ four. omega (arith, c.in-Ok.ensures.reads.later, c.import_demo-status.ensures.calls.rose four);
    }))))

pub returns-in-Ok-clause-later : goal.returns-in-Ok-clause-later
returns-in-Ok-clause-later g c = rw c.into_disk.ensures
    (rw c.into_keeper.ensures (later_then _ _ _ (later_read _ _ _ c.in-Ok.ensures.reads)
    (later_called _ _ _ c.import_demo-status.ensures.calls)))

pub returns-in-Err-clause-does : goal.returns-in-Err-clause-does
returns-in-Err-clause-does g c = inl (c.end_early.ensures.early c.args.disk c.in-Err.ensures.cause c.in-Err.ensures.reads)

pub returns-in-Err-clause-statuses : goal.returns-in-Err-clause-statuses
returns-in-Err-clause-statuses g c =
    early_status c.end_early.result.status c.end_early.ensures.statuses
