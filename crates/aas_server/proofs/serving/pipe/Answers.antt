use Rattle.std.proofs.Common.{◌∙◌, inl, inr, arith}
use Rattle.aas_repo.specs.Held.{machine_state}
use Rattle.aas_journal.specs.Shown.{disk_of, journal_state, kept_by}
use Rattle.aas_outside_disk.proofs.Later.{later_read, later_then}
use Rattle.aas_server.proofs.Opened.{console_served, pipe_statuses}
use Rattle.aas_server.proofs.serving.pipe.Goals as goal

pub returns-in-Ok-clause-does : goal.returns-in-Ok-clause-does
returns-in-Ok-clause-does g c =
    let C = g.C.Link in
    let D = g.D.Disk in
    let opened = c.in-Ok.server.service.repo in
    let after = c.serve_connection-ended.new.machine.repo in
    rw c.into_disk.ensures.value
    (inr (console_served c.have_one_list.ensures c.payloads_replay_to_one_state.ensures
    c.accepted_commands_replay.ensures
    (D.state c.args.disk)
    (D.state (disk_of after.keeper))
    (machine_state journal_state opened).held
    after.documents (kept_by after.keeper) (λ payloads keeps. (keeps.files, keeps.told, keeps.image))
    c.in-Ok.ensures.begun c.in-Ok.ensures.reads.only.past c.in-Ok.ensures.reads.only.images
    c.serve_connection-ended.ensures.goes_on.past c.into_disk.ensures.valid
    c.exit_code.result c.serve_connection-ended.result
    (C.state c.args.console.now)
    (C.state c.serve_connection-ended.new.link)
    (c.exit_code.ensures ∙ c.from.ensures) c.serve_connection-ended.ensures.served
    c.serve_connection-ended.ensures.link.rose
    (λ failed. omega (arith, c.in-Ok.ensures.reads.later, c.serve_connection-ended.ensures.goes_on.fault failed))
    (λ other. c.serve_connection-ended.ensures.goes_on.calm other ∙ c.in-Ok.ensures.calm)))

pub returns-in-Ok-clause-statuses : goal.returns-in-Ok-clause-statuses
returns-in-Ok-clause-statuses g c =
    pipe_statuses c.serve_connection-ended.result c.exit_code.result (c.exit_code.ensures ∙ c.from.ensures)

pub returns-in-Err-clause-does : goal.returns-in-Err-clause-does
returns-in-Err-clause-does g c = inl (c.end_early.ensures.early c.args.disk c.in-Err.ensures.cause c.in-Err.ensures.reads)

pub returns-in-Ok-clause-later : goal.returns-in-Ok-clause-later
returns-in-Ok-clause-later g c =
    let served = c.serve_connection-ended.ensures.goes_on in
    rw c.into_disk.ensures.value
    (later_then _ _ _ (later_read _ _ _ c.in-Ok.ensures.reads) (record { past = served.past; faults = served.later }))
