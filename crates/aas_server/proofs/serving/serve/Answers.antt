use Rattle.std.proofs.Common.{◌∙◌, inl, inr, refl, sym, arith, lit<}
use Rattle.aas_repo.specs.Held.{machine_state}
use Rattle.aas_journal.specs.Shown.{disk_of, journal_state, kept_by}
use Rattle.aas_outside_disk.proofs.Later.{later_read, later_then}
use Rattle.aas_server.proofs.Held.{has_begun}
use Rattle.aas_server.proofs.Opened.{serve_statuses, wire_served}
use Rattle.aas_server.proofs.serving.serve.Goals as goal

pub returns-in-Ok-listen-clause-does : goal.returns-in-Ok-listen-clause-does
returns-in-Ok-listen-clause-does g c =
    let C = g.C.Link in
    let L = g.W.Link in
    let D = g.D.Disk in
    let opened = c.in-Ok.server.service.repo in
    let after = c.serve-ended.new.machine.repo in
    rw c.into_disk.ensures.value
    (inr (inr (
      wire_served c.have_one_list.ensures c.payloads_replay_to_one_state.ensures
          c.accepted_commands_replay.ensures
          (D.state c.args.disk)
          (D.state (disk_of after.keeper))
          (machine_state journal_state opened).held
          after.documents (kept_by after.keeper) (λ payloads keeps. (keeps.files, keeps.told, keeps.image))
          c.in-Ok.ensures.begun c.in-Ok.ensures.reads.only.past c.in-Ok.ensures.reads.only.images
          c.serve-ended.ensures.goes_on.past c.into_disk.ensures.valid
          c.args.count c.exit_code.result c.serve-ended.result
          (L.state c.args.wire.now)
          (L.state c.listen.new.self)
          (L.state c.serve-ended.new.wire)
          c.in-Ok-listen.ensures.here.connections c.in-Ok-listen.ensures.here.sent c.in-Ok-listen.ensures.clients
          c.in-Ok-listen.ensures.faults c.in-Ok-listen.ensures.cause.later
          (c.exit_code.ensures ∙ c.from.ensures) c.serve-ended.ensures.served
          c.serve-ended.ensures.few c.serve-ended.ensures.wire_fault
          (λ failed. omega (arith, c.in-Ok.ensures.reads.later, c.serve-ended.ensures.goes_on.fault failed))
          (λ other. c.serve-ended.ensures.goes_on.calm other ∙ c.in-Ok.ensures.calm),
      refl {a = (C.state c.args.console.now)},
    )))

pub returns-in-Ok-listen-clause-statuses : goal.returns-in-Ok-listen-clause-statuses
returns-in-Ok-listen-clause-statuses g c =
    serve_statuses c.serve-ended.result c.exit_code.result (c.exit_code.ensures ∙ c.from.ensures)

pub returns-in-Err-listen-clause-does : goal.returns-in-Err-listen-clause-does
returns-in-Err-listen-clause-does g c =
    let C = g.C.Link in
    let D = g.D.Disk in
    let opened = c.in-Ok.server.service.repo in
    rw c.into_disk-in-Err-listen.ensures.value
    (inr (inl (
      record {
        status_is = c.exit_code-in-Err-listen.ensures;
        has_begun = has_begun (D.state c.args.disk)
            (machine_state journal_state opened).held
            c.in-Ok.ensures.begun;
        fault = c.in-Err-listen.ensures.cause.failed;
        here = c.in-Err-listen.ensures.here;
        clients = c.in-Err-listen.ensures.clients;
        unwritten = c.in-Ok.ensures.reads.only;
      },
      refl {a = (C.state c.args.console.now)},
    )))

pub returns-in-Err-listen-clause-statuses : goal.returns-in-Err-listen-clause-statuses
returns-in-Err-listen-clause-statuses g c = (1, lit< tt, sym c.exit_code-in-Err-listen.ensures)

pub returns-in-Err-clause-does : goal.returns-in-Err-clause-does
returns-in-Err-clause-does g c =
    inl (
      c.end_early.ensures.early c.args.disk c.in-Err.ensures.cause c.in-Err.ensures.reads,
      refl {a = g.W.Link.state c.args.wire.now},
    )

pub returns-in-Ok-listen-clause-later : goal.returns-in-Ok-listen-clause-later
returns-in-Ok-listen-clause-later g c =
    let served = c.serve-ended.ensures.goes_on in
    rw c.into_disk.ensures.value
    (later_then _ _ _ (later_read _ _ _ c.in-Ok.ensures.reads) (record { past = served.past; faults = served.later }))
