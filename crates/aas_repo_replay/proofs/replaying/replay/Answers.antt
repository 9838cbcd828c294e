use Rattle.std.proofs.Common.{◌∙◌, Err}
use Rattle.std.proofs.lemmas.Result.{err_from_is_err_and}
use Rattle.aas_journal.specs.Shown.{disk_of}
use Rattle.aas_journal.proofs.Disks.{reads_then}
use Rattle.aas_repo_replay.proofs.Walked.{stops_there}
use Rattle.aas_repo_replay.proofs.replaying.replay.Goals as goal

pub gates-preserved : goal.gates-preserved
gates-preserved g c =
    let D = g.D.Disk in
    let before = c.gates.invariant in
    record {
      done = λ payloads kept.
          rw c.in-Some.is at
          (c.in_ok-next.ensures.done payloads (before.kept payloads kept) (before.done payloads kept));
      kept = λ payloads kept. c.add_at.ensures.kept payloads (before.kept payloads kept);
      room = c.add_at.ensures.room ∙ before.room;
      valid = c.add_at.ensures.valid;
      reads =
          reads_then (D.state (disk_of c.args.journal.now)) (D.state (disk_of c.gates.journal))
          (D.state (disk_of c.add_at.new.journal)) before.reads c.add_at.ensures.reads.only;
      calm = c.in_ok-next.ensures.calm ∙ before.calm;
    }

pub returns-in_err-next-clause-damaged : goal.returns-in_err-next-clause-damaged
returns-in_err-next-clause-damaged g c = λ payloads n d kept stop.
    let before = c.gates.invariant in
    let failed = c.in_err-next.ensures.done payloads (before.kept payloads kept) (before.done payloads kept) in
    let handed = err_from_is_err_and c.from_residual.result c.from_residual.ensures.1 in
    rw (handed.1, handed.2)
    (stops_there c.payloads_stop_at_one_place.ensures payloads {T = Unit {0}}
    (Err c.in_err-next.field-0.0) _ failed n d stop)

pub returns-clause-replayed : goal.returns-clause-replayed
returns-clause-replayed g c = λ payloads kept.
    let before = c.gates.invariant in
    rw c.in_default.is at (c.in_ok-next.ensures.done payloads (before.kept payloads kept) (before.done payloads kept))

pub returns-clause-damaged : goal.returns-clause-damaged
returns-clause-damaged g c = λ payloads n d kept stop.
    let before = c.gates.invariant in
    let replayed = rw c.in_default.is at
    (c.in_ok-next.ensures.done payloads (before.kept payloads kept) (before.done payloads kept)) in
    c.payloads_stop_at_one_place.ensures.replay_or_stop payloads n _ d replayed stop
