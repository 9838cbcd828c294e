use Rattle.std.proofs.Common.{◌∷◌, [], ◌+◌, Ok, refl, length}
use Rattle.aas_outside.specs.declared.link.Failed.{Failed}
use Rattle.aas_outside_disk.specs.Files.{file}
use Rattle.aas_journal.specs.Kept.{limit_law}
use Rattle.aas_journal.proofs.Disks.{known, told}
use Rattle.aas_journal.proofs.Placed.{same_part, within_further, within_write}
use Rattle.aas_journal.proofs.Keeping.{at_err, failed_first, failed_second, keeps, kept_in_turn, same_selectors}
use Rattle.aas_journal.proofs.TwoWrites.{fails_so, tears_both, tears_first, writes_both}
use Rattle.aas_journal.proofs.journal.JournalKeeper.keep.Goals as goal

pub invariant_of-self : goal.invariant_of-self
invariant_of-self g c =
    let D = g.D.Disk in
    let self = c.args.self.now in
    record {
      within =
          within_write (D.state self.disk).seen (D.state c.write_durably.new.disk).seen self.part self.gate
          (self.gate + 1) c.bytes-bytes.result.now c.write_durably.result self.within c.write_durably.ensures.written;
    }

pub invariant_of-self-in-Break-branch-2 : goal.invariant_of-self-in-Break-branch-2
invariant_of-self-in-Break-branch-2 g c =
    let D = g.D.Disk in
    let self = c.args.self.now in
    let first = within_write (D.state self.disk).seen (D.state c.write_durably.new.disk).seen self.part self.gate
    (self.gate + 1) c.bytes-bytes.result.now c.write_durably.result self.within c.write_durably.ensures.written in
    record {
      within =
          within_write (D.state c.write_durably.new.disk).seen (D.state c.write_durably-2.new.disk).seen self.part
          self.gate self.gate (1 ∷ []) c.write_durably-2.result first c.write_durably-2.ensures.written;
    }

pub invariant_of-self-2 : goal.invariant_of-self-2
invariant_of-self-2 g c =
    let D = g.D.Disk in
    let self = c.args.self.now in
    let frame = c.bytes-bytes.result.now in
    let first = within_further Failed (D.state self.disk).seen
    (D.state c.write_durably.new.disk).seen self.part self.gate frame self.within c.in_ok-write_durably.ensures.written in
    record {
      within =
          within_write (D.state c.write_durably.new.disk).seen
          (D.state c.write_durably-2.new.disk).seen self.part (self.gate + length frame) self.gate
          (1 ∷ []) c.write_durably-2.result first c.write_durably-2.ensures.written;
    }

pub returns-clause-kept : goal.returns-clause-kept
returns-clause-kept g c = λ payloads kept.
    let D = g.D.Disk in
    let self = c.args.self.now in
    let t = told kept.files (D.state self.disk).seen
    (D.state c.write_durably.new.disk).seen _ kept.told c.in_ok-write_durably.ensures.written in
    let u = told t.0 (D.state c.write_durably.new.disk).seen
    (D.state c.write_durably-2.new.disk).seen _ t.1 c.in_ok-write_durably-2.ensures.written in
    let small = limit_law self.gate (length c.args.frame.now) c.requires in
    keeps (D.state self.disk).seen self.part self.gate payloads (D.state self.disk).moment
    (D.state self.disk).left_at kept c.args.frame.now small c.bytes-bytes.result.now c.bytes-bytes.ensures
    (D.state c.write_durably-2.new.disk).seen ((D.state c.write_durably-2.new.disk).left_at (D.state c.write_durably-2.new.disk).moment) u.0
    (file self.part t.0) u.1
    (same_part self.part kept.files.selector t.0 u.0 kept.part_is u.2.0
    (same_part self.part kept.files.selector kept.files t.0 kept.part_is t.2.0 refl))
    (same_selectors (D.state self.disk).seen self.part self.gate payloads (D.state self.disk).moment
    (D.state self.disk).left_at kept c.args.frame.now small c.bytes-bytes.result.now c.bytes-bytes.ensures
    (self.gate + 1) (length c.bytes-bytes.result.now) self.gate 1 (D.state c.write_durably.new.disk).moment
    (D.state c.write_durably-2.new.disk).moment (D.state c.write_durably.new.disk).left_at (D.state c.write_durably-2.new.disk).left_at
    c.write_durably.ensures.call.past.later c.write_durably-2.ensures.call.past.later
    c.write_durably.ensures.images c.write_durably-2.ensures.images)
    t.2.2 u.2.2

pub returns-in_err-write_durably-clause-in_turn : goal.returns-in_err-write_durably-clause-in_turn
returns-in_err-write_durably-clause-in_turn g c = λ payloads settled.
    let D = g.D.Disk in
    let self = c.args.self.now in
    at_err _ c.from_residual.result c.from_residual.ensures.0
    (failed_first (D.state self.disk).seen self.part self.gate payloads (D.state self.disk).moment
    (D.state self.disk).left_at settled.told c.args.frame.now (limit_law self.gate (length c.args.frame.now) c.requires)
    c.bytes-bytes.result.now c.bytes-bytes.ensures settled.alone (D.state c.write_durably.new.disk).moment
    (D.state c.write_durably.new.disk).left_at c.write_durably.ensures.call.past c.write_durably.ensures.images)

pub returns-in_err-write_durably-2-clause-in_turn : goal.returns-in_err-write_durably-2-clause-in_turn
returns-in_err-write_durably-2-clause-in_turn g c = λ payloads settled.
    let D = g.D.Disk in
    let self = c.args.self.now in
    let kept = settled.told in
    let t = told kept.files (D.state self.disk).seen
    (D.state c.write_durably.new.disk).seen _ kept.told c.in_ok-write_durably.ensures.written in
    at_err _ c.from_residual-in_err-write_durably-2.result c.from_residual-in_err-write_durably-2.ensures.0
    (failed_second (D.state self.disk).seen self.part self.gate payloads (D.state self.disk).moment
    (D.state self.disk).left_at kept c.args.frame.now (limit_law self.gate (length c.args.frame.now) c.requires)
    c.bytes-bytes.result.now c.bytes-bytes.ensures settled.alone (D.state c.write_durably.new.disk).moment
    (D.state c.write_durably.new.disk).left_at c.write_durably.ensures.call.past c.write_durably.ensures.images
    (file self.part t.0) t.2.2 (known t.0 (D.state c.write_durably.new.disk).seen _ t.1 c.in_ok-write_durably.ensures.durable)
    (D.state c.write_durably-2.new.disk).moment (D.state c.write_durably-2.new.disk).left_at
    c.write_durably-2.ensures.call.past c.write_durably-2.ensures.images)

pub returns-clause-in_turn : goal.returns-clause-in_turn
returns-clause-in_turn g c = λ payloads settled.
    let D = g.D.Disk in
    let self = c.args.self.now in
    let kept = settled.told in
    let t = told kept.files (D.state self.disk).seen
    (D.state c.write_durably.new.disk).seen _ kept.told c.in_ok-write_durably.ensures.written in
    let u = told t.0 (D.state c.write_durably.new.disk).seen
    (D.state c.write_durably-2.new.disk).seen _ t.1 c.in_ok-write_durably-2.ensures.written in
    kept_in_turn (D.state self.disk).seen self.part self.gate payloads (D.state self.disk).moment
    (D.state self.disk).left_at kept c.args.frame.now (limit_law self.gate (length c.args.frame.now) c.requires)
    c.bytes-bytes.result.now c.bytes-bytes.ensures settled.alone (D.state c.write_durably.new.disk).moment
    (D.state c.write_durably.new.disk).left_at c.write_durably.ensures.call.past c.write_durably.ensures.images
    (file self.part t.0) t.2.2 (known t.0 (D.state c.write_durably.new.disk).seen _ t.1 c.in_ok-write_durably.ensures.durable)
    (D.state c.write_durably-2.new.disk).moment (D.state c.write_durably-2.new.disk).left_at
    c.write_durably-2.ensures.call.past c.write_durably-2.ensures.images
    (file self.part u.0) u.2.2
    (known u.0 (D.state c.write_durably-2.new.disk).seen _ u.1 c.in_ok-write_durably-2.ensures.durable)

pub returns-in_err-write_durably-2-clause-bytes : goal.returns-in_err-write_durably-2-clause-bytes
returns-in_err-write_durably-2-clause-bytes g c = λ payloads kept.
    let D = g.D.Disk in
    let self = c.args.self.now in
    let failed = c.from_residual-in_err-write_durably-2 in
    let t = told kept.files (D.state self.disk).seen
    (D.state c.write_durably.new.disk).seen _ kept.told c.in_ok-write_durably.ensures.written in
    writes_both (D.state self.disk).seen ((D.state self.disk).left_at (D.state self.disk).moment) self.part
    self.gate payloads kept c.args.frame.now c.bytes-bytes.result.now c.bytes-bytes.ensures
    Failed (D.state c.write_durably.new.disk).seen (D.state c.write_durably-2.new.disk).seen failed.result
    (self.within kept.files kept.told) c.in_ok-write_durably.ensures.written
    (fails_so self.part self.gate (1 ∷ []) t.0 (D.state c.write_durably.new.disk).seen (D.state c.write_durably-2.new.disk).seen
    c.write_durably-2.result failed.result t.1 failed.ensures.0 c.write_durably-2.ensures.written)

pub returns-clause-bytes : goal.returns-clause-bytes
returns-clause-bytes g c = λ payloads kept.
    let D = g.D.Disk in
    let self = c.args.self.now in
    writes_both (D.state self.disk).seen ((D.state self.disk).left_at (D.state self.disk).moment) self.part
    self.gate payloads kept c.args.frame.now c.bytes-bytes.result.now c.bytes-bytes.ensures
    {E = Failed} Failed (D.state c.write_durably.new.disk).seen (D.state c.write_durably-2.new.disk).seen (Ok tt)
    (self.within kept.files kept.told) c.in_ok-write_durably.ensures.written c.in_ok-write_durably-2.ensures.written

pub returns-in_err-write_durably-clause-images : goal.returns-in_err-write_durably-clause-images
returns-in_err-write_durably-clause-images g c = λ payloads kept.
    tears_first (g.D.Disk.state c.args.self.now.disk) _ _ _ kept c.args.frame.now _ c.bytes-bytes.ensures
    (g.D.Disk.state c.write_durably.new.disk) c.write_durably.ensures.images

pub returns-in_err-write_durably-2-clause-images : goal.returns-in_err-write_durably-2-clause-images
returns-in_err-write_durably-2-clause-images g c = λ payloads kept.
    tears_both (g.D.Disk.state c.args.self.now.disk) _ _ _ kept c.args.frame.now _ c.bytes-bytes.ensures
    (g.D.Disk.state c.write_durably.new.disk) c.write_durably.ensures.images c.write_durably.ensures.call.past.later
    (g.D.Disk.state c.write_durably-2.new.disk) c.write_durably-2.ensures.call.past c.write_durably-2.ensures.images

pub returns-clause-images : goal.returns-clause-images
returns-clause-images g c = λ payloads kept.
    tears_both (g.D.Disk.state c.args.self.now.disk) _ _ _ kept c.args.frame.now _ c.bytes-bytes.ensures
    (g.D.Disk.state c.write_durably.new.disk) c.write_durably.ensures.images c.write_durably.ensures.call.past.later
    (g.D.Disk.state c.write_durably-2.new.disk) c.write_durably-2.ensures.call.past c.write_durably-2.ensures.images
