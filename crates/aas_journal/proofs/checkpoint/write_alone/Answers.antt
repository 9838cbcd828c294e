use Rattle.std.proofs.Common.{[], ◌∷◌, List, ℕ, length, refl, subst}
use Rattle.aas_outside.specs.Frame.{frame_bytes}
use Rattle.aas_outside.specs.declared.link.Failed.{Failed}
use Rattle.aas_outside_disk.specs.Disk.{Writes}
use Rattle.aas_journal.proofs.Changes.{changes_then, rewrites_twice, tears_change}
use Rattle.aas_journal.proofs.checkpoint.write_alone.Goals as goal

abbrev front : List ℕ
front = 65 ∷ 65 ∷ 83 ∷ 74 ∷ 48 ∷ 48 ∷ 48 ∷ 50 ∷ 1 ∷ []

pub returns-in_err-write_at-clause-images : goal.returns-in_err-write_at-clause-images
returns-in_err-write_at-clause-images g c =
    tears_change c.args.part c.write_at.ensures.call.past 0 9 c.write_at.ensures.images

pub returns-clause-rewritten : goal.returns-clause-rewritten
returns-clause-rewritten g c =
    let seen = λ (d : g.row.D.Denot). (g.D.Disk.state d).seen in
    rewrites_twice Failed c.args.part 9 front (frame_bytes c.args.frame.now) (seen c.args.disk.now)
    (seen c.write_at.new.self) (seen c.write_durably.new.disk) c.write_durably.result refl
    c.in_ok-write_at.ensures.written
    (subst (λ (bytes : List ℕ).
    Writes c.args.part 9 bytes (seen c.write_at.new.self) (seen c.write_durably.new.disk) c.write_durably.result)
    c.bytes.ensures c.write_durably.ensures.written)

pub returns-clause-images : goal.returns-clause-images
returns-clause-images g c =
    let part = c.args.part in
    let front = c.write_at.ensures in
    let behind = c.write_durably.ensures in
    changes_then part front.call.past (tears_change part front.call.past 0 9 front.images) behind.call.past
    (tears_change part behind.call.past 9 (length c.bytes.result.now) behind.images)
