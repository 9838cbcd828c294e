use Rattle.std.proofs.Common.{◌≡◌, ap, arith, length}
use Rattle.std.specs.Prelude.{nat_lt}
use Rattle.aas_outside_disk.proofs.Records.{sizes}
use Rattle.aas_outside_disk.proofs.memory_record.MemRecord.has_room_for_step.Goals as goal

pub returns : goal.returns
returns c =
    let s = sizes c.self.inside c.args.self.now c.self.view_is c.self.invariant in
    let count : c.len.result ≡ length c.args.self.now.steps =
    omega (arith, s.steps, c.len.ensures, c.self.inside.entries.ok.0) in
    ap (λ n. nat_lt n 4096) count
