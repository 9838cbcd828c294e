use Rattle.std.proofs.Common.{◌≡◌, arith, length}
use Rattle.std.proofs.lemmas.Bool.Decides.{nat_tests}
use Rattle.aas_outside_disk.proofs.Records.{sizes}
use Rattle.aas_outside_disk.proofs.memory_record.MemRecord.has_room_for_bytes.Goals as goal

pub returns : goal.returns
returns c =
    let s = sizes c.self.inside c.args.self.now c.self.view_is c.self.invariant in
    let count : c.len.result ≡ length c.self.inside.bytes.items =
    omega (arith, c.len.ensures, c.self.inside.bytes.ok.0) in
    let within = c.self.invariant.within in
    grind (arith, nat_tests, s.bytes, s.capacity, count, within)
