use Rattle.std.specs.Prelude.{length}
use Rattle.aas_outside_disk.specs.MemDisk.{is_made}
use Rattle.aas_outside_disk.proofs.DiskCalls.{write_images, write_seen}
use Rattle.aas_outside_disk.proofs.memory_disk.MemDiskDisk.write_at.Goals as goal

pub returns-clause-written : goal.returns-clause-written
returns-clause-written c =
    let made = is_made c.args.self.now c.args.at (length c.args.bytes.now) in
    write_seen c.args.self.now c.try_write.new.self c.args.part
    c.args.at c.args.bytes.now c.try_write.ensures.called.base
    c.try_write.result made c.try_write.ensures.made c.try_write.ensures.called.steps c.requires

pub returns-clause-images : goal.returns-clause-images
returns-clause-images c =
    let made = is_made c.args.self.now c.args.at (length c.args.bytes.now) in
    write_images c.args.self.now c.try_write.new.self c.args.part
    c.args.at c.args.bytes.now c.try_write.ensures.called.base
    made c.try_write.ensures.called.steps
