use Rattle.std.specs.Prelude.{length}
use Rattle.aas_real_ends.proofs.Images.{any_tears}
use Rattle.aas_real_ends.proofs.file_disk.FileDiskDisk.write_at.Goals as goal

pub returns-clause-images : goal.returns-clause-images
returns-clause-images g c time from to = any_tears c.args.part c.args.at (length c.args.bytes.now)
