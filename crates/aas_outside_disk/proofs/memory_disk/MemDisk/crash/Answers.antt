use Rattle.aas_outside_disk.proofs.Crashes.{crash_left}
use Rattle.aas_outside_disk.proofs.memory_disk.MemDisk.crash.Goals as goal

pub returns-clause-image : goal.returns-clause-image
returns-clause-image c = crash_left c.args.choice c.args.self.now
