use Rattle.std.proofs.Common.{arith}
use Rattle.std.proofs.lemmas.Grind.{common_steps}
use Rattle.std.specs.Prelude.{is_ok}
use Rattle.aas_outside_disk.proofs.DiskCalls.{sync_durable, sync_images}
use Rattle.aas_outside_disk.proofs.memory_disk.MemDiskDisk.sync.Goals as goal

pub returns-clause-durable : goal.returns-clause-durable
returns-clause-durable c =
    sync_durable c.args.self.now c.try_sync.new.self c.args.part
    c.try_sync.ensures.called.base c.try_sync.result c.try_sync.ensures.called.steps

pub returns-clause-reads : goal.returns-clause-reads
returns-clause-reads c = record {
  seen = grind (arith, common_steps);
  images =
      sync_images c.args.self.now c.try_sync.new.self c.args.part c.try_sync.ensures.called.base
      (is_ok c.try_sync.result) c.try_sync.ensures.called.steps;
  past = grind (arith, common_steps);
}
