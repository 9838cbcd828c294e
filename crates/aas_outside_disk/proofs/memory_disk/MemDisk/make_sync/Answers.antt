use Rattle.std.proofs.Common.{refl}
use Rattle.aas_outside_disk.specs.FileState.{FileState, synced, settled}
use Rattle.aas_outside_disk.specs.MemFile.{after_file_sync}
use Rattle.aas_outside_disk.specs.MemFiles.{mem_file}
use Rattle.aas_outside_disk.proofs.Follows.{step_sound, sync_follows}
use Rattle.aas_outside_disk.proofs.memory_disk.MemDisk.make_sync.Goals as goal

pub invariant_of-self : goal.invariant_of-self
invariant_of-self c =
    step_sound c.self.inside c.self.invariant c.args.part
    (synced c.args.part) after_file_sync (λ (s : FileState). settled s.seen)
    (λ f. refl) (λ f. refl) (λ part s. refl)
    (λ s. sync_follows (mem_file c.args.part c.self.inside.files) s) c.sync.new.self
    c.sync.ensures c.push_sync.new.self c.push_sync.ensures
