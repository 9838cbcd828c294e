use Rattle.std.proofs.Common.{◌≤◌, ap, length, arith, refl}
use Rattle.aas_outside_disk.specs.declared.crash.Crash.TheVariants.{New}
use Rattle.aas_outside_disk.specs.FileState.{wrote, after_write}
use Rattle.aas_outside_disk.specs.MemFile.{after_file_write}
use Rattle.aas_outside_disk.specs.MemFiles.{mem_file}
use Rattle.aas_outside_disk.proofs.Follows.{left_is, step_sound, write_follows}
use Rattle.aas_outside_disk.proofs.memory_disk.MemDisk.make_write.Goals as goal

pub write-requires-clause-within : goal.write-requires-clause-within
write-requires-clause-within c = omega (
  arith,
  c.requires,
  ap length (left_is c.self.inside c.args.self.now c.self.view_is c.self.invariant New c.args.part),
)

pub invariant_of-self : goal.invariant_of-self
invariant_of-self c =
    let at = c.args.at in
    let bytes = c.args.bytes.now in
    let within : at ≤ length (mem_file c.args.part c.self.inside.files).seen =
    omega (
      arith,
      c.requires,
      ap length (left_is c.self.inside c.args.self.now c.self.view_is c.self.invariant New c.args.part),
    ) in
    step_sound c.self.inside c.self.invariant c.args.part
    (wrote c.args.part at bytes) (after_file_write at bytes) (after_write at bytes)
    (λ f. refl) (λ f. refl) (λ part s. refl)
    (λ s. write_follows at bytes (mem_file c.args.part c.self.inside.files) s within)
    c.write.new.self c.write.ensures c.push_write.new.self c.push_write.ensures
