use Rattle.std.proofs.Common.{◌∙◌, ap}
use Rattle.aas_outside_disk.specs.MemFile.{MemFileState, left_by}
use Rattle.aas_outside_disk.proofs.Follows.{left_is}
use Rattle.aas_outside_disk.proofs.memory_disk.MemDisk.left.Goals as goal

pub returns : goal.returns
returns c =
    c.left.ensures ∙ ap (λ (f : MemFileState). left_by c.args.choice f) c.file.ensures
    ∙ left_is c.self.inside c.args.self.now c.self.view_is c.self.invariant c.args.choice c.args.part
