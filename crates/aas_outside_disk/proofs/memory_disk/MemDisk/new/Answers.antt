use Rattle.std.proofs.Common.{ap, ◌∙◌}
use Rattle.aas_outside_disk.specs.declared.part.Part.TheVariants.{Main, Spare, Selector}
use Rattle.aas_outside_disk.specs.MemFile.{MemFileState}
use Rattle.aas_outside_disk.specs.MemRecord.{MemRecordState}
use Rattle.aas_outside_disk.proofs.Follows.{new_follows, each_part}
use Rattle.aas_outside_disk.proofs.memory_disk.MemDisk.new.Goals as goal

pub invariant_of-result : goal.invariant_of-result
invariant_of-result c =
    let recorded = c.in_ok-new-4.field-0 in
    record {
      follows = each_part _
          (new_follows Main c.in_ok-new.field-0 recorded _ _ _ c.in_ok-new.ensures c.in_ok-new-4.ensures)
          (new_follows Spare c.in_ok-new-2.field-0 recorded _ _ _ c.in_ok-new-2.ensures c.in_ok-new-4.ensures)
          (new_follows Selector c.in_ok-new-3.field-0 recorded _ _ _ c.in_ok-new-3.ensures c.in_ok-new-4.ensures);
      capacities = each_part _
          (ap (λ (f : MemFileState). f.capacity) c.in_ok-new.ensures)
          (ap (λ (f : MemFileState). f.capacity) c.in_ok-new-2.ensures)
          (ap (λ (f : MemFileState). f.capacity) c.in_ok-new-3.ensures);
      record_capacity =
          ap (λ (r : MemRecordState). r.capacity) c.in_ok-new-4.ensures ∙ search Rattle.std.proofs.Common.rules;
    }
