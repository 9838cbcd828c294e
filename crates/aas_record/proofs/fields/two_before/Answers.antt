use Rattle.std.proofs.Common.{refl}
use Rattle.aas_record.specs.Reading.{IsFieldFault}
use Rattle.aas_record.proofs.Payloads.{handed_on, second_fault}
use Rattle.aas_record.proofs.fields.two_before.Goals as goal

pub returns-in_err-second : goal.returns-in_err-second
returns-in_err-second g c = let first = c.in_ok-id.ensures in
    handed_on _ _ _ _ c.from_residual-in_err-second.ensures
    (second_fault _ _ (IsFieldFault g.C.Content.has_type) c.requires.types _ _ _ _ c.requires.behind
    first.begins first.type refl c.in_err-second.ensures)
