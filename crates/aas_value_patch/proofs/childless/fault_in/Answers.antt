use Rattle.std.proofs.Common.{ap, ◌∙◌}
use Rattle.std.specs.Option.{option_copied}
use Rattle.aas_constraints.specs.Own.{payload_fault}
use Rattle.aas_value_patch.proofs.OneRow.{fault_of_row}
use Rattle.aas_value_patch.proofs.childless.fault_in.Goals as goal

pub returns-in-Some : goal.returns-in-Some
returns-in-Some c = λ x is. c.payload_fault.ensures
    ∙ ap payload_fault
    (fault_of_row c.args.patch.now.rows x x _ c.in-Some.row.now is c.get.ensures (ap option_copied c.in-Some.is))
