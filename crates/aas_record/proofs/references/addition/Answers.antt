use Rattle.std.proofs.Common.{[], ◌∷◌, refl}
use Rattle.aas_command.specs.Commands.{IsWellFormed}
use Rattle.aas_record.specs.FieldTypes.{identifier, reference}
use Rattle.aas_record.proofs.Payloads.{read_two, wrong}
use Rattle.aas_record.proofs.references.addition.Goals as goal

pub two_fields-requires-clause-types : goal.two_fields-requires-clause-types
two_fields-requires-clause-types c at = wrong _ _ 11 at (identifier ∷ reference ∷ []) c.requires refl

pub returns : goal.returns
unfolding IsWellFormed
returns c =
    let two = c.in_ok-shell.ensures in
    read_two _ _ 11 _ two c.requires refl refl two.second.whole two.second.type.0
