use Rattle.std.proofs.Common.{[], ◌∷◌, refl}
use Rattle.aas_command.specs.Commands.{IsWellFormed}
use Rattle.aas_record.specs.FieldTypes.{identifier}
use Rattle.aas_record.proofs.Payloads.{read_two, wrong}
use Rattle.aas_record.proofs.references.removal.Goals as goal

pub two_fields-requires-clause-types : goal.two_fields-requires-clause-types
two_fields-requires-clause-types c at = wrong _ _ 12 at (identifier ∷ identifier ∷ []) c.requires refl

pub returns : goal.returns
unfolding IsWellFormed
returns c = let two = c.in_ok-shell.ensures in read_two _ _ 12 _ two c.requires refl refl tt two.second.type
