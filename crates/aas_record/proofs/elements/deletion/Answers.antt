use Rattle.std.proofs.Common.{[], ◌∷◌, refl}
use Rattle.aas_command.specs.Commands.{IsWellFormed}
use Rattle.aas_command.proofs.PathTexts.{is_place, path_text_utf8}
use Rattle.aas_record.specs.FieldTypes.{identifier, path}
use Rattle.aas_record.proofs.Payloads.{read_two, wrong}
use Rattle.aas_record.proofs.elements.deletion.Goals as goal

pub two_fields-requires-clause-types : goal.two_fields-requires-clause-types
two_fields-requires-clause-types c at = wrong _ _ 15 at (identifier ∷ path ∷ []) c.requires refl

pub returns : goal.returns
unfolding IsWellFormed
returns c =
    let two = c.in_ok-submodel.ensures in
    read_two _ _ 15 _ two c.requires refl refl two.second.whole (path_text_utf8 _ (is_place _ two.second.whole))
