use Rattle.std.proofs.Common.{[], ◌∷◌, refl}
use Rattle.aas_command.specs.Commands.{IsWellFormed}
use Rattle.aas_record.specs.FieldTypes.{identifier, place, value}
use Rattle.aas_record.proofs.Payloads.{read_three, wrong_before, wrong_third}
use Rattle.aas_record.proofs.elements.update.Goals as goal

pub two_before-requires-clause-types : goal.two_before-requires-clause-types
two_before-requires-clause-types c at = wrong_before _ _ 16 at place (value ∷ []) _ (λ _ _ has. has) c.requires refl

pub returns : goal.returns
unfolding IsWellFormed
returns c = let two = c.in_ok-submodel.ensures in let last = c.in_ok-value.ensures in
    read_three _ _ 16 _ two two.second.whole last.begins last.type.0 c.requires refl (two.second.whole, last.whole)

pub returns-in_err-value : goal.returns-in_err-value
returns-in_err-value c = let two = c.in_ok-submodel.ensures in
    wrong_third _ _ _ 16 _ _ c.requires refl c.from_residual-in_err-value.ensures _ _ _ _ _
    identifier place value refl two.first.begins two.first.type two.second.begins two.second.type refl
    c.in_err-value.ensures
