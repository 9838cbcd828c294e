use Rattle.std.proofs.Common.{[], ◌∷◌, ◌+◌, refl}
use Rattle.std.specs.Str.{encode_utf8_all}
use Rattle.aas_record.proofs.BehindPaths.{fault_below, whole_below}
use Rattle.aas_command.specs.Commands.{IsWellFormed}
use Rattle.aas_record.specs.FieldTypes.{child, identifier, place}
use Rattle.aas_record.proofs.Payloads.{read_three, wrong_before, wrong_third}
use Rattle.aas_record.proofs.elements.insertion.Goals as goal

pub two_before-requires-clause-types : goal.two_before-requires-clause-types
two_before-requires-clause-types c at = wrong_before _ _ 13 at place (child ∷ []) _ (λ _ _ has. has) c.requires refl

pub returns : goal.returns
unfolding IsWellFormed
returns c = let two = c.in_ok-submodel.ensures in let last = c.in_ok-element.ensures in
    read_three _ _ 13 _ two two.second.whole last.begins last.type.0 c.requires refl
    (two.second.whole, whole_below _ _ _ c.level.ensures.below last.whole)

pub returns-in_err-element : goal.returns-in_err-element
returns-in_err-element c = let two = c.in_ok-submodel.ensures in
    wrong_third _ _ _ 13 _ _ c.requires refl c.from_residual-in_err-element.ensures _ _ _ _ _
    identifier place child refl two.first.begins two.first.type two.second.begins two.second.type refl
    (fault_below (encode_utf8_all c.in_ok-submodel.submodel) c.in_ok-submodel.last.now c.in_ok-submodel.place.path.steps
    (c.level.result + 1) _ c.in_err-element.field-0.0 c.in_err-element.ensures two.second.whole c.level.ensures.below)
