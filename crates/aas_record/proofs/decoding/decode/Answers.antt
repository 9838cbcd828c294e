use Rattle.std.proofs.Common.{ap, refl, subst, ℕ, [], ◌∷◌, arith}
use Rattle.std.specs.List.{IsFirstAndRest}
use Rattle.std.proofs.lemmas.Bool.Decides.{nat_tests}
use Rattle.aas_command.specs.Commands.{IsWellFormed}
use Rattle.aas_record.specs.FieldTypes.{asset_information, concept, environment, identifier, shell, submodel, types_of}
use Rattle.aas_record.proofs.Payloads.{no_row, nothing, read_one, read_two, wrong, wrong_one}
use Rattle.aas_record.proofs.decoding.decode.Goals as goal

pub returns-in_default : goal.returns-in_default
returns-in_default c = nothing _ c.in_default.ensures.cases

pub returns-in_default-tag : goal.returns-in_default-tag
returns-in_default-tag c = no_row _ _ _ c.in-Some.ensures.cases (grind (arith, nat_tests))

-- ---- what is read

pub returns-in_ok-last_field-in-1 : goal.returns-in_ok-last_field-in-1
unfolding IsWellFormed
returns-in_ok-last_field-in-1 c =
    let f = c.in_ok-last_field-in-1.ensures in
    read_one _ _ _ _ 1 _ c.in-Some.ensures.cases c.in-1.is refl f.whole f.begins f.type.0

pub returns-in_ok-last_field-in-2 : goal.returns-in_ok-last_field-in-2
unfolding IsWellFormed
returns-in_ok-last_field-in-2 c =
    let f = c.in_ok-last_field-in-2.ensures in
    read_one _ _ _ _ 2 _ c.in-Some.ensures.cases c.in-2.is refl f.whole f.begins f.type.0

pub returns-in_ok-last_field-in-3 : goal.returns-in_ok-last_field-in-3
unfolding IsWellFormed
returns-in_ok-last_field-in-3 c =
    let f = c.in_ok-last_field-in-3.ensures in
    read_one _ _ _ _ 3 _ c.in-Some.ensures.cases c.in-3.is refl f.whole f.begins f.type.0

pub returns-in_ok-last_field-in-4 : goal.returns-in_ok-last_field-in-4
unfolding IsWellFormed
returns-in_ok-last_field-in-4 c =
    let f = c.in_ok-last_field-in-4.ensures in
    read_one _ _ _ _ 4 _ c.in-Some.ensures.cases c.in-4.is refl f.whole f.begins f.type.0

pub returns-in_ok-last_field-in-5 : goal.returns-in_ok-last_field-in-5
unfolding IsWellFormed
returns-in_ok-last_field-in-5 c =
    let f = c.in_ok-last_field-in-5.ensures in
    read_one _ _ _ _ 5 _ c.in-Some.ensures.cases c.in-5.is refl f.whole f.begins f.type.0

pub returns-in_ok-last_field-in-6 : goal.returns-in_ok-last_field-in-6
unfolding IsWellFormed
returns-in_ok-last_field-in-6 c =
    let f = c.in_ok-last_field-in-6.ensures in
    read_one _ _ _ _ 6 _ c.in-Some.ensures.cases c.in-6.is refl f.whole f.begins f.type.0

pub returns-in_ok-last_field-in-7 : goal.returns-in_ok-last_field-in-7
unfolding IsWellFormed
returns-in_ok-last_field-in-7 c =
    let f = c.in_ok-last_field-in-7.ensures in
    read_one _ _ _ _ 7 _ c.in-Some.ensures.cases c.in-7.is refl f.whole f.begins f.type

pub returns-in_ok-last_field-in-8 : goal.returns-in_ok-last_field-in-8
unfolding IsWellFormed
returns-in_ok-last_field-in-8 c =
    let f = c.in_ok-last_field-in-8.ensures in
    read_one _ _ _ _ 8 _ c.in-Some.ensures.cases c.in-8.is refl f.whole f.begins f.type

pub returns-in_ok-last_field-in-9 : goal.returns-in_ok-last_field-in-9
unfolding IsWellFormed
returns-in_ok-last_field-in-9 c =
    let f = c.in_ok-last_field-in-9.ensures in
    read_one _ _ _ _ 9 _ c.in-Some.ensures.cases c.in-9.is refl f.whole f.begins f.type

pub returns-in_ok-shell-in-10 : goal.returns-in_ok-shell-in-10
unfolding IsWellFormed
returns-in_ok-shell-in-10 c = let two = c.in_ok-shell-in-10.ensures in
    read_two _ _ 10 _ two c.in-Some.ensures.cases c.in-10.is refl two.second.whole two.second.type.0

pub returns-in_ok-last_tree-in-17 : goal.returns-in_ok-last_tree-in-17
unfolding IsWellFormed
returns-in_ok-last_tree-in-17 c =
    let f = c.in_ok-last_tree-in-17.ensures in
    read_one _ _ _ _ 17 _ c.in-Some.ensures.cases c.in-17.is refl f.whole f.begins f.type.0

-- ---- what goes wrong

pub returns-in_err-last_field-in-1 : goal.returns-in_err-last_field-in-1
returns-in_err-last_field-in-1 c =
    wrong_one _ _ _ 1 _ _ c.in-Some.ensures.cases c.in-1.is
    c.from_residual.ensures shell refl c.in_err-last_field-in-1.ensures

pub returns-in_err-last_field-in-2 : goal.returns-in_err-last_field-in-2
returns-in_err-last_field-in-2 c =
    wrong_one _ _ _ 2 _ _ c.in-Some.ensures.cases c.in-2.is
    c.from_residual-in_err-last_field-in-2.ensures submodel refl c.in_err-last_field-in-2.ensures

pub returns-in_err-last_field-in-3 : goal.returns-in_err-last_field-in-3
returns-in_err-last_field-in-3 c =
    wrong_one _ _ _ 3 _ _ c.in-Some.ensures.cases c.in-3.is
    c.from_residual-in_err-last_field-in-3.ensures concept refl c.in_err-last_field-in-3.ensures

pub returns-in_err-last_field-in-4 : goal.returns-in_err-last_field-in-4
returns-in_err-last_field-in-4 c =
    wrong_one _ _ _ 4 _ _ c.in-Some.ensures.cases c.in-4.is
    c.from_residual-in_err-last_field-in-4.ensures shell refl c.in_err-last_field-in-4.ensures

pub returns-in_err-last_field-in-5 : goal.returns-in_err-last_field-in-5
returns-in_err-last_field-in-5 c =
    wrong_one _ _ _ 5 _ _ c.in-Some.ensures.cases c.in-5.is
    c.from_residual-in_err-last_field-in-5.ensures submodel refl c.in_err-last_field-in-5.ensures

pub returns-in_err-last_field-in-6 : goal.returns-in_err-last_field-in-6
returns-in_err-last_field-in-6 c =
    wrong_one _ _ _ 6 _ _ c.in-Some.ensures.cases c.in-6.is
    c.from_residual-in_err-last_field-in-6.ensures concept refl c.in_err-last_field-in-6.ensures

pub returns-in_err-last_field-in-7 : goal.returns-in_err-last_field-in-7
returns-in_err-last_field-in-7 c =
    wrong_one _ _ _ 7 _ _ c.in-Some.ensures.cases c.in-7.is
    c.from_residual-in_err-last_field-in-7.ensures identifier refl c.in_err-last_field-in-7.ensures

pub returns-in_err-last_field-in-8 : goal.returns-in_err-last_field-in-8
returns-in_err-last_field-in-8 c =
    wrong_one _ _ _ 8 _ _ c.in-Some.ensures.cases c.in-8.is
    c.from_residual-in_err-last_field-in-8.ensures identifier refl c.in_err-last_field-in-8.ensures

pub returns-in_err-last_field-in-9 : goal.returns-in_err-last_field-in-9
returns-in_err-last_field-in-9 c =
    wrong_one _ _ _ 9 _ _ c.in-Some.ensures.cases c.in-9.is
    c.from_residual-in_err-last_field-in-9.ensures identifier refl c.in_err-last_field-in-9.ensures

pub two_fields-requires-clause-types : goal.two_fields-requires-clause-types
two_fields-requires-clause-types c at =
    wrong _ _ _ at (identifier ∷ asset_information ∷ []) c.in-Some.ensures.cases (ap types_of c.in-10.is)

pub returns-in_err-last_tree-in-17 : goal.returns-in_err-last_tree-in-17
returns-in_err-last_tree-in-17 c =
    wrong_one _ _ _ 17 _ _ c.in-Some.ensures.cases c.in-17.is
    c.from_residual-in_err-last_tree-in-17.ensures environment refl c.in_err-last_tree-in-17.ensures

-- ---- the commands on references and on elements

pub addition-requires : goal.addition-requires
addition-requires c =
    subst (λ (t : ℕ). IsFirstAndRest c.args.payload.now t c.in-Some.fields.now) c.in-11.is c.in-Some.ensures.cases

pub removal-requires : goal.removal-requires
removal-requires c =
    subst (λ (t : ℕ). IsFirstAndRest c.args.payload.now t c.in-Some.fields.now) c.in-12.is c.in-Some.ensures.cases

pub insertion-requires : goal.insertion-requires
insertion-requires c =
    subst (λ (t : ℕ). IsFirstAndRest c.args.payload.now t c.in-Some.fields.now) c.in-13.is c.in-Some.ensures.cases

pub replacement-requires : goal.replacement-requires
replacement-requires c =
    subst (λ (t : ℕ). IsFirstAndRest c.args.payload.now t c.in-Some.fields.now) c.in-14.is c.in-Some.ensures.cases

pub deletion-requires : goal.deletion-requires
deletion-requires c =
    subst (λ (t : ℕ). IsFirstAndRest c.args.payload.now t c.in-Some.fields.now) c.in-15.is c.in-Some.ensures.cases

pub update-requires : goal.update-requires
update-requires c =
    subst (λ (t : ℕ). IsFirstAndRest c.args.payload.now t c.in-Some.fields.now) c.in-16.is c.in-Some.ensures.cases
