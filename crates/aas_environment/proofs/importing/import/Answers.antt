use Rattle.std.proofs.Common.{◌≡◌, Option, Some, None, refl, subst}
use Rattle.std.specs.Prelude.{MatchOption}
use Rattle.aas_json_spelling.specs.Reading.{reading}
use Rattle.aas_model.specs.declared.documents.Environment.{Environment}
use Rattle.aas_outside.proofs.Turns.{in_turn_none}
use Rattle.aas_repo.specs.Faulty.{first_faulty_in}
use Rattle.aas_repo.specs.Held.{machine_state}
use Rattle.aas_rule.specs.State.{repository_of}
use Rattle.aas_step.specs.Causes.{first_repeated_in}
use Rattle.aas_environment.specs.Refusing.{BlamesDocument}
use Rattle.aas_environment.specs.declared.import_fault.ImportFault.{ImportFault}
use Rattle.aas_environment.proofs.Blamed.{answered, comes_out, file_fault, spelled_once}
use Rattle.aas_environment.proofs.importing.import.Goals as goal

to_blame : (e : Environment) (found : Option ImportFault) (fault : ImportFault) → found ≡ Some fault
    → MatchOption found ((first_repeated_in e ≡ None) × (first_faulty_in e ≡ None)) (BlamesDocument e)
    → BlamesDocument e fault
to_blame e None fault is blames = absurd (cc)
to_blame e (Some own) fault is blames = let same : own ≡ fault = cc in subst (BlamesDocument e) same blames

none_to_blame : (e : Environment) (found : Option ImportFault) → found ≡ None
    → MatchOption found ((first_repeated_in e ≡ None) × (first_faulty_in e ≡ None)) (BlamesDocument e)
    → (first_repeated_in e ≡ None) × (first_faulty_in e ≡ None)
none_to_blame e None is blames = blames
none_to_blame e (Some own) is blames = absurd (cc)

pub returns-in-Ok-Some-clause-imports : goal.returns-in-Ok-Some-clause-imports
returns-in-Ok-Some-clause-imports g c = λ records settled.
    let K = g.K.Keeper in
    let state = (machine_state K.state c.args.repo.now).held in
    answered c.args.bytes.now c.in-Ok.environment c.in-Ok.ensures
    (K.state c.args.repo.now.keeper).room_behind K.stands_for (repository_of state records) state.moment state
    (record {
      documents = refl;
      kept = settled.told;
      in_turn = in_turn_none K.stands_for state.left_at state.moment records settled.alone;
    })
    c.in-Ok-Some.fault
    (to_blame c.in-Ok.environment _ c.in-Ok-Some.fault c.in-Ok-Some.field-0-is c.in-Ok-Some.ensures)

pub returns-in-Ok-Some-clause-file : goal.returns-in-Ok-Some-clause-file
returns-in-Ok-Some-clause-file g c =
    file_fault c.args.bytes.now c.in-Ok.environment c.in-Ok.ensures
    (λ other. spelled_once (reading c.args.bytes.now) c.in-Ok.environment other c.in-Ok.ensures)
    c.in-Ok-Some.fault
    (to_blame c.in-Ok.environment _ c.in-Ok-Some.fault c.in-Ok-Some.field-0-is c.in-Ok-Some.ensures)

pub returns-in-Ok-Some-clause-outcome : goal.returns-in-Ok-Some-clause-outcome
returns-in-Ok-Some-clause-outcome g c =
    let documents = c.args.repo.now.documents in
    comes_out c.args.bytes.now c.in-Ok.environment c.in-Ok.ensures
    (g.K.Keeper.state c.args.repo.now.keeper).has_room documents documents c.in-Ok-Some.fault
    (to_blame c.in-Ok.environment _ c.in-Ok-Some.fault c.in-Ok-Some.field-0-is c.in-Ok-Some.ensures)

pub returns-in-Err-StorageFull-clause-file : goal.returns-in-Err-StorageFull-clause-file
returns-in-Err-StorageFull-clause-file g c = λ other spelled.
    subst (λ e. (first_repeated_in e ≡ None) × (first_faulty_in e ≡ None))
    (spelled_once (reading c.args.bytes.now) c.in-Ok.environment other c.in-Ok.ensures spelled)
    (none_to_blame c.in-Ok.environment _ c.in-Ok-None.field-0-is c.in-Ok-None.ensures)
