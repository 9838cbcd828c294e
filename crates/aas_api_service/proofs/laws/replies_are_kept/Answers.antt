use Rattle.std.proofs.Common.{◌≡◌, ℕ, None, Some, refl, arith, ◌≢◌}
use Rattle.std.specs.List.{last_or}
use Rattle.aas_command.specs.Commands.{tagged_of}
use Rattle.aas_command.specs.declared.command.Command.{Command}
use Rattle.aas_command.specs.declared.command.Command.TheVariants.{CreateShell, CreateSubmodel, CreateConcept}
use Rattle.aas_command.specs.declared.command.Command.TheVariants.{AddReference, InsertElement}
use Rattle.aas_api_service.specs.Turns.{success_reply}
use Rattle.aas_api_service.proofs.laws.replies_are_kept.Goals as goal

other_status : (n : ℕ) → n ≡ 204 → n ≢ 201
other_status n is = λ other. grind (arith)

is_last : (c : Command) → (success_reply c).status ≡ 201
    → last_or None (tagged_of c).fields ≡ Some (success_reply c).body
is_last (CreateShell d) is = refl
is_last (CreateSubmodel d) is = refl
is_last (CreateConcept d) is = refl
is_last (AddReference id r) is = refl
is_last (InsertElement id p e) is = refl
is_last c is = absurd (other_status 204 refl is)

pub returns : goal.returns
returns c = is_last
