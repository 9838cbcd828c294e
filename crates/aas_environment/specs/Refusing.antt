-- For private clauses: why a document isn't taken for itself.
use Rattle.std.specs.Prelude.{◌≡◌, ◌==◌, false, ⊤}
use Rattle.aas_command.specs.declared.refusal.Refusal.{Refusal}
use Rattle.aas_command.specs.declared.refusal.Refusal.TheVariants.{Constraint, Lexical, TooMany}
use Rattle.aas_model.specs.declared.documents.Environment.{Environment}
use Rattle.aas_environment.specs.Imports.{Blames}
use Rattle.aas_environment.specs.declared.import_fault.ImportFault.{ImportFault}
use Rattle.aas_environment.specs.declared.import_fault.ImportFault.TheVariants.{Full}

abbrev pub IsOwn : Refusal → Type 0
IsOwn (Lexical path) = ⊤
IsOwn (Constraint fault) = (fault.number == 0) ≡ false
IsOwn TooMany = ⊤
IsOwn why = ⊥

-- a document is to blame, whether there is room or not
abbrev pub BlamesDocument : Environment → ImportFault → Type 0
BlamesDocument e Full = ⊥
BlamesDocument e fault = Blames e fault
