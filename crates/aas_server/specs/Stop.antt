-- Why a command has no text for the console.
use Rattle.std.specs.Prelude.{⊤}
use Rattle.aas_command.specs.declared.refusal.Refusal.{Refusal}
use Rattle.aas_server.specs.declared.stop.Stop.{Stop}
use Rattle.aas_server.specs.declared.stop.Stop.TheVariants.{Refused, LinkFault}

-- P of the refusal, where it is one
abbrev pub IfRefused : Stop → (Refusal → Type 0) → Type 0
IfRefused (Refused refusal) P = P refusal
IfRefused LinkFault P = ⊤
