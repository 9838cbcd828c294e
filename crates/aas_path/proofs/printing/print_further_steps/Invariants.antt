use Rattle.std.proofs.Common.{◌≡◌, ◌++◌, take}
use Rattle.std.specs.List.{flat_map}
use Rattle.std.specs.Str.{IsUtf8}
use Rattle.aas_path.specs.PathText.{step_text}
use Rattle.aas_path.proofs.printing.print_further_steps.Given as goal

abbrev pub invariant-loop-step : goal.invariant-loop-step
invariant-loop-step l = (l.out.items ≡ l.initial.out.items ++ flat_map step_text (take l.step-index l.steps)) × IsUtf8 (flat_map step_text (take l.step-index l.steps))
