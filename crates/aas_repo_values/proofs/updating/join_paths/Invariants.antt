use Rattle.std.proofs.Common.{◌≡◌, ◌++◌, take}
use Rattle.aas_repo_values.proofs.updating.join_paths.Given as goal

abbrev pub invariant-loop-step : goal.invariant-loop-step
invariant-loop-step l = l.steps ≡ l.path.steps ++ take l.step-index l.below.steps
