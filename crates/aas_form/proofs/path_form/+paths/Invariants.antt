use Rattle.std.proofs.Common.{Bool}
use Rattle.aas_constraints.specs.Walk.{above_of}
use Rattle.aas_form.proofs.Places.{Reached}
use Rattle.aas_form.proofs.path_form.+paths.Given as goal

abbrev pub invariant-add_paths_below-loop-place : goal.invariant-add_paths_below-loop-place
invariant-add_paths_below-loop-place l = (t : Bool) → Reached l.initial.paths l.paths l.path.steps t (above_of l.above) l.kid-items l.place
