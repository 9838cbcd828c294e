use Rattle.aas_template.specs.Index.{IsIndex}
use Rattle.aas_template.proofs.index.index.Given as goal

abbrev pub invariant-loop-place : goal.invariant-loop-place
invariant-loop-place l = IsIndex l.templates l.place l.places
