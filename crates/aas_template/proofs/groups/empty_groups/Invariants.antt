use Rattle.std.proofs.Common.{◌≡◌, [], map, take}
use Rattle.aas_template.specs.Walk.{gathered}
use Rattle.aas_template.proofs.groups.empty_groups.Given as goal

abbrev pub invariant-loop-template : goal.invariant-loop-template
invariant-loop-template l = gathered l.groups.items ≡ map (λ t. []) (take l._template-index l.templates)
