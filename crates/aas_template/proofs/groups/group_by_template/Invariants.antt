use Rattle.std.proofs.Common.{◌≡◌, take}
use Rattle.aas_template.specs.Walk.{gathered, groups_of}
use Rattle.aas_template.proofs.groups.group_by_template.Given as goal

abbrev pub invariant-loop-instance : goal.invariant-loop-instance
invariant-loop-instance l = gathered l.groups.items ≡ groups_of l.templates (take l.instance-index l.instances)
