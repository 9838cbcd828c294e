use Rattle.std.proofs.Common.{◌≡◌, drop, flat_map, map}
use Rattle.aas_reference.specs.Rules.{first}
use Rattle.aas_template.specs.Differences.{compared, differences_among, list_differences, named_differences}
use Rattle.aas_template.specs.Walk.{elements}
use Rattle.aas_template.proofs.Walks.{left}
use Rattle.aas_template.proofs.walk.+compare.Given as goal

abbrev pub invariant-difference_from_one-loop-place : goal.invariant-difference_from_one-loop-place
invariant-difference_from_one-loop-place l =
    first (list_differences (compared l.wanted) 0 l.instance-items) ≡ first (list_differences (compared l.wanted) l.place (drop l.place l.instance-items))

abbrev pub invariant-difference_among-loop-place : goal.invariant-difference_among-loop-place
invariant-difference_among-loop-place l =
    first (differences_among (map compared l.templates) l.fn.instance_kids) ≡ left l.templates l.fn.instance_kids (drop l.place l.templates)

abbrev pub invariant-difference_of_group-loop-instance : goal.invariant-difference_of_group-loop-instance
invariant-difference_of_group-loop-instance l =
    first (flat_map (named_differences (compared l.template)) (elements l.group))
    ≡ first (flat_map (named_differences (compared l.template)) (drop l.instance-index (elements l.group)))
