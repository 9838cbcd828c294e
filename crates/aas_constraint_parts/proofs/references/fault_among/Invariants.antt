use Rattle.std.proofs.Common.{◌≡◌, flat_map, drop}
use Rattle.aas_reference.specs.Faults.{least}
use Rattle.aas_constraint_parts.specs.References.{references_fault}
use Rattle.aas_constraint_parts.proofs.references.fault_among.Given as goal

abbrev pub invariant-loop-item : goal.invariant-loop-item
invariant-loop-item g l =
    references_fault (flat_map g.T.HoldsReferences.references l.items)
    ≡ least l.fault (references_fault (flat_map g.T.HoldsReferences.references (drop l.item-index l.items)))
