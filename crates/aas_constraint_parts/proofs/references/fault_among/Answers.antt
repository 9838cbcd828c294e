use Rattle.std.proofs.Common.{flat_map, arith}
use Rattle.aas_constraint_parts.specs.References.{references_fault}
use Rattle.aas_constraint_parts.proofs.Least.{one_more_fault, no_more_fault}
use Rattle.aas_constraint_parts.proofs.references.fault_among.Goals as goal

pub loop-item-preserved : goal.loop-item-preserved
loop-item-preserved g c =
    let refs = g.T.HoldsReferences.references in
    one_more_fault refs c.args.items.now c.loop-item.item-index c.item-item.result (references_fault (flat_map refs c.args.items.now)) c.loop-item.fault c.references_fault.result c.least-fault.result
    c.loop-item-test.true c.item-item.is c.references_fault.ensures c.least-fault.ensures c.loop-item.invariant

pub returns : goal.returns
returns g c =
    let refs = g.T.HoldsReferences.references in
    no_more_fault refs c.args.items.now c.loop-item.item-index (references_fault (flat_map refs c.args.items.now)) c.loop-item.fault (omega arith) c.loop-item.invariant
