use Rattle.aas_store.proofs.Paths.{no_element}
use Rattle.aas_store.proofs.reads.find_row.Goals as goal

pub unreachable-requires : goal.unreachable-requires
unreachable-requires c =
    let none = no_element c.args.submodel.now c.args.path.now.steps c.in-None.ensures in
    let there = c.in_ok-element.ensures in
    absurd (cc)
