use Rattle.aas_outside_disk.specs.declared.part.Part.TheVariants.{Selector}
use Rattle.aas_journal.proofs.Changes.{reads_then_tears}
use Rattle.aas_journal.proofs.checkpoint.turn_selector.Goals as goal

pub returns-clause-images : goal.returns-clause-images
returns-clause-images g c =
    let reads = c.first_of_selector.ensures.reads in
    let writes = c.write_durably.ensures in
    reads_then_tears Selector reads.past reads.images writes.call.past 0 1 writes.images
