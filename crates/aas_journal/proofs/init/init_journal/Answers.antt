use Rattle.std.proofs.Common.{◌≡◌, ◌∙◌, true, rules}
use Rattle.aas_outside.specs.declared.link.Failed.{Failed}
use Rattle.aas_outside_disk.specs.declared.part.Part.TheVariants.{Main}
use Rattle.aas_journal.specs.Causes.{AreEmpty}
use Rattle.aas_journal.proofs.Changes.{reads_then_tears}
use Rattle.aas_journal.proofs.Disks.{known}
use Rattle.aas_journal.proofs.Initial.{made_images, where_told}
use Rattle.aas_journal.proofs.init.init_journal.Goals as goal

pub returns-clause-images : goal.returns-clause-images
returns-clause-images g c =
    let D = g.D.Disk in
    let disk = c.args.disk.now in
    let mid = c.are_empty.new.disk in
    let new = c.write_durably.new.disk in
    let empty : c.in_ok-are_empty.field-0 ≡ true = search rules in
    where_told (D.state disk).seen _ (λ files told_is.
    let is_empty : AreEmpty files = (known files (D.state disk).seen _ told_is c.in_ok-are_empty.ensures.value).0 empty in
    made_images (D.state disk).moment (D.state mid).moment (D.state new).moment (D.state disk).left_at (D.state mid).left_at
    (D.state new).left_at c.are_empty.ensures.reads.past.later c.are_empty.ensures.reads.images
    c.write_durably.ensures.call.past.later c.write_durably.ensures.images Failed files
    (D.state mid).seen (D.state new).seen is_empty (c.are_empty.ensures.reads.seen ∙ told_is)
    c.in_ok-write_durably.ensures.written c.in_ok-write_durably.ensures.durable)

pub returns-in_err-write_durably-clause-main_alone : goal.returns-in_err-write_durably-clause-main_alone
returns-in_err-write_durably-clause-main_alone g c =
    let reads = c.are_empty.ensures.reads in
    let writes = c.write_durably.ensures in
    reads_then_tears Main reads.past reads.images writes.call.past 0 9 writes.images

pub returns-clause-main_alone : goal.returns-clause-main_alone
returns-clause-main_alone g c =
    let reads = c.are_empty.ensures.reads in
    let writes = c.write_durably.ensures in
    reads_then_tears Main reads.past reads.images writes.call.past 0 9 writes.images
