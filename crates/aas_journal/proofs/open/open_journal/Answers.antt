use Rattle.std.proofs.Common.{◌∙◌, ◌<◌, length, sym, subst}
use Rattle.aas_outside_disk.specs.Files.{file}
use Rattle.aas_outside_disk.specs.declared.part.Part.{Part}
use Rattle.aas_journal.specs.Bank.{chosen_file}
use Rattle.aas_journal.proofs.Disks.{known}
use Rattle.aas_journal.proofs.Gates.{undamaged}
use Rattle.aas_journal.proofs.Initial.{where_told}
use Rattle.aas_journal.proofs.Opening.{closed_behind, closed_within, damaged_fails, image_fails}
use Rattle.aas_journal.proofs.open.open_journal.Goals as goal

pub invariant_of-result : goal.invariant_of-result
invariant_of-result g c =
    let D = g.D.Disk in
    let made = c.in-Ok.ensures in
    record {
      within = λ files told.
          let found = known files (D.state c.args.disk).seen _ (sym made.reads.only.seen ∙ told) made.found in
          subst (λ (part : Part). c.in-Ok.end.gate < length (file part files))
          (sym found.0) (closed_within (chosen_file files) c.in-Ok.end.gate found.1);
    }

pub returns-in-Ok-clause-image : goal.returns-in-Ok-clause-image
returns-in-Ok-clause-image g c =
    let D = g.D.Disk in
    let made = c.in-Ok.ensures in
    where_told (D.state c.args.disk).seen _ (λ files told payloads image. record {
      files = files;
      told = made.reads.only.seen ∙ told;
      image = image;
      gate_is =
          closed_behind (chosen_file files) c.in-Ok.end.gate payloads
          (known files (D.state c.args.disk).seen _ told made.found).1 image;
      part_is = (known files (D.state c.args.disk).seen _ told made.found).0;
      selectors = known files (D.state c.args.disk).seen _ told made.durable.0;
    })

pub returns-in-Ok-clause-damaged : goal.returns-in-Ok-clause-damaged
returns-in-Ok-clause-damaged g c =
    let D = g.D.Disk in
    where_told (D.state c.args.disk).seen _ (λ files told at.
    let closed = (known files (D.state c.args.disk).seen _ told c.in-Ok.ensures.found).1 in
    undamaged (chosen_file files) closed.payloads at closed.image)

pub returns-in-Err-clause-image : goal.returns-in-Err-clause-image
returns-in-Err-clause-image g c =
    let D = g.D.Disk in
    where_told (D.state c.args.disk).seen _ (λ files told payloads image.
    image_fails (chosen_file files) payloads c.in-Err.fault image
    (known files (D.state c.args.disk).seen _ told c.in-Err.ensures.fault))

pub returns-in-Err-clause-damaged : goal.returns-in-Err-clause-damaged
returns-in-Err-clause-damaged g c =
    let D = g.D.Disk in
    where_told (D.state c.args.disk).seen _ (λ files told at damaged.
    damaged_fails (chosen_file files) at c.in-Err.fault damaged
    (known files (D.state c.args.disk).seen _ told c.in-Err.ensures.fault))
