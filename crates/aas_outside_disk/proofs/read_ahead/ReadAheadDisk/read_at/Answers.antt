use Rattle.std.proofs.Common.{◌∙◌, length}
use Rattle.std.proofs.lemmas.Option.{IfSome_then}
use Rattle.aas_outside_disk.proofs.Pieces.{given}
use Rattle.aas_outside_disk.proofs.read_ahead.ReadAheadDisk.read_at.Goals as goal

pub returns-in-Some-clause-value : goal.returns-in-Some-clause-value
returns-in-Some-clause-value g c =
    let ahead = c.fetch.new.self in
    let seen = (g.D.Disk.state c.args.self.now.disk).seen in
    IfSome_then seen
    (given ahead.piece c.args.part c.args.at (length c.args.buf.now) c.in-Some.ensures.found seen
    (λ files told. ahead.read files (c.fetch.ensures.reads.seen ∙ told)))
    (λ files same. c.copy_from_slice.ensures.after ∙ c.in-Some.ensures.bytes ∙ same)
