use Rattle.std.proofs.Common.{◌≡◌, false, arith}
use Rattle.std.proofs.lemmas.Result.{on_ok_weaker}
use Rattle.aas_outside_disk.specs.Piece.{lies_in}
use Rattle.aas_outside_disk.proofs.Pieces.{fetched}
use Rattle.aas_outside_disk.proofs.read_ahead.ReadAhead.fetch.Goals as goal

pub returns-clause-after : goal.returns-clause-after
returns-clause-after g c =
    let D = g.D.Disk in
    let self = c.args.self.now in
    let out : lies_in self.piece c.args.part c.args.at c.args.count ≡ false =
    cc (c.get.ensures.found, c.is_some.ensures, c.if-is_some.false) in
    on_ok_weaker c.read.result
    (fetched (D.state self.disk).seen (D.state c.length.new.self).seen self.piece c.read.new.self c.args.part c.args.at c.args.count
    c.in_ok-length.field-0 c.min-most.result out (omega arith) (omega arith)
    (omega arith) c.in_ok-length.ensures.value c.length.ensures.reads.seen)
    c.read.ensures.value
