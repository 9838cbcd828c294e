use Rattle.std.proofs.Common.{length, ap, arith}
use Rattle.aas_store.proofs.InPlace.{no_rank, ranked}
use Rattle.aas_store.proofs.reads.child_rank.Goals as goal

pub returns-then-place-kids : goal.returns-then-place-kids
returns-then-place-kids c =
    let long = ap length c.as_slice-kids.ensures in
    no_rank c.args.submodel.now.kids c.args.place (omega (arith, long, c.if-place-kids.true))

pub returns : goal.returns
returns c =
    let same = c.as_slice-kids.ensures in
    let long = ap length same in
    ranked c.behind_all.result c.args.submodel.now.kids c.args.place (omega (arith, long, c.if-place-kids.false)) c.requires (rw same at c.behind_all.ensures)
