use Rattle.std.proofs.Common.{sym, ap, arith, length}
use Rattle.std.proofs.lemmas.Option.{slice_get_past}
use Rattle.aas_rows.proofs.Edited.{count_at}
use Rattle.aas_rows.specs.Rows.{rows_of_all}
use Rattle.aas_store.proofs.Rowed.{no_row}
use Rattle.aas_store.proofs.rows.row_at.Goals as goal

pub returns-then-rank-ge-MOST : goal.returns-then-rank-ge-MOST
returns-then-rank-ge-MOST c =
    let few = count_at c.args.submodel.now.kids 1 in
    sym (slice_get_past (rows_of_all c.args.submodel.now.kids 1) c.args.rank (omega (arith, few, c.requires, c.if-rank-ge-MOST.true)))

pub returns-in-Err : goal.returns-in-Err
returns-in-Err c =
    let rest = c.in-Err.ensures in
    let same = ap (λ ks. length (rows_of_all ks 1)) c.as_slice.ensures in
    no_row c.args.submodel.now.kids c.args.rank c.in-Err.field-0 (omega (arith, rest, same))
