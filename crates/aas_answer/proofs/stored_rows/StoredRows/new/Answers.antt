use Rattle.std.proofs.Common.{arith}
use Rattle.aas_rows.proofs.Edited.{count_at}
use Rattle.aas_answer.proofs.stored_rows.StoredRows.new.Goals as goal

pub invariant_of-result : goal.invariant_of-result
invariant_of-result g c =
    let counted = c.element_count-count in
    omega (arith, counted.ensures, counted.type_inv, count_at (g.T.Table.kept c.args.table.now).kids 1)
