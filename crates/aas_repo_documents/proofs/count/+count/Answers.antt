use Rattle.std.proofs.Common.{arith, refl}
use Rattle.aas_repo_documents.proofs.Counted.{count_out, counted}
use Rattle.aas_repo_documents.proofs.count.+count.Goals as goal

pub count_off-returns-then-left-eq0 : goal.count_off-returns-then-left-eq0
count_off-returns-then-left-eq0 t c =
    let out = count_out c.args.element.now _ refl in
    omega (arith, out, c.if-left-eq0.true)

pub count_off-returns : goal.count_off-returns
count_off-returns t c =
    counted c.count_off_all.result c.args.left _ _ c.if-left-eq0.false
    (count_out c.args.element.now c.as_slice.result.now c.as_slice.ensures) c.count_off_all.ensures
