use Rattle.std.proofs.Common.{[], sym, ap}
use Rattle.aas_out.proofs.Adding.{adds_nothing, adds_same}
use Rattle.aas_answer.specs.Arrays.{array_end}
use Rattle.aas_answer.proofs.environments.end_array.Goals as goal

pub returns-else-array : goal.returns-else-array
returns-else-array g c =
    let t = g.O.Out.told c.args.out.now in
    adds_same c.args.array.state c.args.array.state t t [] (array_end c.args.array.any)
    (adds_nothing c.args.array.state t) (sym (ap array_end c.if-array.false))
