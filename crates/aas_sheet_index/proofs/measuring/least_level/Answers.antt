use Rattle.std.proofs.Common.{◌+◌, ◌-◌, ◌<◌, List, drop, length, arith}
use Rattle.aas_lemmas.proofs.Lists.{drop_at}
use Rattle.aas_sheet_index.specs.declared.side.Side.{Side}
use Rattle.aas_sheet_index.proofs.Above.{below_first}
use Rattle.aas_sheet_index.proofs.measuring.least_level.Goals as goal

pub returns-then-known-first : goal.returns-then-known-first
returns-then-known-first c =
    let ss : List Side = c.args.sides.now in
    let first = c.args.first in
    let s : Side = c.index-sides-first.result in
    let inside : first < length ss = omega (arith, c.requires.ordered, c.requires.within, c.if-first-known.false) in
    below_first (drop first ss) (c.args.known - first) s
    (drop (first + 1) ss) (drop_at ss first s inside c.index-sides-first.is)
    c.requires.sized c.if-known-first.true
