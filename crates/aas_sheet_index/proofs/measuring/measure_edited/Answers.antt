use Rattle.std.proofs.Common.{◌≤◌, ◌∙◌, arith}
use Rattle.aas_sheet_index.proofs.Above.{new_levels, new_measured, new_others, new_sized}
use Rattle.aas_sheet_index.proofs.measuring.measure_edited.Goals as goal

pub measure_above-requires-clause-levels : goal.measure_above-requires-clause-levels
measure_above-requires-clause-levels c =
    let a = c.args in
    new_levels a.sides.now c.measure.new.sides a.first a.known
    c.requires.ordered c.requires.within c.measure.ensures c.requires.levels

pub measure_above-requires-clause-sized : goal.measure_above-requires-clause-sized
measure_above-requires-clause-sized c =
    let a = c.args in
    new_sized a.sides.now c.measure.new.sides a.first a.known c.requires.ordered c.requires.within c.measure.ensures

pub measure_above-requires-clause-others : goal.measure_above-requires-clause-others
measure_above-requires-clause-others c =
    let a = c.args in
    let more : a.level ≤ c.max-level.result = omega (arith, c.max-level.ensures) in
    new_others a.sides.now c.measure.new.sides a.first a.known
    c.requires.ordered c.requires.within c.measure.ensures a.end a.level
    c.max-level.result more c.requires.back c.requires.others

pub returns : goal.returns
returns c =
    let a = c.args in
    c.measure_above.ensures
    ∙ new_measured a.sides.now c.measure.new.sides a.first
    a.known c.requires.ordered c.requires.within c.measure.ensures
