use Rattle.std.proofs.Common.{◌<◌, ℕ, List, drop, take}
use Rattle.std.specs.List.{replace_range}
use Rattle.aas_sheet_index.specs.Index.{IsKeyed}
use Rattle.aas_sheet_index.specs.declared.side.Side.{Side}
use Rattle.aas_sheet_index.proofs.Settled.{all_spliced, column, waiting_none}
use Rattle.aas_sheet_index.proofs.sides.Sides.remove.Goals as goal

pub settle-requires-clause-waiting : goal.settle-requires-clause-waiting
settle-requires-clause-waiting c =
    waiting_none c.self.inside.sides c.len-count.result
    c.self.inside.ranks.items c.len-count.ensures c.self.invariant.index

pub invariant_of-self : goal.invariant_of-self
invariant_of-self c =
    let a = c.args in
    let ss : List Side = c.self.inside.sides in
    let count : ℕ = c.len-count.result in
    let level : Side → Type 0 = λ s. 0 < s.level in
    column (replace_range (take count ss) a.first a.end (drop count ss))
    c.settle.new.sides c.settle.new.ranks.items c.settle.ensures.value
    (all_spliced level ss a.first a.end count c.self.invariant.levels)
    (all_spliced IsKeyed ss a.first a.end count c.self.invariant.keyed) c.settle.ensures.index
