use Rattle.std.proofs.Common.{◌<◌, ℕ, List, drop, take}
use Rattle.std.specs.List.{replace_range}
use Rattle.aas_sheet_index.specs.Index.{AreKeyed, IsKeyed}
use Rattle.aas_sheet_index.specs.Sides.{HaveLevels}
use Rattle.aas_sheet_index.specs.declared.side.Side.{Side}
use Rattle.aas_sheet_index.proofs.Settled.{all_more, all_spliced, column, waiting_more}
use Rattle.aas_sheet_index.proofs.sides.Sides.replace.Goals as goal

pub settle-requires-clause-waiting : goal.settle-requires-clause-waiting
settle-requires-clause-waiting c =
    let t = c.self.inside in
    waiting_more t.sides c.args.more c.enlarge.new.sides c.len-count.result
    c.in_ok-added.added t.ranks.items c.enlarge.new.ranks.items
    c.len-count.ensures c.in_ok-added.ensures.sides c.self.invariant.index c.in_ok-added.ensures.ranks

pub invariant_of-self-2 : goal.invariant_of-self-2
invariant_of-self-2 c =
    let a = c.args in
    let ss : List Side = c.enlarge.new.sides in
    let count : ℕ = c.len-count.result in
    let level : Side → Type 0 = λ s. 0 < s.level in
    let deep : HaveLevels ss = all_more level c.self.inside.sides a.more
    ss c.in_ok-added.ensures.sides c.self.invariant.levels c.requires.levels in
    let keyed : AreKeyed ss = all_more IsKeyed c.self.inside.sides a.more
    ss c.in_ok-added.ensures.sides c.self.invariant.keyed c.requires.keyed in
    column (replace_range (take count ss) a.first a.end (drop count ss))
    c.settle.new.sides c.settle.new.ranks.items c.settle.ensures.value
    (all_spliced level ss a.first a.end count deep)
    (all_spliced IsKeyed ss a.first a.end count keyed) c.settle.ensures.index
