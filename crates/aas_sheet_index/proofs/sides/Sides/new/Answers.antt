use Rattle.std.proofs.Common.{ℕ, List, sym, subst}
use Rattle.aas_model_text.specs.Many.{filled}
use Rattle.aas_sheet_index.specs.Index.{IsIndex, IsPart}
use Rattle.aas_sheet_index.specs.declared.side.Side.{Side}
use Rattle.aas_sheet_index.proofs.Settled.{column, index_measured, measured_in}
use Rattle.aas_sheet_index.proofs.sides.Sides.new.Goals as goal

pub invariant_of-result : goal.invariant_of-result
invariant_of-result c =
    let ss : List Side = c.args.sides in
    let ranks : List ℕ = c.in_ok-ranks.ranks.items in
    let part = subst (λ (ss : List Side). IsPart ss 0 ranks) c.as_slice.ensures c.in_ok-ranks.ensures in
    let is =
    measured_in ss c.as_mut_slice.result.now c.measure.new.sides c.as_mut_slice.ensures.value c.measure.ensures in
    let index = subst (λ (ss : List Side). IsIndex ss ranks) (sym is) (index_measured ss ranks c.requires.few part) in
    column ss (filled ss c.measure.new.sides) ranks is c.requires.levels c.requires.keyed index
