use Rattle.std.proofs.Common.{◌≡◌, ◌+◌, ◌-◌, ◌<◌, ◌≤◌, true, length, drop, option_map, take, sym, ◌∙◌, subst, arith}
use Rattle.aas_model.specs.declared.path.PathStep.TheVariants.{Place}
use Rattle.aas_sheet_rows.specs.Found.{side_of_step}
use Rattle.aas_sheet_rows.specs.declared.finding.RowRange.{RowRange}
use Rattle.aas_sheet_rows.specs.Table.{children_in}
use Rattle.aas_sheet_rows.proofs.Children.{no_rank_past, rank_of_place}
use Rattle.aas_sheet_rows.proofs.Standing.{rank_in_place}
use Rattle.aas_sheet_rows.proofs.sheet.Sheet.child_rank.Goals as goal

pub returns : goal.returns
returns c =
    let t = c.self.inside in
    subst (λ (b : RowRange). c.rank_of_step.result ≡ option_map (λ i. b.first + i)
    (side_of_step true (Place c.args.place) b.level (take (b.end - b.first) (drop b.first t.sides))))
    c.all_rows.ensures c.rank_of_step.ensures.value
    ∙ rank_in_place t.head t.rows t.sides c.args.self.now c.self.invariant.0 c.self.view_is c.args.place

pub returns-then-place-count : goal.returns-then-place-count
returns-then-place-count c =
    let t = c.self.inside in
    let all : children_in t.sides ≡ length t.sides =
    sym c.self.invariant.1 ∙ c.if-self-count.true ∙ c.len-count.ensures in
    let within : c.args.place < length t.sides = omega (arith, c.if-place-count.true, c.len-count.ensures) in
    rank_of_place t.head t.rows t.sides c.args.self.now c.self.invariant.0 c.self.view_is c.args.place all within

pub returns-else-place-count : goal.returns-else-place-count
returns-else-place-count c =
    let t = c.self.inside in
    let past : length t.sides ≤ c.args.place = omega (arith, c.if-place-count.false, c.len-count.ensures) in
    no_rank_past t.head t.rows t.sides c.args.self.now c.self.invariant.0 c.self.view_is c.args.place past
