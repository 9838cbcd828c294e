use Rattle.std.proofs.Common.{◌≡◌, ℕ, ◌+◌, ◌<◌, ◌-◌, List, refl, ap, ◌∙◌, arith}
use Rattle.aas_rows.specs.Rows.{forest, element_of}
use Rattle.aas_sheet_rows.specs.Growing.{placed_of, rows_between}
use Rattle.aas_sheet_rows.specs.Table.{line_of}
use Rattle.aas_sheet_rows.specs.declared.tree.Tree.{Tree}
use Rattle.aas_sheet_rows.specs.declared.row.Row.{Row}
use Rattle.aas_sheet_index.specs.declared.side.Side.{Side}
use Rattle.aas_sheet_rows.proofs.Grove.{grow_more, nothing_grown}
use Rattle.aas_sheet_rows.proofs.growing.grow.Goals as goal

pub loop-at-init : goal.loop-at-init
loop-at-init c = record {
  above = c.requires.ordered;
  inside = omega arith;
  grown = ap placed_of c.new-grown.ensures ∙ nothing_grown c.args.rows.now c.args.sides.now c.args.end;
}

pub loop-at-preserved : goal.loop-at-preserved
loop-at-preserved c =
    let l = c.loop-at in
    let at : ℕ = l.at - 1 in
    let rs : List Row = c.args.rows.now in
    let ss : List Side = c.args.sides.now in
    let row : Row = c.index-rows-at.result in
    let side : Side = c.index-sides-at.result in
    let g : Tree = record { level = side.level; element = c.in_ok-element.element } in
    let lt : c.args.first < l.at = c.loop-at-test.true in
    let back : l.at ≡ at + 1 = omega arith in record {
      above = omega arith;
      inside = omega (arith, l.invariant.inside);
      grown =
          ap placed_of c.in_ok-push.ensures.ok
          ∙ grow_more rs ss at c.args.end row side (placed_of l.grown)
          (placed_of l.grown) c.adopt.new.grown g c.in_ok-kids.kids c.requires.long
          (omega (arith, l.invariant.inside)) c.requires.within c.index-rows-at.is c.index-sides-at.is
          (l.invariant.grown ∙ ap (λ n. forest (rows_between rs ss n c.args.end)) back) c.in_ok-kids.ensures.kids
          c.in_ok-kids.ensures.rest refl
          (c.in_ok-element.ensures ∙ ap (λ (r : Row). element_of (line_of r side) c.in_ok-kids.kids) c.get.ensures);
    }
