use Rattle.std.proofs.Common.{◌≡◌, ◌≤◌, List, ◌++◌, length, sym, ap, ap₂, ◌∙◌, subst, arith}
use Rattle.aas_model.specs.declared.documents.Submodel.{Submodel}
use Rattle.aas_model.specs.declared.element.Element.{Element}
use Rattle.aas_rows.specs.Edits.{count}
use Rattle.aas_rows.specs.Rows.{rows_of_all}
use Rattle.aas_rows.proofs.Edited.{count_at}
use Rattle.aas_sheet_index.specs.Sides.{measured}
use Rattle.aas_sheet_index.specs.declared.side.Side.{Side}
use Rattle.aas_sheet_index.proofs.Measures.{measured_long, sized_measured}
use Rattle.aas_sheet_rows.specs.Table.{children_in, lines_of, submodel_of, IsTable}
use Rattle.aas_sheet_rows.specs.declared.row.Row.{Row}
use Rattle.aas_sheet_rows.proofs.Edits.{few_enough}
use Rattle.aas_sheet_rows.proofs.Found.{siblings_counted}
use Rattle.aas_sheet_rows.proofs.Loans.{lines_long}
use Rattle.aas_sheet_rows.proofs.Made.{laid_deep, lines_measured, made_submodel, made_table}
use Rattle.aas_sheet_rows.proofs.sheet.Sheet.from_submodel.Goals as goal
use Rattle.aas_sheet_rows.proofs.sheet.Sheet.from_submodel.Goals.{In_ok-lay_all}

-- the lines that are laid out
laid : (c : In_ok-lay_all) → lines_of c.lay_all.new.rows c.lay_all.new.sides ≡ rows_of_all c.args.submodel.kids 1
laid c =
    c.in_ok-lay_all.ensures.lines
    ∙ ap₂ (λ xs ks. xs ++ rows_of_all ks 1) (ap (λ (rs : List Row). lines_of rs c.new-sides.result) c.new-rows.ensures)
    c.replace-kids.ensures.value

pub new-requires-2-clause-few : goal.new-requires-2-clause-few
new-requires-2-clause-few c =
    let d : Submodel = c.args.submodel in
    let rs : List Row = c.lay_all.new.rows in
    let ss : List Side = c.lay_all.new.sides in
    let are = laid (goal.at.new-requires-2-clause-few c).In_ok-lay_all in
    let long : length rs ≡ length ss = c.in_ok-lay_all.ensures.long in
    let many : length (lines_of rs ss) ≡ count d.kids = ap length are ∙ count_at d.kids 1 in
    let all : length (lines_of rs ss) ≡ length rs = lines_long rs ss long in
    let few : count d.kids ≤ 65536 = c.requires in
    few_enough (length ss) (omega (arith, many, all, long, few))

pub new-requires-2-clause-levels : goal.new-requires-2-clause-levels
new-requires-2-clause-levels c =
    let d : Submodel = c.args.submodel in
    let rs : List Row = c.lay_all.new.rows in
    let are = laid (goal.at.new-requires-2-clause-levels c).In_ok-lay_all in
    laid_deep d.kids 1 rs c.lay_all.new.sides (omega arith) c.in_ok-lay_all.ensures.long are

pub invariant_of-result : goal.invariant_of-result
invariant_of-result c =
    let rs : List Row = c.lay_all.new.rows in
    let ss : List Side = c.lay_all.new.sides in
    let are = laid (goal.at.invariant_of-result c).In_ok-lay_all in
    let kids : List Element = c.args.submodel.kids in
    let long : length rs ≡ length (measured ss) = c.in_ok-lay_all.ensures.long ∙ sym (measured_long ss) in
    let same : lines_of rs (measured ss) ≡ rows_of_all kids 1 = lines_measured rs ss ∙ are in
    let counted = siblings_counted 0 rs (measured ss) kids long (sym same) in (
      subst (IsTable rs) (sym c.in_ok-sides.ensures) (made_table kids rs (measured ss) long same (sized_measured ss)),
      c.len-children.ensures ∙ ap length c.replace-kids.ensures.value
          ∙ sym counted ∙ ap children_in (sym c.in_ok-sides.ensures),
    )

pub returns : goal.returns
returns c =
    let d : Submodel = c.args.submodel in
    let head : Submodel = record d { kids = c.replace-kids.new.dest } in
    let rs : List Row = c.lay_all.new.rows in
    let ss : List Side = c.lay_all.new.sides in
    let are = laid (goal.at.returns c).In_ok-lay_all in
    ap (submodel_of head rs) c.in_ok-sides.ensures
    ∙ made_submodel head d.kids rs (measured ss) (lines_measured rs ss ∙ are)
