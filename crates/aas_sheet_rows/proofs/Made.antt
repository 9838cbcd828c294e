-- Columns that hold the rows of trees, once they are measured.
use Rattle.std.proofs.Common.{◌≡◌, ℕ, ◌+◌, ◌-◌, ◌<◌, List, [], ◌∷◌, length, refl, sym, ap, ◌∙◌, subst, arith}
use Rattle.std.proofs.lemmas.List.Elements.{All-cons, All-nil}
use Rattle.aas_model.specs.declared.documents.Submodel.{Submodel}
use Rattle.aas_model.specs.declared.element.Element.{Element}
use Rattle.aas_rows.specs.Rows.{rows_of_all, trees_of, levels_of, sizes, InPreorder, Steps}
use Rattle.aas_rows.proofs.InOrder.{rows_in_preorder}
use Rattle.aas_rows.proofs.Trees.{rows_give_trees}
use Rattle.aas_sheet_rows.specs.Table.{line_of, lines_of, submodel_of, IsTable}
use Rattle.aas_sheet_index.specs.Sides.{levels, sizes_of, measured, HaveLevels}
use Rattle.aas_sheet_rows.specs.declared.row.Row.{Row}
use Rattle.aas_sheet_index.specs.declared.side.Side.{Side}
use Rattle.aas_sheet_rows.proofs.Loans.{levels_same}

pub lines_measured : (rs : List Row) (ss : List Side) → lines_of rs (measured ss) ≡ lines_of rs ss
lines_measured [] ss = refl
lines_measured (r ∷ rs) [] = refl
lines_measured (r ∷ rs) (s ∷ ss) = ap (λ ls. line_of r s ∷ ls) (lines_measured rs ss)

-- no level of rows that are laid out is the submodel's own
steps_deep : (top k : ℕ) (ss : List Side) → Steps top k (levels ss) → HaveLevels ss
steps_deep top k [] steps = All-nil (λ (s : Side). 0 < s.level)
steps_deep top k (s ∷ ss) steps =
    let deep = steps.0 in
    All-cons (λ (s : Side). 0 < s.level) s ss (omega (arith, deep)) (steps_deep top s.level ss steps.2)

pub laid_deep : (es : List Element) (k : ℕ) (rs : List Row) (ss : List Side) → 0 < k → length rs ≡ length ss
    → lines_of rs ss ≡ rows_of_all es k → HaveLevels ss
laid_deep es k rs ss high long are =
    let back : k - 1 + 1 ≡ k = omega arith in
    let same : levels_of (rows_of_all es (k - 1 + 1)) ≡ levels ss =
    ap levels_of (ap (rows_of_all es) back ∙ sym are) ∙ levels_same rs ss long in
    steps_deep (k - 1) (k - 1) ss (subst (InPreorder (k - 1)) same (rows_in_preorder es (k - 1)))

pub made_table : (es : List Element) (rs : List Row) (ss : List Side)
    → length rs ≡ length ss → lines_of rs ss ≡ rows_of_all es 1 → sizes_of ss ≡ sizes (levels ss) → IsTable rs ss
made_table es rs ss long are sized = record {
  long = long;
  ordered = subst (InPreorder 0) (ap levels_of (sym are) ∙ levels_same rs ss long) (rows_in_preorder es 0);
  sized = sized;
}

pub made_submodel : (head : Submodel) (es : List Element) (rs : List Row) (ss : List Side)
    → lines_of rs ss ≡ rows_of_all es 1 → submodel_of head rs ss ≡ record head { kids = es }
made_submodel head es rs ss are = ap (λ es. record head { kids = es }) (ap trees_of are ∙ rows_give_trees es 1)
