-- Laws of trees and their rows.
use Rattle.std.specs.Prelude.{◌≡◌, ℕ, ◌+◌, Bool, List, Some}
use Rattle.aas_model.specs.declared.element.Element.{Element}
use Rattle.aas_model.specs.declared.patch.PatchRow.{PatchRow}
use Rattle.aas_model.specs.declared.path.PathStep.{PathStep}
use Rattle.aas_path_trees.specs.ElementAt.{element_among}
use Rattle.aas_path_trees.specs.Patched.{patched_all}
use Rattle.aas_rows.specs.Edits.{patched_rows, StandsIn}
use Rattle.aas_rows.specs.Rows.{Line, rows_of_all, trees_of, levels_of, InPreorder}

abbrev pub RowsGiveTheTrees : Type 0
RowsGiveTheTrees = (es : List Element) (k : ℕ) → trees_of (rows_of_all es k) ≡ es

abbrev pub TreesGiveTheRows : Type 0
TreesGiveTheRows = (rs : List Line) (k : ℕ) → InPreorder k (levels_of rs) → rows_of_all (trees_of rs) (k + 1) ≡ rs

abbrev pub RowsAreInPreorder : Type 0
RowsAreInPreorder = (es : List Element) (k : ℕ) → InPreorder k (levels_of (rows_of_all es (k + 1)))

-- patched trees have patched rows
abbrev pub PatchedRows : Type 0
PatchedRows = (patch : List PatchRow) (es : List Element) (n k : ℕ) → rows_of_all (patched_all patch es n).0 k ≡ patched_rows patch n (rows_of_all es k)

-- what a path leads to stands in one part of the rows
abbrev pub EditedRows : Type 0
EditedRows = (l : Bool) (s : PathStep) (p : List PathStep) (es : List Element) (k : ℕ) (e : Element) → element_among l s p es ≡ Some e → StandsIn l s p es k e
