-- What is read of a submodel before an edit: the row of an element, and what its children say.
use Rattle.std.specs.Prelude.{◌≡◌, List, [], ◌∷◌, Option, None}
use Rattle.std.specs.Option.{option_or}
use Rattle.aas_model.specs.declared.element.Element.{Element, out-Element}
use Rattle.aas_model.specs.declared.reference.Reference.{Reference}
use Rattle.aas_rows.specs.Rows.{line_at}
use Rattle.aas_rows.specs.Views.{line_of}
use Rattle.aas_rows.specs.declared.view.RowView.{RowView}

-- the row shows e without its children, at whatever level
abbrev pub IsRowOf : Element → RowView → Type 0
IsRowOf e row = line_of row ≡ line_at row.level e

abbrev pub semantic_id_of : Element → Option Reference
semantic_id_of e = (out-Element e).common.semantics.semantic_id

abbrev pub first_semantic_id : List Element → Option Reference
first_semantic_id [] = None
first_semantic_id (e ∷ es) = option_or (semantic_id_of e) (first_semantic_id es)
