-- Submodels by their heads and the rows of their elements.
use Rattle.std.specs.Prelude.{◌≡◌, List, map}
use Rattle.serde_json.specs.Written.{compact_text}
use Rattle.aas_json_mapping.specs.Documents.{spell_submodel}
use Rattle.aas_model.specs.declared.documents.Submodel.{Submodel}
use Rattle.aas_model.specs.declared.element.Element.{Element}
use Rattle.aas_rows.specs.Rows.{rows_of_all}
use Rattle.aas_json_write_members.specs.Heads.{submodel_text}
use Rattle.aas_json_write_members.specs.Texts.{shown}
use Rattle.aas_json_write_members.specs.declared.members.Show.{Show}
use Rattle.aas_json_write_rows.specs.Elements.{elements_of}

-- the submodel with this head, and with these elements
abbrev pub with_elements : Submodel → List Element → Submodel
with_elements s es = record s { kids = es }

-- the same with what is shown of these elements
abbrev pub shown_submodel : Show → Submodel → List Element → Submodel
shown_submodel w s es = record s { kids = map (λ e. shown w e 1) es }

-- A head and the rows of trees give the canonical text of what is shown of the submodel with these trees.
abbrev pub RowsGiveTheSubmodel : Type 0
RowsGiveTheSubmodel = (w : Show) (s : Submodel) (es : List Element)
    → submodel_text s (elements_of w (rows_of_all es 1)) ≡ compact_text (spell_submodel (shown_submodel w s es))
