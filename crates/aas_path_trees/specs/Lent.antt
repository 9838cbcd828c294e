-- The types that are lent for writing, as the logic of loans holds them.
use denote.RattleType.{RattleType}
use Rattle.aas_model.specs.contracts.documents.Submodel as submodel
use Rattle.aas_model.specs.contracts.element.Element as element
use Rattle.aas_model_text.specs.contracts.many.Many as many

abbrev pub element_type : RattleType
element_type = element.the_row

abbrev pub kids_type : RattleType
kids_type = many.the_row element.the_row

abbrev pub submodel_type : RattleType
submodel_type = submodel.the_row
