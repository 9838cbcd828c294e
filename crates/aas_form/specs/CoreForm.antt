-- What is shown at a level (IDTA-01002-3-0, serialization modifier Level): all, or the direct children, each without children. The variables of an Operation
-- are its children.
use Rattle.std.specs.Prelude.{[], map}
use Rattle.aas_model.specs.declared.documents.Submodel.{Submodel}
use Rattle.aas_model.specs.declared.element.Element.{Element}
use Rattle.aas_model_names.specs.declared.modifiers.Level.{Level}
use Rattle.aas_model_names.specs.declared.modifiers.Level.TheVariants.{Deep, Core}
use Rattle.aas_path_trees.specs.Children.{kids_of, with_kids}

abbrev pub childless : Element → Element
childless e = with_kids e []

abbrev pub core_form : Level → Element → Element
core_form Deep e = e
core_form Core e = with_kids e (map childless (kids_of e))

abbrev pub submodel_core : Level → Submodel → Submodel
submodel_core Deep d = d
submodel_core Core d = record d { kids = map childless d.kids }
