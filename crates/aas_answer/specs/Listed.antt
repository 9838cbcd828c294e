-- What is told of a shell, and what pages tell of their entries, by the form in which it is told (IDTA-01002-3-0, the content modifiers Normal,
-- Metadata, Value and Reference).
use Rattle.std.specs.Prelude.{ℕ, List, []}
use Rattle.std.specs.FinMap as map
use Rattle.std.specs.Option.{option_map_or}
use Rattle.aas_form.specs.ReferenceTo.{child_reference, shell_reference, submodel_reference}
use Rattle.aas_json_mapping.specs.Trees.{asset_informations, shells}
use Rattle.aas_json_spelling.specs.Spells.{canonical_text}
use Rattle.aas_model.specs.declared.documents.Shell.{Shell}
use Rattle.aas_model.specs.declared.documents.Submodel.{Submodel}
use Rattle.aas_model.specs.declared.element.Element.{Element}
use Rattle.aas_model_names.specs.declared.collection.Collection.{Collection}
use Rattle.aas_model_names.specs.declared.collection.Collection.TheVariants.{Shells, Submodels}
use Rattle.aas_page.specs.declared.filter.Selection.{Selection}
use Rattle.aas_store.specs.Documents.{Documents, Identifier}
use Rattle.aas_answer.specs.Answers.{Answer, element_metadata_text, element_shown, of_shells, of_submodels}
use Rattle.aas_answer.specs.Answers.{reference_text, submodel_metadata_text, submodel_valued}
use Rattle.aas_answer.specs.declared.forms.ChildForm.{ChildForm}
use Rattle.aas_answer.specs.declared.forms.ChildForm.TheVariants as child
use Rattle.aas_answer.specs.declared.forms.DocumentForm.{DocumentForm}
use Rattle.aas_answer.specs.declared.forms.DocumentForm.TheVariants as document
use Rattle.aas_answer.specs.declared.forms.ShellForm.{ShellForm}
use Rattle.aas_answer.specs.declared.forms.ShellForm.TheVariants as shell
use Rattle.aas_answer.specs.declared.forms.SubmodelForm.{SubmodelForm}
use Rattle.aas_answer.specs.declared.forms.SubmodelForm.TheVariants as submodel

abbrev pub shell_text : ShellForm → Shell → List ℕ
shell_text shell.Whole s = canonical_text shells s
shell_text shell.Reference s = reference_text (shell_reference s)
shell_text shell.Asset s = canonical_text asset_informations s.asset

abbrev pub submodel_text : SubmodelForm → Submodel → List ℕ
submodel_text submodel.Metadata s = submodel_metadata_text s
submodel_text (submodel.Value level extent) s = submodel_valued level extent s
submodel_text submodel.Reference s = reference_text (submodel_reference s)

-- of a child of a submodel
abbrev pub child_text : ChildForm → Submodel → Element → List ℕ
child_text (child.Whole level extent) s e = element_shown level extent e
child_text child.Metadata s e = element_metadata_text e
child_text child.Reference s e = reference_text (child_reference s e)

-- ---- documents

abbrev pub collection_of : DocumentForm → Collection
collection_of document.ShellReference = Shells
collection_of (document.Submodel form) = Submodels

-- of the document of an identifier; nothing where there is none
abbrev pub document_text : DocumentForm → Identifier → Documents → List ℕ
document_text document.ShellReference id d =
    option_map_or (λ s. reference_text (shell_reference s)) (map.get d.shells id) []
document_text (document.Submodel form) id d = option_map_or (submodel_text form) (map.get d.submodels id) []

abbrev pub documents_in : DocumentForm → Documents → Selection → Answer
documents_in document.ShellReference d s = of_shells d s (λ x. reference_text (shell_reference x))
documents_in (document.Submodel form) d s = of_submodels d s (submodel_text form)
