-- The submodel that a question, a command or metadata is about, of those that may be asked through a shell.
use Rattle.std.specs.Prelude.{ℕ, List, Option, Some, None}
use Rattle.aas_command.specs.declared.command.Command.{Command}
use Rattle.aas_command.specs.declared.command.Command.TheVariants.{ReplaceSubmodel, InsertElement, ReplaceElement}
use Rattle.aas_command.specs.declared.command.Command.TheVariants.{DeleteElement, UpdateValue}
use Rattle.aas_question.specs.declared.question.Question.{Question}
use Rattle.aas_question.specs.declared.question.Question.TheVariants as question
use Rattle.aas_api.specs.declared.ask.Ask.{Ask}
use Rattle.aas_api.specs.declared.ask.Ask.TheVariants.{Act, Answer, Describe}
use Rattle.aas_api.specs.declared.ask.Metadata.{Metadata}
use Rattle.aas_api.specs.declared.ask.Metadata.TheVariants as metadata

abbrev pub submodel_changed : Command → Option (List ℕ)
submodel_changed (ReplaceSubmodel d) = Some d.head.id
submodel_changed (InsertElement id p e) = Some id
submodel_changed (ReplaceElement id p e) = Some id
submodel_changed (DeleteElement id p) = Some id
submodel_changed (UpdateValue id p v) = Some id
submodel_changed c = None

abbrev pub submodel_told : Question → Option (List ℕ)
submodel_told (question.Submodel id level extent) = Some id
submodel_told (question.SubmodelMetadata id) = Some id
submodel_told (question.SubmodelValue id level extent) = Some id
submodel_told (question.SubmodelReference id) = Some id
submodel_told (question.SubmodelPaths id level) = Some id
submodel_told (question.Elements id span level extent) = Some id
submodel_told (question.ElementsMetadata id span) = Some id
submodel_told (question.ElementsReference id span) = Some id
submodel_told (question.Element id p level extent) = Some id
submodel_told (question.ElementMetadata id p) = Some id
submodel_told (question.ElementValue id p level extent) = Some id
submodel_told (question.ElementReference id p) = Some id
submodel_told (question.ElementPaths id p level) = Some id
submodel_told q = None

abbrev pub submodel_described : Metadata → Option (List ℕ)
submodel_described (metadata.Submodel form) = Some form.head.id
submodel_described (metadata.Element id p form) = Some id

abbrev pub submodel_of : Ask → Option (List ℕ)
submodel_of (Act c) = submodel_changed c
submodel_of (Answer q) = submodel_told q
submodel_of (Describe m) = submodel_described m
