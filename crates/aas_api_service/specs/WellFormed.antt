-- Which commands, questions and metadata forms a repository takes.
use Rattle.std.specs.Prelude.{⊤}
use Rattle.aas_json_table.specs.TooDeep.{limits}
use Rattle.aas_json_mapping.specs.Metadata.{metadata_forms, submodel_metadata_forms}
use Rattle.aas_path_trees.specs.PathRule.{KeepsRule}
use Rattle.aas_command.specs.Commands.{IsWellFormed}
use Rattle.aas_api.specs.declared.ask.Ask.{Ask}
use Rattle.aas_api.specs.declared.ask.Ask.TheVariants.{Act, Answer, Describe}
use Rattle.aas_api.specs.declared.ask.Metadata.{Metadata}
use Rattle.aas_api.specs.declared.ask.Metadata.TheVariants as metadata

-- a form is whole, and its path can be written
abbrev pub IsWellFormedMetadata : Metadata → Type 0
IsWellFormedMetadata (metadata.Submodel m) = submodel_metadata_forms.IsWhole limits m
IsWellFormedMetadata (metadata.Element id p m) = KeepsRule p.steps × metadata_forms.IsWhole limits m

-- a command is well formed
abbrev pub IsWellFormedAsk : Ask → Type 0
IsWellFormedAsk (Act c) = IsWellFormed c
IsWellFormedAsk (Answer q) = ⊤
IsWellFormedAsk (Describe m) = IsWellFormedMetadata m
