use Rattle.aas_json_spelling.specs.Mapped.{AnyShape}
use Rattle.aas_json_spelling.proofs.Laws.{mapped}
use Rattle.aas_json_mapping.specs.Trees.{concepts}
use Rattle.aas_json_mapping.proofs.DocumentsLaws.{concepts_laws}
use Rattle.aas_json_mapping.proofs.laws.concept_descriptions_are_mapped.Goals as goal

pub returns : goal.returns
returns c = mapped concepts AnyShape concepts_laws
