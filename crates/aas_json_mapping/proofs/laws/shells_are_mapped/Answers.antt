use Rattle.aas_json_spelling.specs.Mapped.{AnyShape}
use Rattle.aas_json_spelling.proofs.Laws.{mapped}
use Rattle.aas_json_mapping.specs.Trees.{shells}
use Rattle.aas_json_mapping.proofs.DocumentsLaws.{shells_laws}
use Rattle.aas_json_mapping.proofs.laws.shells_are_mapped.Goals as goal

pub returns : goal.returns
returns c = mapped shells AnyShape shells_laws
