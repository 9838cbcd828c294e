use Rattle.aas_json_spelling.proofs.Laws.{mapped}
use Rattle.aas_json_mapping.specs.Shape.{IsShapedEnvironment}
use Rattle.aas_json_mapping.specs.Trees.{environments}
use Rattle.aas_json_mapping.proofs.DocumentsLaws.{environments_laws}
use Rattle.aas_json_mapping.proofs.laws.environments_are_mapped.Goals as goal

pub returns : goal.returns
returns c = mapped environments IsShapedEnvironment environments_laws
