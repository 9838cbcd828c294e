use Rattle.aas_json_spelling.proofs.Laws.{mapped}
use Rattle.aas_json_mapping.specs.Shape.{IsShapedSubmodel}
use Rattle.aas_json_mapping.specs.Trees.{submodels}
use Rattle.aas_json_mapping.proofs.DocumentsLaws.{submodels_laws}
use Rattle.aas_json_mapping.proofs.laws.submodels_are_mapped.Goals as goal

pub returns : goal.returns
returns c = mapped submodels IsShapedSubmodel submodels_laws
