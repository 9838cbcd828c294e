use Rattle.aas_json_spelling.proofs.Laws.{mapped}
use Rattle.aas_json_mapping.specs.Shape.{IsShaped}
use Rattle.aas_json_mapping.specs.Trees.{elements}
use Rattle.aas_json_mapping.proofs.ElementsLaws.{elements_laws}
use Rattle.aas_json_mapping.proofs.laws.elements_are_mapped.Goals as goal

pub returns : goal.returns
returns c = mapped elements IsShaped elements_laws
