use Rattle.aas_json_spelling.specs.Mapped.{AnyShape}
use Rattle.aas_json_spelling.proofs.Laws.{mapped}
use Rattle.aas_reference.specs.Trees.{references}
use Rattle.aas_reference.proofs.Facts.{laws}
use Rattle.aas_reference.proofs.laws.references_are_mapped.Goals as goal

pub returns : goal.returns
returns c = mapped references AnyShape laws
