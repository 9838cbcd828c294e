use Rattle.aas_json_table.specs.TooDeep.{limits}
use Rattle.aas_json_mapping.specs.Trees.{environments}
use Rattle.aas_json_mapping.specs.Shape.{IsShapedEnvironment}
use Rattle.aas_json_mapping.proofs.DocumentsLaws.{environments_laws}
use Rattle.aas_json_read.proofs.Reading.{reads_shaped, reads_each_shaped}
use Rattle.aas_json_read.proofs.read_environment.Goals as goal

pub returns-clause-reads : goal.returns-clause-reads
returns-clause-reads c = reads_shaped environments IsShapedEnvironment environments_laws limits c.read_shaped.result c.args.bytes.now c.read_shaped.ensures

pub returns-clause-each : goal.returns-clause-each
returns-clause-each c = reads_each_shaped environments IsShapedEnvironment environments_laws limits c.read_shaped.result c.args.bytes.now c.read_shaped.ensures
