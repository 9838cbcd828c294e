use Rattle.aas_json_table.specs.TooDeep.{limits}
use Rattle.aas_json_mapping.specs.Trees.{concepts}
use Rattle.aas_json_mapping.proofs.DocumentsLaws.{concepts_laws}
use Rattle.aas_json_read.proofs.Reading.{reads_any, reads_each_any}
use Rattle.aas_json_read.proofs.read_concept.Goals as goal

pub returns-clause-reads : goal.returns-clause-reads
returns-clause-reads c = reads_any concepts concepts_laws limits c.read_bytes.result c.args.bytes.now c.read_bytes.ensures

pub returns-clause-each : goal.returns-clause-each
returns-clause-each c = reads_each_any concepts concepts_laws limits c.read_bytes.result c.args.bytes.now c.read_bytes.ensures
