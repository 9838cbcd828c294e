use Rattle.std.proofs.Common.{◌-◌, subst}
use Rattle.aas_json_table.specs.TooDeep.{limits}
use Rattle.aas_json_spelling.specs.Reads.{ReadsBytes}
use Rattle.aas_json_spelling.proofs.Laws.{reads_each_of_bytes}
use Rattle.aas_json_mapping.specs.Shape.{IsShaped}
use Rattle.aas_json_mapping.specs.Trees.{elements}
use Rattle.aas_json_mapping.proofs.ElementsLaws.{elements_laws}
use Rattle.aas_json_read.specs.Shaped.{shaped}
use Rattle.aas_json_read.proofs.Reading.{reads_whole}
use Rattle.aas_json_read.proofs.read_element.Goals as goal

pub returns-clause-reads : goal.returns-clause-reads
returns-clause-reads c =
    reads_whole elements IsShaped elements_laws IsShaped (λ t s. s) (record limits { elements = 31 - c.args.level }) c.read_shaped.result c.args.bytes.now
    (subst (λ l. ReadsBytes (shaped elements.sort elements.spell IsShaped) l c.read_shaped.result c.args.bytes.now) c.at_level.ensures c.read_shaped.ensures)

pub returns-clause-each : goal.returns-clause-each
returns-clause-each c =
    reads_each_of_bytes elements IsShaped elements_laws (record limits { elements = 31 - c.args.level }) c.read_shaped.result c.args.bytes.now (returns-clause-reads c)
