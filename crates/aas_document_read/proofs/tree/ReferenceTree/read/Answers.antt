use Rattle.std.proofs.Common.{rules}
use Rattle.aas_json_spelling.specs.Mapped.{AnyShape}
use Rattle.aas_json_spelling.specs.Reads.{ReadsBytes}
use Rattle.aas_json_spelling.proofs.Laws.{reads_each_of_bytes, reads_value}
use Rattle.aas_json_table.specs.TooDeep.{limits}
use Rattle.aas_reference.specs.Trees.{references}
use Rattle.aas_reference.proofs.Facts.{laws}
use Rattle.aas_document_read.proofs.tree.ReferenceTree.read.Goals as goal

pub returns-in_err-value-clause-each : goal.returns-in_err-value-clause-each
returns-in_err-value-clause-each c =
    let reads : ReadsBytes references limits c.from_residual.result c.args.bytes.now = search rules in
    reads_each_of_bytes references AnyShape laws _ _ _ reads

pub returns-clause-each : goal.returns-clause-each
returns-clause-each c =
    reads_each_of_bytes references AnyShape laws _ _ _
    (reads_value references _ _ _ _ c.in_ok-value.ensures c.read_reference.ensures.reads)
