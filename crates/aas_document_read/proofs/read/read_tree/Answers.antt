use Rattle.std.proofs.Common.{arith}
use Rattle.std.proofs.lemmas.Bool.Decides.{nat_tests}
use Rattle.aas_document_read.proofs.Found.{reads}
use Rattle.aas_document_read.proofs.read.read_tree.Goals as goal

pub returns-in-Ok-Some : goal.returns-in-Ok-Some
returns-in-Ok-Some g c =
    reads g.T.Tree.trees g.T.Tree.Shape c.are_mapped.ensures (g.T.Tree.left c.args.level)
    (g.met.T.Tree.within c.args.level (grind (arith, nat_tests))) c.args.bytes.now _ c.in-Ok-Some.tree
    c.in-Ok-Some.field-0-is c.in-Ok-Some.ensures
