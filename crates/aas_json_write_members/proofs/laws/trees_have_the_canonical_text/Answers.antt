use Rattle.aas_json_write_members.proofs.Trees.{canonical}
use Rattle.aas_json_write_members.proofs.laws.trees_have_the_canonical_text.Goals as goal

pub returns : goal.returns
returns c = canonical
