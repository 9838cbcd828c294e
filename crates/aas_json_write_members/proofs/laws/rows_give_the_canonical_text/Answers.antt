use Rattle.aas_json_write_members.proofs.Level.{canonical}
use Rattle.aas_json_write_members.proofs.laws.rows_give_the_canonical_text.Goals as goal

pub returns : goal.returns
returns c = canonical
