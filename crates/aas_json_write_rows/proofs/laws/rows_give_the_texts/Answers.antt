use Rattle.aas_json_write_rows.proofs.FromTrees.{rows_give_texts}
use Rattle.aas_json_write_rows.proofs.laws.rows_give_the_texts.Goals as goal

pub returns : goal.returns
returns c = rows_give_texts
