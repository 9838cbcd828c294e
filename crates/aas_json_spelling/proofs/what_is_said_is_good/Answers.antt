use Rattle.aas_json_table.specs.Table.{one}
use Rattle.aas_json_spelling.proofs.Canonicals.{canonical_good}
use Rattle.aas_json_spelling.proofs.what_is_said_is_good.Goals as goal

pub returns : goal.returns
returns c s levels j order low = canonical_good j (one s) levels order low
