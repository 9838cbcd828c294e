use Rattle.aas_json_write_rows.proofs.Documents.{rows_give_submodel}
use Rattle.aas_json_write_rows.proofs.laws.rows_give_the_submodel.Goals as goal

pub returns : goal.returns
returns c = rows_give_submodel
