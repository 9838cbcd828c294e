use Rattle.aas_json_spelling.proofs.Views.{value_read}
use Rattle.aas_json_spelling.proofs.what_is_read_is_a_value.Goals as goal

pub returns-clause-value : goal.returns-clause-value
returns-clause-value c bytes v is = value_read bytes v is
