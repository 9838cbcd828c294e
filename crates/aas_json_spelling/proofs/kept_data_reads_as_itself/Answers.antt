use Rattle.aas_json_spelling.proofs.Kept.{whole_good}
use Rattle.aas_json_spelling.proofs.kept_data_reads_as_itself.Goals as goal

pub returns-clause-whole : goal.returns-clause-whole
returns-clause-whole c levels ps whole = whole_good ps levels whole
