use Rattle.aas_json_table.specs.Table.{one}
use Rattle.aas_json_spelling.proofs.Nesting.{fits_whole}
use Rattle.aas_json_spelling.proofs.what_fits_nests.Goals as goal

pub returns-clause-numbers : goal.returns-clause-numbers
returns-clause-numbers c s j fits = fits_whole j (one s) fits
