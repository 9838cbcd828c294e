use Rattle.aas_json_write_members.proofs.Heads.{canonical}
use Rattle.aas_json_write_members.proofs.laws.submodels_have_the_canonical_text.Goals as goal

pub returns : goal.returns
returns c = canonical
