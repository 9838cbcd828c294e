use Rattle.aas_json_write_members.proofs.Heads.{shown_canonical}
use Rattle.aas_json_write_members.proofs.laws.shown_submodels_have_the_canonical_text.Goals as goal

pub returns : goal.returns
returns c = shown_canonical
