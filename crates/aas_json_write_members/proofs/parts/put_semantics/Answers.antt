use Rattle.aas_json_write_members.proofs.Putting.{fields_both}
use Rattle.aas_json_write_members.proofs.parts.put_semantics.Goals as goal

pub returns : goal.returns
returns g c = fields_both c.put_optional-meant.ensures c.put_list.ensures
