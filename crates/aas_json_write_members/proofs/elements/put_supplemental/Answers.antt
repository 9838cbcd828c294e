use Rattle.aas_json_write_members.proofs.Putting.{fields_both}
use Rattle.aas_json_write_members.proofs.elements.put_supplemental.Goals as goal

pub returns : goal.returns
returns g c = fields_both c.put_list-meant.ensures c.put_list_type.ensures
