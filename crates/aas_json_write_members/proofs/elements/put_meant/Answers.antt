use Rattle.aas_json_write_members.proofs.Putting.{fields_both}
use Rattle.aas_json_write_members.proofs.elements.put_meant.Goals as goal

pub returns : goal.returns
returns g c = fields_both
    (fields_both (fields_both c.put_list-qualified.ensures c.put_second-second.ensures) c.put_optional-meant.ensures)
    c.put_behind_semantic_id.ensures
