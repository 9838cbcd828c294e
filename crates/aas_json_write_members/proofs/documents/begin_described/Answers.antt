use Rattle.aas_json_write_members.proofs.Putting.{object_more}
use Rattle.aas_json_write_members.proofs.documents.begin_described.Goals as goal

pub returns : goal.returns
returns g c =
    object_more (object_more
    (object_more c.begin_object-begun.ensures c.put_optional-administered.ensures) c.put_optional-category.ensures)
    c.put_described.ensures
