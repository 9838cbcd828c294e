use Rattle.aas_json_write_members.proofs.Putting.{object_more}
use Rattle.aas_json_write_members.proofs.documents.begin_submodel.Goals as goal

pub returns : goal.returns
returns g c =
    object_more (object_more (object_more
    (object_more c.begin_described-described.ensures c.put_optional_word-kind.ensures) c.put_string-typed.ensures)
    c.put_list-qualified.ensures)
    c.put_optional.ensures
