use Rattle.aas_json_write_members.proofs.Putting.{fields_both}
use Rattle.aas_json_write_members.proofs.documents.put_described.Goals as goal

pub returns : goal.returns
returns g c =
    fields_both (fields_both (fields_both
    (fields_both (fields_both c.put_list-description.ensures c.put_list-display.ensures) c.put_list-kept.ensures)
    c.put_list-extensions.ensures)
    c.put_one-identified.ensures)
    c.put_optional.ensures
