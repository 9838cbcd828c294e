use Rattle.aas_json_write_members.proofs.Putting.{fields_both}
use Rattle.aas_json_write_members.proofs.elements.put_typed.Goals as goal

pub returns : goal.returns
returns g c =
    fields_both (fields_both c.put_before_model_type-before.ensures c.put_model_type-typed.ensures)
    c.put_before_qualifiers.ensures
