use Rattle.aas_json_write_members.proofs.Putting.{fields_both}
use Rattle.aas_json_write_members.proofs.elements.put_described.Goals as goal

pub returns : goal.returns
returns g c =
    fields_both (fields_both (fields_both (fields_both (fields_both (fields_both (fields_both (fields_both
    (fields_both c.put_optional-category.ensures c.put_content_type-content.ensures) c.put_list-description.ensures)
    c.put_direction-direction.ensures)
    c.put_list-display.ensures)
    c.put_list-kept.ensures)
    c.put_entity_type-entity.ensures)
    c.put_list-extensions.ensures)
    c.put_first-first.ensures)
    c.put_optional_str.ensures
