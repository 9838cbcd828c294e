use Rattle.aas_json_table.specs.Table.{parts, administration}
use Rattle.aas_json_mapping.specs.Parts.{administration_attributes}
use Rattle.aas_json_write_members.proofs.Putting.{object_more, object_ended}
use Rattle.aas_json_write_members.proofs.documents.AdministrationsPoured.pour.Goals as goal

pub returns : goal.returns
returns g c =
    object_ended (parts administration) (administration_attributes c.args.administration.now) c.end_object.result
    (g.O.TextEnd.told c.end_object.new.out)
    (object_more (object_more (object_more
    (object_more (object_more c.begin_object-begun.ensures c.put_optional-creator.ensures) c.put_list-kept.ensures)
    c.put_optional-revision.ensures)
    c.put_optional-template.ensures)
    c.put_optional-version.ensures)
    c.end_object.ensures
