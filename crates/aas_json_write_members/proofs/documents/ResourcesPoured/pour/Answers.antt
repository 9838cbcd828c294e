use Rattle.aas_json_table.specs.Table.{parts, resource}
use Rattle.aas_json_mapping.specs.Parts.{resource_attributes}
use Rattle.aas_json_write_members.proofs.Putting.{object_more, object_ended}
use Rattle.aas_json_write_members.proofs.documents.ResourcesPoured.pour.Goals as goal

pub returns : goal.returns
returns g c =
    object_ended (parts resource) (resource_attributes c.args.resource.now) c.end_object.result
    (g.O.TextEnd.told c.end_object.new.out)
    (object_more (object_more c.begin_object-begun.ensures c.put_optional-typed.ensures) c.put_one-placed.ensures)
    c.end_object.ensures
