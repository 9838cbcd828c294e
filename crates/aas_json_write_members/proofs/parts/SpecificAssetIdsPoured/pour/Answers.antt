use Rattle.aas_json_table.specs.Table.{parts, specific_asset_id}
use Rattle.aas_json_mapping.specs.Parts.{specific_asset_id_attributes}
use Rattle.aas_json_write_members.proofs.Putting.{object_more, object_ended}
use Rattle.aas_json_write_members.proofs.parts.SpecificAssetIdsPoured.pour.Goals as goal

pub returns : goal.returns
returns g c =
    object_ended (parts specific_asset_id) (specific_asset_id_attributes c.args.id.now) c.end_object.result
    (g.O.TextEnd.told c.end_object.new.out)
    (object_more (object_more
    (object_more (object_more c.begin_object-begun.ensures c.put_optional-referring.ensures) c.put_one-named.ensures)
    c.put_semantics-meant.ensures)
    c.put_one-valued.ensures)
    c.end_object.ensures
