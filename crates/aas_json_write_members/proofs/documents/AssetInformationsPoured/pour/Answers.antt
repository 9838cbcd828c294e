use Rattle.aas_json_table.specs.Table.{parts, asset_information}
use Rattle.aas_json_mapping.specs.Parts.{asset_information_attributes}
use Rattle.aas_json_write_members.proofs.Putting.{object_more, object_ended}
use Rattle.aas_json_write_members.proofs.documents.AssetInformationsPoured.pour.Goals as goal

pub returns : goal.returns
returns g c =
    object_ended (parts asset_information) (asset_information_attributes c.args.asset.now) c.end_object.result
    (g.O.TextEnd.told c.end_object.new.out)
    (object_more (object_more (object_more
    (object_more (object_more c.begin_object-begun.ensures c.put_word-kind.ensures) c.put_optional-typed.ensures)
    c.put_optional-shown.ensures)
    c.put_optional-global.ensures)
    c.put_list-specific.ensures)
    c.end_object.ensures
