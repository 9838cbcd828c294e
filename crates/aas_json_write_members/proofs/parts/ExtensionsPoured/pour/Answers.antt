use Rattle.aas_json_table.specs.Table.{parts, extension}
use Rattle.aas_json_mapping.specs.Parts.{extension_attributes}
use Rattle.aas_json_write_members.proofs.Putting.{object_more, object_ended}
use Rattle.aas_json_write_members.proofs.parts.ExtensionsPoured.pour.Goals as goal

pub returns : goal.returns
returns g c =
    object_ended (parts extension) (extension_attributes c.args.extension.now) c.end_object.result
    (g.O.TextEnd.told c.end_object.new.out)
    (object_more (object_more (object_more
    (object_more (object_more c.begin_object-begun.ensures c.put_one-named.ensures) c.put_list-referring.ensures)
    c.put_semantics-meant.ensures)
    c.put_optional-valued.ensures)
    c.put_optional_word-typed.ensures)
    c.end_object.ensures
