use Rattle.aas_json_table.specs.Table.{parts, key}
use Rattle.aas_reference.specs.Spelling.{key_attributes}
use Rattle.aas_json_write_members.proofs.Putting.{object_more, object_ended}
use Rattle.aas_json_write_members.proofs.references.KeysPoured.pour.Goals as goal

pub returns : goal.returns
returns g c =
    object_ended (parts key) (key_attributes c.args.key.now) c.end_object.result (g.O.TextEnd.told c.end_object.new.out)
    (object_more (object_more c.begin_object-begun.ensures c.put_word-typed.ensures) c.put_one-valued.ensures)
    c.end_object.ensures
