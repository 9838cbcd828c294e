use Rattle.aas_json_table.specs.Table.{parts, qualifier}
use Rattle.aas_json_mapping.specs.Parts.{qualifier_attributes}
use Rattle.aas_json_write_members.proofs.Putting.{object_more, object_ended}
use Rattle.aas_json_write_members.proofs.parts.QualifiersPoured.pour.Goals as goal

pub returns : goal.returns
returns g c =
    object_ended (parts qualifier) (qualifier_attributes c.args.qualifier.now) c.end_object.result
    (g.O.TextEnd.told c.end_object.new.out)
    (object_more (object_more (object_more (object_more (object_more
    (object_more c.begin_object-begun.ensures c.put_optional_word-kind.ensures) c.put_semantics-meant.ensures)
    c.put_one-typed.ensures)
    c.put_optional-valued.ensures)
    c.put_optional-referring.ensures)
    c.put_word-value_typed.ensures)
    c.end_object.ensures
