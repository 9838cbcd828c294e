use Rattle.aas_json_table.specs.Table.{parts, lang_text}
use Rattle.aas_json_mapping.specs.Parts.{lang_text_attributes}
use Rattle.aas_json_write_members.proofs.Putting.{object_more, object_ended}
use Rattle.aas_json_write_members.proofs.parts.LangTextsPoured.pour.Goals as goal

pub returns : goal.returns
returns g c =
    object_ended (parts lang_text) (lang_text_attributes c.args.lang_text.now) c.end_object.result
    (g.O.TextEnd.told c.end_object.new.out)
    (object_more (object_more c.begin_object-begun.ensures c.put_one-language.ensures) c.put_one-text.ensures)
    c.end_object.ensures
