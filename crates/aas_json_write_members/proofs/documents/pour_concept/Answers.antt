use Rattle.std.proofs.Common.{[], ◌++◌, codes, unwrap_or}
use Rattle.aas_json_mapping.specs.Documents.{typed, head_attributes, concept_attributes}
use Rattle.aas_json_table.specs.Rows.{find}
use Rattle.aas_json_table.specs.Table.{concept, model_types}
use Rattle.aas_json_write_members.proofs.Putting.{object_more, object_ended}
use Rattle.aas_json_write_members.proofs.documents.pour_concept.Goals as goal

pub returns : goal.returns
returns g c =
    object_ended (unwrap_or (find (codes "ConceptDescription") (model_types concept)) [])
    (typed (codes "ConceptDescription")
    (head_attributes c.args.concept.now.head ++ concept_attributes c.args.concept.now))
    c.end_object.result (g.O.TextEnd.told c.end_object.new.out)
    (object_more
    (object_more c.begin_described-described.ensures c.put_list-cases.ensures) c.put_string-typed.ensures)
    c.end_object.ensures
