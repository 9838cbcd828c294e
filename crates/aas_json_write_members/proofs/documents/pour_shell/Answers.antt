use Rattle.std.proofs.Common.{[], ◌++◌, codes, unwrap_or}
use Rattle.aas_json_mapping.specs.Documents.{typed, head_attributes, shell_attributes}
use Rattle.aas_json_table.specs.Rows.{find}
use Rattle.aas_json_table.specs.Table.{shell, model_types}
use Rattle.aas_json_write_members.proofs.Putting.{object_more, object_ended}
use Rattle.aas_json_write_members.proofs.documents.pour_shell.Goals as goal

pub returns : goal.returns
returns g c =
    object_ended (unwrap_or (find (codes "AssetAdministrationShell") (model_types shell)) [])
    (typed (codes "AssetAdministrationShell")
    (head_attributes c.args.shell.now.head ++ shell_attributes c.args.shell.now))
    c.end_object.result (g.O.TextEnd.told c.end_object.new.out)
    (object_more (object_more (object_more (object_more (object_more
    (object_more (object_more c.begin_object-begun.ensures c.put_optional-administered.ensures) c.put_one-asset.ensures)
    c.put_optional-category.ensures)
    c.put_optional-derived.ensures)
    c.put_described-described.ensures)
    c.put_string-typed.ensures)
    c.put_list-submodels.ensures)
    c.end_object.ensures
