use Rattle.std.proofs.Common.{[], ◌∷◌, codes}
use Rattle.aas_json_table.specs.Spelled.{list_of}
use Rattle.aas_json_table.specs.Table.{environment, parts}
use Rattle.aas_json_mapping.specs.Documents.{spell_concept, spell_shell, spell_submodel}
use Rattle.aas_json_write_members.proofs.Putting.{object_more, object_ended}
use Rattle.aas_json_write_rows.proofs.environment.pour_environment_tree.Goals as goal

pub returns : goal.returns
returns g c =
    let e = c.args.environment.now in
    object_ended (parts environment)
    ((codes "assetAdministrationShells", list_of spell_shell e.shells)
    ∷ (codes "submodels", list_of spell_submodel e.submodels)
    ∷ (codes "conceptDescriptions", list_of spell_concept e.concepts) ∷ [])
    c.end_object.result (g.O.TextEnd.told c.end_object.new.out)
    (object_more
    (object_more (object_more c.begin_object-begun.ensures c.put_list-listed.ensures) c.put_list-meant.ensures)
    c.put_list-whole.ensures)
    c.end_object.ensures
