use Rattle.std.proofs.Common.{[], ◌∷◌, codes}
use Rattle.aas_json_table.specs.Spelled.{list_of}
use Rattle.aas_json_table.specs.Table.{environment, parts}
use Rattle.aas_json_mapping.specs.Documents.{spell_concept, spell_shell, spell_submodel}
use Rattle.aas_json_write_members.proofs.Putting.{object_more, object_ended}
use Rattle.aas_serialization.specs.Chosen.{chosen_environment}
use Rattle.aas_answer.proofs.environments.pour_environment.Goals as goal

pub returns : goal.returns
returns g c =
    let e = chosen_environment (g.S.Store.documents c.args.store.now) c.args.chosen.now in
    object_ended (parts environment)
    ((codes "assetAdministrationShells", list_of spell_shell e.shells)
    ∷ (codes "submodels", list_of spell_submodel e.submodels)
    ∷ (codes "conceptDescriptions", list_of spell_concept e.concepts) ∷ [])
    c.end_object.result (g.O.Out.told c.end_object.new.out)
    (object_more (object_more (object_more c.begin_object-begun.ensures c.put_documents-shells.ensures)
    c.put_documents-concepts.ensures)
    c.put_documents-whole.ensures)
    c.end_object.ensures
