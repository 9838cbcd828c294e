use Rattle.std.specs.Prelude.{IsSome}
use Rattle.aas_path_trees.specs.Edits.{inserted, role_at}
use Rattle.aas_step.specs.Causes.{insert_causes}
use Rattle.aas_repo_elements.proofs.Inserted.{takes}
use Rattle.aas_repo_elements.proofs.Stored.{by_bytes, can_store}
use Rattle.aas_repo_elements.proofs.inserting.InsertionEdit.put.Goals as goal

pub insert_element-requires-clause-takes : goal.insert_element-requires-clause-takes
insert_element-requires-clause-takes g c =
    let p = c.args.self.path.steps in
    let e = c.args.self.element in
    by_bytes (g.S.Store.documents c.args.store.now) c.args.id.now _
    (insert_causes p e) (λ s. inserted s p e) c.as_str.ensures.bytes c.requires
    (λ s. IsSome (role_at s p e)) (λ s one. takes s p e one.no_cause)

pub insert_element-requires-clause-storable : goal.insert_element-requires-clause-storable
insert_element-requires-clause-storable g c =
    let p = c.args.self.path.steps in
    let e = c.args.self.element in
    can_store (g.S.Store.documents c.args.store.now) c.args.id.now _
    (insert_causes p e) (λ s. inserted s p e) c.as_str.ensures.bytes c.requires
    c.valid_submodels_are_storable.ensures
