use Rattle.aas_path_trees.specs.Edits.{replaced}
use Rattle.aas_step.specs.Causes.{replace_causes}
use Rattle.aas_store.specs.Edited.{CanReplace}
use Rattle.aas_repo_elements.proofs.Replaced.{fits_there}
use Rattle.aas_repo_elements.proofs.Stored.{by_bytes, can_store}
use Rattle.aas_repo_elements.proofs.replacing.ReplacementEdit.put.Goals as goal

pub replace_element-requires-clause-fits : goal.replace_element-requires-clause-fits
replace_element-requires-clause-fits g c =
    let p = c.args.self.path.steps in
    let e = c.args.self.element in
    by_bytes (g.S.Store.documents c.args.store.now) c.args.id.now _
    (replace_causes p e) (λ s. replaced s p e) c.as_str.ensures.bytes c.requires
    (λ s. CanReplace s p e) (λ s one. fits_there s p e one.no_cause)

pub replace_element-requires-clause-storable : goal.replace_element-requires-clause-storable
replace_element-requires-clause-storable g c =
    let p = c.args.self.path.steps in
    let e = c.args.self.element in
    can_store (g.S.Store.documents c.args.store.now) c.args.id.now _
    (replace_causes p e) (λ s. replaced s p e) c.as_str.ensures.bytes c.requires
    c.valid_submodels_are_storable.ensures
