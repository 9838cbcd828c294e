use Rattle.std.proofs.Common.{◌≡◌, ◌↔◌, Err, subst}
use Rattle.aas_model.specs.declared.documents.Submodel.{Submodel}
use Rattle.aas_store.specs.Edited.{LeadsNowhere}
use Rattle.aas_store.specs.declared.lack.Lack.TheVariants.{NoElement}
use Rattle.aas_store.proofs.tree.TreeTable.element.Goals as goal

pub returns-clause-no_element : goal.returns-clause-no_element
returns-clause-no_element c =
    λ m. subst (λ (d : Submodel). (c.copy_at.result ≡ Err (NoElement m)) ↔ LeadsNowhere d c.args.path.now.steps m) c.self.view_is (c.copy_at.ensures.no_element m)
