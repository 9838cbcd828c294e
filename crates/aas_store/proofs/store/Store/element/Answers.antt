use Rattle.std.proofs.Common.{◌≡◌, ◌↔◌, Option, Err, MatchOption, subst}
use Rattle.aas_model.specs.declared.documents.Submodel.{Submodel}
use Rattle.aas_store.specs.Edited.{LeadsNowhere}
use Rattle.aas_store.specs.declared.lack.Lack.TheVariants.{NoElement}
use Rattle.aas_store.proofs.store.Store.element.Goals as goal

pub returns-in-Some-clause-no_element : goal.returns-in-Some-clause-no_element
returns-in-Some-clause-no_element g c =
    λ m. subst (λ (o : Option Submodel). (c.element.result ≡ Err (NoElement m)) ↔ MatchOption o ⊥ (λ s. LeadsNowhere s c.args.path.now.steps m)) c.in-Some.ensures (c.element.ensures.no_element m)
