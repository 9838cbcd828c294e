use Rattle.std.proofs.Common.{subst}
use Rattle.aas_command.specs.declared.command.Command.TheVariants.{InsertElement}
use Rattle.aas_repo_documents.specs.Decisions.{IsDecision}
use Rattle.aas_repo_elements.proofs.inserting.insert_element.Goals as goal

pub returns : goal.returns
returns g c =
    subst (λ e.
    IsDecision c.args.has_room (g.S.Store.documents c.args.store.now) (InsertElement c.args.id c.args.path e)
    (g.S.Store.documents c.make_edit.new.store) c.make_edit.result) c.into_inner-element.ensures c.make_edit.ensures
