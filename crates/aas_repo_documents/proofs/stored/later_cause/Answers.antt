use Rattle.std.proofs.Common.{[], ◌∷◌, sym, ap, ◌∙◌}
use Rattle.std.specs.Option.{option_or}
use Rattle.aas_command.specs.declared.refusal.Refusal.TheVariants.{StorageFull}
use Rattle.aas_step.specs.Causes.{document_causes, first_of, unless}
use Rattle.aas_repo_documents.proofs.Decided.{first_in}
use Rattle.aas_repo_documents.proofs.stored.later_cause.Goals as goal

pub returns-in-Some : goal.returns-in-Some
returns-in-Some g c =
    let room = unless c.args.has_room StorageFull ∷ [] in
    sym (first_in (document_causes (g.D.Stored.document c.args.document.now)) room
    ∙ ap (λ o. option_or o (first_of room)) (sym c.in_ok-refusal.ensures ∙ c.in-Some.is))
