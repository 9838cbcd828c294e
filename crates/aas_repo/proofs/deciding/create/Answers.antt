use Rattle.std.proofs.Common.{refl, subst}
use Rattle.aas_command.specs.declared.refusal.Refusal.TheVariants.{Conflict}
use Rattle.aas_repo.proofs.Decided.{asked, clear, conflicts}
use Rattle.aas_repo.proofs.deciding.create.Goals as goal
use Rattle.aas_repo_documents.specs.Decisions.{IsDecision}
use Rattle.aas_repo_documents.specs.declared.decision.Decision.TheVariants as decision

pub returns-then-has : goal.returns-then-has
returns-then-has g c =
    let d = g.S.Store.documents c.args.store.now in
    let there = asked d _ _ _ _ _ _ c.collection.ensures c.id.ensures c.has.ensures c.if-has.true in
    subst (λ x. IsDecision c.args.has_room d (g.D.Stored.creating x) d (decision.Refused Conflict))
    c.into_inner-document.ensures
    (conflicts _ d d _ _ _ _ (g.met.D.Stored.creates d c.into_inner-document.result) there refl)

pub returns : goal.returns
returns g c =
    let d = g.S.Store.documents c.args.store.now in
    let there = asked d _ _ _ _ _ _ c.collection.ensures c.id.ensures c.has.ensures c.if-has.false in
    subst (λ x. IsDecision c.args.has_room d (g.D.Stored.creating x) (g.S.Store.documents c.put.new.store) c.put.result)
    c.into_inner-document.ensures
    (c.put.ensures _ (clear d _ _ _ _ (g.met.D.Stored.creates d c.into_inner-document.result) there))
