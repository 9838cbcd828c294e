use Rattle.std.proofs.Common.{refl, subst, sym, ap, ◌∙◌}
use Rattle.aas_command.specs.declared.refusal.Absent.{Absent}
use Rattle.aas_command.specs.declared.refusal.Refusal.TheVariants.{NotFound}
use Rattle.aas_step.specs.Causes.{absent_of}
use Rattle.aas_repo.proofs.Decided.{asked, found, misses}
use Rattle.aas_repo.proofs.deciding.replace.Goals as goal
use Rattle.aas_repo_documents.specs.Decisions.{IsDecision}
use Rattle.aas_repo_documents.specs.declared.decision.Decision.TheVariants as decision

pub returns-then-not-has : goal.returns-then-not-has
returns-then-not-has g c =
    let d = g.S.Store.documents c.args.store.now in
    let there = asked d _ _ _ _ _ _ c.collection.ensures c.id.ensures c.has.ensures c.if-not-has.true in
    let x = c.into_inner-document.result in
    let what = c.absent_of.ensures ∙ ap absent_of c.collection-then-not-has.ensures in
    subst (λ y.
    IsDecision c.args.has_room d (g.D.Stored.replacing y) d (decision.Refused (NotFound c.absent_of.result)))
    c.into_inner-document.ensures
    (subst (λ (a : Absent). IsDecision c.args.has_room d (g.D.Stored.replacing x) d (decision.Refused (NotFound a)))
    (sym what)
    (misses _ d d _ _ _ (g.met.D.Stored.replaces d x).causes_are there refl))

pub returns : goal.returns
returns g c =
    let d = g.S.Store.documents c.args.store.now in
    let there = asked d _ _ _ _ _ _ c.collection.ensures c.id.ensures c.has.ensures c.if-not-has.false in
    subst (λ x.
    IsDecision c.args.has_room d (g.D.Stored.replacing x) (g.S.Store.documents c.put.new.store) c.put.result)
    c.into_inner-document.ensures
    (c.put.ensures _ (found d _ _ _ _ (g.met.D.Stored.replaces d c.into_inner-document.result) there))
