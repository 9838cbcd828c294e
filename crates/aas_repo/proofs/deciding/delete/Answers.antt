use Rattle.std.proofs.Common.{Bool, refl, subst, sym, ap, ◌∙◌}
use Rattle.std.specs.Prelude.{List, ℕ}
use Rattle.aas_command.specs.declared.refusal.Absent.{Absent}
use Rattle.aas_command.specs.declared.refusal.Refusal.TheVariants.{NotFound, StorageFull}
use Rattle.aas_store.specs.Documents.{without}
use Rattle.aas_repo.proofs.Decided.{asked, deleted, has_no_room, misses}
use Rattle.aas_repo.proofs.deciding.delete.Goals as goal
use Rattle.aas_repo_documents.specs.Decisions.{IsDecision}
use Rattle.aas_repo_documents.specs.declared.decision.Decision.TheVariants as decision

pub returns-then-not-has : goal.returns-then-not-has
returns-then-not-has g c = λ command deletes.
    let d = g.S.Store.documents c.args.store.now in
    subst (λ (a : Absent). IsDecision c.args.has_room d command d (decision.Refused (NotFound a)))
    (sym c.absent_of.ensures)
    (misses _ d d command _ _ deletes.causes_are
    (asked d _ _ _ _ _ _ refl c.as_str.ensures.bytes c.has.ensures c.if-not-has.true) refl)

pub returns-then-not-has_room : goal.returns-then-not-has_room
returns-then-not-has_room g c = λ command deletes.
    let d = g.S.Store.documents c.args.store.now in
    subst (λ (b : Bool). IsDecision b d command d (decision.Refused StorageFull)) (sym c.if-not-has_room.true)
    (has_no_room d d command _ _ deletes
    (asked d _ _ _ _ _ _ refl c.as_str.ensures.bytes c.has.ensures c.if-not-has.false) refl)

pub returns : goal.returns
returns g c = λ command deletes.
    let d = g.S.Store.documents c.args.store.now in
    subst (λ (b : Bool). IsDecision b d command (g.S.Store.documents c.delete.new.self) decision.Made)
    (sym c.if-not-has_room.false)
    (deleted d _ command _ _ deletes (asked d _ _ _ _ _ _ refl c.as_str.ensures.bytes c.has.ensures c.if-not-has.false)
    (c.delete.ensures ∙ ap (λ (id : List ℕ). without c.args.collection id d) c.as_str-2.ensures.bytes))
