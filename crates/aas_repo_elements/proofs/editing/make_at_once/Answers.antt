use Rattle.std.proofs.Common.{Bool, sym, subst}
use Rattle.aas_command.specs.declared.refusal.Refusal.TheVariants.{StorageFull}
use Rattle.aas_repo_documents.proofs.Accepted.{made, no_room}
use Rattle.aas_repo_documents.specs.Decisions.{IsDecision}
use Rattle.aas_repo_documents.specs.declared.decision.Decision.TheVariants as decision
use Rattle.aas_repo_elements.proofs.editing.make_at_once.Goals as goal

pub returns-then-not-has_room : goal.returns-then-not-has_room
returns-then-not-has_room g c =
    let d = g.S.Store.documents c.args.store.now in
    let command = g.E.Edit.command c.args.edit c.args.id.now in
    subst (λ (b : Bool). IsDecision b d command d (decision.Refused StorageFull)) (sym c.if-not-has_room.true)
    (no_room d command c.args.id.now _ _ (g.met.E.Edit.edits c.args.edit c.args.id.now d) c.requires.accepted)

pub returns-in-Ok : goal.returns-in-Ok
returns-in-Ok g c =
    let d = g.S.Store.documents c.args.store.now in
    let command = g.E.Edit.command c.args.edit c.args.id.now in
    let new = g.S.Store.documents c.put.new.store in
    subst (λ (b : Bool). IsDecision b d command new decision.Made) (sym c.if-not-has_room.false)
    (made d command c.args.id.now _ _ (g.met.E.Edit.edits c.args.edit c.args.id.now d) new c.requires.valid
    (g.met.E.Edit.keeps_head c.args.edit)
    c.requires.accepted c.in-Ok.ensures.ok)
