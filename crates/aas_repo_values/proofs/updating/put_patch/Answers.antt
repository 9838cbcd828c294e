use Rattle.std.proofs.Common.{Bool, refl, sym, ap, ◌∙◌, subst}
use Rattle.std.specs.Prelude.{List, ℕ}
use Rattle.aas_command.specs.declared.command.Command.TheVariants.{UpdateValue}
use Rattle.aas_command.specs.declared.refusal.Refusal.TheVariants.{StorageFull}
use Rattle.aas_store.specs.Edited.{patched_at, with_changed}
use Rattle.aas_repo_documents.specs.Decisions.{IsDecision}
use Rattle.aas_repo_documents.specs.declared.decision.Decision.TheVariants as decision
use Rattle.aas_repo_values.proofs.Updated.{no_room, updated}
use Rattle.aas_repo_values.proofs.updating.put_patch.Goals as goal

pub returns-then-not-has_room : goal.returns-then-not-has_room
returns-then-not-has_room g c = λ v is.
    let d = g.S.Store.documents c.args.store.now in
    subst (λ (b : Bool). IsDecision b d (UpdateValue c.args.id.now c.args.path.now v) d (decision.Refused StorageFull))
    (sym c.if-not-has_room.true)
    (no_room d d c.args.id.now c.args.path.now v c.args.update.patch.rows is refl)

pub returns : goal.returns
returns g c = λ v is.
    let d = g.S.Store.documents c.args.store.now in
    subst (λ (b : Bool).
    IsDecision b d (UpdateValue c.args.id.now c.args.path.now v) (g.S.Store.documents c.update.new.self) decision.Made)
    (sym c.if-not-has_room.false)
    (updated d
    (g.S.Store.documents c.update.new.self) c.args.id.now c.args.path.now v c.args.update.patch.rows c.requires.valid is
    (c.update.ensures
    ∙ ap (λ (id : List ℕ). with_changed d id (λ s. patched_at s c.args.path.now.steps c.args.update.patch.rows))
    c.as_str.ensures.bytes))
