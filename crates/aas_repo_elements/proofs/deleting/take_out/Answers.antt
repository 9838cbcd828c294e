use Rattle.std.proofs.Common.{Bool, sym, subst}
use Rattle.std.specs.Prelude.{IsSome}
use Rattle.std.specs.Str.{encode_utf8_all}
use Rattle.aas_command.specs.declared.command.Command.TheVariants.{DeleteElement}
use Rattle.aas_command.specs.declared.refusal.Refusal.TheVariants.{StorageFull}
use Rattle.aas_path_trees.specs.ElementAt.{element_at}
use Rattle.aas_repo_documents.proofs.Accepted.{holds_at}
use Rattle.aas_repo_elements.proofs.Deleted.{deleted, no_room}
use Rattle.aas_repo_elements.proofs.deleting.take_out.Goals as goal
use Rattle.aas_repo_documents.specs.Decisions.{IsDecision}
use Rattle.aas_repo_documents.specs.declared.decision.Decision.TheVariants as decision

pub returns-then-not-has_room : goal.returns-then-not-has_room
returns-then-not-has_room g c =
    let d = g.S.Store.documents c.args.store.now in
    subst (λ (b : Bool). IsDecision b d (DeleteElement c.args.id.now c.args.path.now) d (decision.Refused StorageFull))
    (sym c.if-not-has_room.true)
    (no_room d c.args.id.now c.args.path.now c.edits_keep_valid.ensures
    c.edits_count.ensures c.requires.valid c.requires.there)

pub delete_element-requires : goal.delete_element-requires
delete_element-requires g c =
    holds_at (g.S.Store.documents c.args.store.now) (encode_utf8_all c.args.id.now) c.as_str.result.now (λ s.
    IsSome (element_at s c.args.path.now.steps))
    c.as_str.ensures.bytes c.requires.there

pub returns-in-Ok : goal.returns-in-Ok
returns-in-Ok g c =
    let d = g.S.Store.documents c.args.store.now in
    let new = g.S.Store.documents c.delete_element.new.self in
    subst (λ (b : Bool). IsDecision b d (DeleteElement c.args.id.now c.args.path.now) new decision.Made)
    (sym c.if-not-has_room.false)
    (deleted d c.args.id.now c.args.path.now new c.as_str.result.now
    c.edits_keep_valid.ensures c.edits_count.ensures c.requires.valid c.requires.there
    c.as_str.ensures.bytes c.in-Ok.ensures.ok)
