use Rattle.std.proofs.Common.{Bool, false, None, refl, sym, subst}
use Rattle.aas_command.specs.declared.command.Command.TheVariants.{Import}
use Rattle.aas_command.specs.declared.refusal.Refusal.TheVariants.{StorageFull}
use Rattle.aas_repo.proofs.Imported.{comes, imports, storable}
use Rattle.aas_repo.proofs.importing.put_environment.Goals as goal
use Rattle.aas_repo_documents.specs.Decisions.{IsDecision}
use Rattle.aas_repo_documents.specs.declared.decision.Decision.TheVariants as decision

pub returns-then-not-has_room : goal.returns-then-not-has_room
returns-then-not-has_room g c =
    let d = g.S.Store.documents c.args.store.now in
    subst (λ (b : Bool). IsDecision b d (Import c.args.environment) d (decision.Refused StorageFull))
    (sym c.if-not-has_room.true)
    (refl, λ is. absurd (cc), comes false d c.args.environment None c.requires.no_cause)

pub put_all-requires : goal.put_all-requires
put_all-requires g c =
    storable c.args.environment c.valid_submodels_are_storable.ensures c.requires.whole c.requires.no_cause

pub returns-in-Ok : goal.returns-in-Ok
returns-in-Ok g c =
    let d = g.S.Store.documents c.args.store.now in
    let new = g.S.Store.documents c.put_all.new.self in
    subst (λ (b : Bool). IsDecision b d (Import c.args.environment) new decision.Made) (sym c.if-not-has_room.false)
    (imports d new c.args.environment c.requires.no_cause c.in-Ok.ensures.ok)
