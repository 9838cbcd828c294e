use Rattle.std.proofs.Common.{refl, sym, ◌∙◌}
use Rattle.aas_repo.proofs.Imported.{refuses}
use Rattle.aas_repo.proofs.importing.import.Goals as goal

pub returns-in-Ok-Some : goal.returns-in-Ok-Some
returns-in-Ok-Some g c =
    let d = g.S.Store.documents c.args.store.now in
    refuses c.args.has_room d c.args.environment d c.in-Ok-Some.refusal
    (sym c.in-Ok-Some.field-0-is ∙ c.in-Ok-Some.ensures) refl
