use Rattle.std.proofs.Common.{refl, sym, ◌∙◌}
use Rattle.aas_repo_documents.proofs.Decided.{makes, refuses}
use Rattle.aas_repo_documents.proofs.stored.put.Goals as goal

pub returns-in-Ok : goal.returns-in-Ok
returns-in-Ok g c = λ command puts.
    makes _ _ _ command _ puts (sym c.in-Ok-None.field-0-is ∙ c.in-Ok-None.ensures) c.in-Ok.ensures.ok

pub returns-in-Ok-Some : goal.returns-in-Ok-Some
returns-in-Ok-Some g c = λ command puts.
    refuses _ _ _ command _ _ puts (sym c.in-Ok-Some.field-0-is ∙ c.in-Ok-Some.ensures) refl
