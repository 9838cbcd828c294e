use Rattle.std.proofs.Common.{◌≡◌, List, ℕ, Err, Some, ap, subst}
use Rattle.aas_store.specs.Edited.{Holds}
use Rattle.aas_store.specs.Spots.{rank_at}
use Rattle.aas_answer.proofs.Found.{lack_told, row_found}
use Rattle.aas_answer.proofs.stored_elements.stored_row.Goals as goal

pub returns-in-Ok-clause-ranked : goal.returns-in-Ok-clause-ranked
returns-in-Ok-clause-ranked g c =
    let d = g.S.Store.documents c.args.store.now in
    let Ranked : List ℕ → Type 0 = λ id. Holds d id (λ s. rank_at s c.args.path.now.steps ≡ Some c.in-Ok.found.0) in
    subst Ranked c.as_str.ensures.bytes c.in-Ok.ensures.ranked

pub returns-in-Ok-clause-found : goal.returns-in-Ok-clause-found
returns-in-Ok-clause-found g c =
    row_found (g.S.Store.documents c.args.store.now) c.args.id.now c.as_str.result.now
    c.args.path.now.steps c.in-Ok.found.1 c.as_str.ensures.bytes c.in-Ok.ensures.found

pub returns-in-Err-clause-lost : goal.returns-in-Err-clause-lost
returns-in-Err-clause-lost g c =
    lack_told (g.S.Store.documents c.args.store.now) c.args.id.now c.as_str.result.now
    c.args.path.now.steps c.in-Err.lack c.refusal_of.result c.as_str.ensures.bytes
    (λ is. c.in-Err.ensures.no_submodel.0 (ap Err is))
    (λ m is. (c.in-Err.ensures.no_element m).0 (ap Err is)) c.refusal_of.ensures
