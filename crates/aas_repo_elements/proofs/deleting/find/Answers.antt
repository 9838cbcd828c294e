use Rattle.std.proofs.Common.{Err, ap}
use Rattle.aas_repo_elements.proofs.Deleted.{is_found, is_lost_by}
use Rattle.aas_repo_elements.proofs.deleting.find.Goals as goal

pub returns-in-Ok-clause-found : goal.returns-in-Ok-clause-found
returns-in-Ok-clause-found g c =
    is_found (g.S.Store.documents c.args.store.now) c.args.id.now c.args.path.now
    _ c.in-Ok.field-0.1 c.as_str.ensures.bytes c.in-Ok.ensures.found

pub returns-in-Err-clause-lost : goal.returns-in-Err-clause-lost
returns-in-Err-clause-lost g c = λ room.
    is_lost_by (g.S.Store.documents c.args.store.now) c.args.id.now c.args.path.now
    _ c.in-Err.lack c.refusal_of.result c.as_str.ensures.bytes c.requires
    (λ is. c.in-Err.ensures.no_submodel.0 (ap Err is))
    (λ m is. (c.in-Err.ensures.no_element m).0 (ap Err is)) c.refusal_of.ensures room
