use Rattle.std.proofs.Common.{Err, ap}
use Rattle.aas_repo_values.proofs.Updated.{lack_refuses}
use Rattle.aas_repo_values.proofs.updating.stored_element.Goals as goal

pub returns-in-Err-clause-lost : goal.returns-in-Err-clause-lost
returns-in-Err-clause-lost g c = λ other v.
    lack_refuses (g.S.Store.documents c.args.store.now) c.args.id.now
    c.as_str.result.now c.args.path.now v c.in-Err.lack c.refusal_of.result
    c.as_str.ensures.bytes c.requires
    (λ is. c.in-Err.ensures.no_submodel.0 (ap Err is))
    (λ m is. (c.in-Err.ensures.no_element m).0 (ap Err is)) c.refusal_of.ensures other
