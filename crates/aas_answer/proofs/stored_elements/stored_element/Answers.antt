use Rattle.std.proofs.Common.{Err, ap}
use Rattle.aas_answer.proofs.Found.{lack_told}
use Rattle.aas_answer.proofs.stored_elements.stored_element.Goals as goal

pub returns-in-Err-clause-lost : goal.returns-in-Err-clause-lost
returns-in-Err-clause-lost g c =
    lack_told (g.S.Store.documents c.args.store.now) c.args.id.now c.as_str.result.now
    c.args.path.now.steps c.in-Err.lack c.refusal_of.result c.as_str.ensures.bytes
    (λ is. c.in-Err.ensures.no_submodel.0 (ap Err is))
    (λ m is. (c.in-Err.ensures.no_element m).0 (ap Err is)) c.refusal_of.ensures
