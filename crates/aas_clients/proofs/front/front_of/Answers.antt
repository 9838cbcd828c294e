use Rattle.std.proofs.Common.{[]}
use Rattle.aas_clients.proofs.Wholes.{one_alone}
use Rattle.aas_clients.proofs.front.front_of.Goals as goal

pub more_requests-requires-clause-one : goal.more_requests-requires-clause-one
more_requests-requires-clause-one c =
    one_alone c.ends_by_itself.ensures c.args.bytes.now _ c.in-Request.size c.in-Request.ensures.0
    (c.in-Request.ensures.1 [])
