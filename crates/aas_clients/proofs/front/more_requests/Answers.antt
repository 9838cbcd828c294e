use Rattle.std.proofs.Common.{[], arith}
use Rattle.std.proofs.lemmas.List.{take_rest}
use Rattle.aas_clients.proofs.Wholes.{one_further}
use Rattle.aas_clients.proofs.front.more_requests.Goals as goal

pub requests-preserved : goal.requests-preserved
requests-preserved c =
    let F =
    one_further c.ends_by_itself.ensures c.args.bytes.now c.requests.end c.in-Request.size c.requests.requests _ _
    (take_rest c.args.bytes.now c.requests.end) c.requests.invariant.within
    c.in-Request.ensures.0 c.requests.invariant.whole (c.in-Request.ensures.1 []) in
    record {
      within = F.0;
      some = omega arith;
      most = omega (arith, c.requests-test.true);
      whole = F.1;
    }
