use Rattle.std.proofs.Common.{◌≤◌, ◌-◌, length, take}
use Rattle.aas_clients.specs.Fronts.{AreRequests}
use Rattle.aas_clients.proofs.front.more_requests.Given as goal

abbrev pub invariant-requests : goal.invariant-requests
invariant-requests l = record {
  within : l.end ≤ length l.bytes;
  some : 1 ≤ l.requests;
  most : l.requests ≤ l.most;
  whole : AreRequests l.requests (take l.end l.bytes);
}

abbrev pub decreases-requests : goal.decreases-requests
decreases-requests l = l.most - l.requests
