use Rattle.std.proofs.Common.{◌≡◌, ◌≤◌, ◌+◌, ℕ, List, false, Some}
use Rattle.aas_outside.specs.Surroundings.{Connections, sent_on_all}
use Rattle.aas_rule.specs.State.{IsSettledState, PassesTo, repository_of}
use Rattle.aas_session.proofs.Progress.{Progress}
use Rattle.aas_session.proofs.wire.serve.Given as goal

abbrev pub invariant-visits : goal.invariant-visits
invariant-visits g l = let M = g.M.Machine in let W = g.W.Link in record {
  progress : (c : Connections) (sent : List ℕ) (records : List (List ℕ))
      → (W.state l.fn.wire).surroundings.connections ≡ Some c → (W.state l.fn.wire).sent ≡ Some sent
      → IsSettledState M.stands_for (M.state l.fn.machine).held records
      → Progress (M.rule (M.state l.fn.machine).room) M.stands_for (repository_of (M.state l.fn.machine).held records) c
      (sent_on_all c sent) l.count l.begun l._number (M.state l.fn.machine).held.moment (M.state l.machine).held
      (W.state l.wire).surroundings.connections (W.state l.wire).sent (W.state l.fn.wire).faults (W.state l.wire).faults;
  within : l.begun ≤ l.count;
  few : (W.state l.wire).surroundings.clients ≤ (W.state l.fn.wire).surroundings.clients + l.begun;
  room : (M.state l.machine).room ≡ (M.state l.fn.machine).room;
  past : PassesTo (M.state l.fn.machine).held (M.state l.machine).held;
  stopped : (M.state l.machine).stopped ≡ false;
  calm_keeper : (M.state l.machine).faults ≡ (M.state l.fn.machine).faults;
  later_wire : (W.state l.fn.wire).surroundings.faults ≤ (W.state l.wire).surroundings.faults;
}
