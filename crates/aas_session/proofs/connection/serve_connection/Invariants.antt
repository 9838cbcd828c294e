use Rattle.std.proofs.Common.{◌≡◌, ◌-◌, ◌+◌, ◌*◌, ◌<◌, ◌≤◌, ℕ, List, false, Some, length}
use Rattle.aas_out.specs.Held.{held_by}
use Rattle.aas_rule.specs.State.{IsSettledState, PassesTo, repository_of}
use Rattle.aas_session.proofs.SoFar.{SoFar}
use Rattle.aas_session.proofs.connection.serve_connection.Given as goal

abbrev pub invariant-requests : goal.invariant-requests
invariant-requests g l = let M = g.M.Machine in let L = g.L.Link in record {
  so_far : (input : List ℕ) (records : List (List ℕ)) → (L.state l.fn.link).left ≡ Some input
      → IsSettledState M.stands_for (M.state l.fn.machine).held records
      → SoFar (M.rule (M.state l.fn.machine).room) M.stands_for
      (repository_of (M.state l.fn.machine).held records) input (M.state l.fn.machine).held.moment (M.state l.machine).held
      (L.state l.fn.link).sent (L.state l.out.link.now).sent (held_by l.out) l.requests l.intake.unread (L.state l.out.link.now).left;
  same_reference : l.out.link.ghost_name ≡ l.initial.out.link.ghost_name;
  room : (M.state l.machine).room ≡ (M.state l.fn.machine).room;
  past : PassesTo (M.state l.fn.machine).held (M.state l.machine).held;
  stopped : (M.state l.machine).stopped ≡ false;
  calm_keeper : (M.state l.machine).faults ≡ (M.state l.fn.machine).faults;
  later_link : (L.state l.fn.link).faults ≤ (L.state l.out.link.now).faults;
  surroundings : (L.state l.out.link.now).surroundings ≡ (L.state l.fn.link).surroundings;
  some : 0 < l.requests;
}

-- a request is at most so long
abbrev pub decreases-requests : goal.decreases-requests
decreases-requests g l = l.requests * 4210689 + (4210688 - length l.intake.unread)
