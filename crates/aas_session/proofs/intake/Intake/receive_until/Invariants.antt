use Rattle.std.proofs.Common.{◌≡◌, ◌≤◌, ◌-◌, length}
use Rattle.aas_session.specs.Intake.{Receives}
use Rattle.aas_session.proofs.intake.Intake.receive_until.Given as goal

abbrev pub invariant-pieces : goal.invariant-pieces
invariant-pieces g l = let L = g.L.Link in record {
  received : Receives l.fn.self.unread l.self.unread (L.state l.fn.link).left (L.state l.link).left;
  sent : (L.state l.link).sent ≡ (L.state l.fn.link).sent;
  surroundings : (L.state l.link).surroundings ≡ (L.state l.fn.link).surroundings;
  later : (L.state l.fn.link).faults ≤ (L.state l.link).faults;
}

abbrev pub decreases-pieces : goal.decreases-pieces
decreases-pieces g l = l.count - length l.self.unread
