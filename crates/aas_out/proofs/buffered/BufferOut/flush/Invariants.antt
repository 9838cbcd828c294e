use Rattle.std.proofs.Common.{◌-◌, ◌≡◌, ◌≤◌, length}
use Rattle.std.specs.Io.KnownBytes.{append_known}
use Rattle.aas_out.specs.Held.{held_by}
use Rattle.aas_out.specs.Told.{Grows}
use Rattle.aas_out.proofs.buffered.BufferOut.flush.Given as goal

abbrev pub invariant-loop-self : goal.invariant-loop-self
invariant-loop-self g l = record {
  same_reference : l.self.link.ghost_name ≡ l.fn.self.link.ghost_name;
  sent : append_known (g.L.Link.state l.self.link.now).sent (held_by l.self)
      ≡ append_known (g.L.Link.state l.fn.self.link.now).sent (held_by l.fn.self);
  more : Grows (g.L.Link.state l.fn.self.link.now).sent (g.L.Link.state l.self.link.now).sent;
  surroundings : (g.L.Link.state l.self.link.now).surroundings ≡ (g.L.Link.state l.fn.self.link.now).surroundings;
  left : (g.L.Link.state l.self.link.now).left ≡ (g.L.Link.state l.fn.self.link.now).left;
  later : (g.L.Link.state l.fn.self.link.now).faults ≤ (g.L.Link.state l.self.link.now).faults;
}

abbrev pub decreases-loop-self : goal.decreases-loop-self
decreases-loop-self g l = length l.self.held.now.items - l.self.given
