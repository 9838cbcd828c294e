use Rattle.std.proofs.Common.{◌-◌, ◌≡◌, ◌≤◌, length, take}
use Rattle.std.specs.Io.KnownBytes.{append_known}
use Rattle.aas_outside.proofs.giving.give_all.Given as goal

abbrev pub invariant-loop-given : goal.invariant-loop-given
invariant-loop-given g l = record {
  within : l.given ≤ length l.bytes;
  sent : (g.L.Link.state l.link).sent ≡ append_known (g.L.Link.state l.fn.link).sent (take l.given l.bytes);
  surroundings : (g.L.Link.state l.link).surroundings ≡ (g.L.Link.state l.fn.link).surroundings;
  left : (g.L.Link.state l.link).left ≡ (g.L.Link.state l.fn.link).left;
  later : (g.L.Link.state l.fn.link).faults ≤ (g.L.Link.state l.link).faults;
}

abbrev pub decreases-loop-given : goal.decreases-loop-given
decreases-loop-given g l = length l.bytes - l.given
