use Rattle.std.proofs.Common.{suc, ◌-◌, ◌≡◌, ◌≤◌, length}
use Rattle.std.specs.Io.KnownBytes.{prepend_known}
use Rattle.aas_server.proofs.console.read_input.Given as goal

abbrev pub invariant-loop-text : goal.invariant-loop-text
invariant-loop-text g l = record {
  kept : (g.L.Link.state l.fn.link).left ≡ prepend_known l.text.items (g.L.Link.state l.link).left;
  within : length l.text.items ≤ l.fn.limit;
  sent : (g.L.Link.state l.link).sent ≡ (g.L.Link.state l.fn.link).sent;
  later : (g.L.Link.state l.fn.link).faults ≤ (g.L.Link.state l.link).faults;
}

abbrev pub decreases-loop-text : goal.decreases-loop-text
decreases-loop-text g l = suc l.fn.limit - length l.text.items
