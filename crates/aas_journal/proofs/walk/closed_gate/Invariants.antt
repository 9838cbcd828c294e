use Rattle.std.proofs.Common.{◌≡◌, ◌<◌, ◌-◌}
use Rattle.std.specs.Option.{ForSome}
use Rattle.aas_outside_disk.specs.Disk.{OnlyReads}
use Rattle.aas_outside_disk.specs.Files.{file}
use Rattle.aas_journal.proofs.Walks.{Meets}
use Rattle.aas_journal.proofs.walk.closed_gate.Given as goal

abbrev pub invariant-gates : goal.invariant-gates
invariant-gates g l = record {
  within : l.gate < l.size;
  meets : ForSome (g.D.Disk.state l.fn.disk).seen (λ files. Meets (file l.part files) l.gate);
  reads : OnlyReads (g.D.Disk.state l.fn.disk) (g.D.Disk.state l.disk);
  calm : (g.D.Disk.state l.disk).faults ≡ (g.D.Disk.state l.fn.disk).faults;
}

abbrev pub decreases-gates : goal.decreases-gates
decreases-gates g l = l.size - l.gate
