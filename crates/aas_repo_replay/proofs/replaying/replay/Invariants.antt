use Rattle.std.proofs.Common.{◌≡◌, ◌-◌, ◌^◌, ℕ, List}
use Rattle.aas_outside_disk.specs.Disk.{OnlyReads}
use Rattle.aas_journal.specs.Kept.{fits}
use Rattle.aas_journal.specs.Shown.{disk_of, kept_by}
use Rattle.aas_step.specs.Valid.{AreValid}
use Rattle.aas_repo_replay.specs.Replaying.{HasDone}
use Rattle.aas_repo_replay.proofs.replaying.replay.Given as goal

abbrev pub invariant-gates : goal.invariant-gates
invariant-gates g l = record {
  done : (payloads : List (List ℕ))
      → kept_by l.fn.journal payloads → HasDone payloads l.gate (g.S.Store.documents l.store);
  kept : (payloads : List (List ℕ)) → kept_by l.fn.journal payloads → kept_by l.journal payloads;
  room : fits l.journal.gate ≡ fits l.fn.journal.gate;
  valid : AreValid (g.S.Store.documents l.store);
  reads : OnlyReads (g.D.Disk.state (disk_of l.fn.journal)) (g.D.Disk.state (disk_of l.journal));
  calm : (g.D.Disk.state (disk_of l.journal)).faults ≡ (g.D.Disk.state (disk_of l.fn.journal)).faults;
}

abbrev pub decreases-gates : goal.decreases-gates
decreases-gates g l = 2 ^ 64 - l.gate
