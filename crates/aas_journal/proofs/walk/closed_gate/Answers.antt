use Rattle.std.proofs.Common.{◌∙◌, refl, drop, subst}
use Rattle.aas_outside_disk.specs.Files.{file}
use Rattle.aas_journal.specs.Gates.{IsBetween, StandsAt}
use Rattle.aas_journal.specs.declared.walk.Gate.{Gate}
use Rattle.aas_journal.specs.declared.walk.Gate.TheVariants.{Open}
use Rattle.aas_journal.proofs.Disks.{known, reads_none, reads_then}
use Rattle.aas_journal.proofs.Walks.{begun, further}
use Rattle.aas_journal.proofs.walk.closed_gate.Goals as goal

pub gates-init : goal.gates-init
gates-init g c =
    let D = g.D.Disk in
    let disk = c.args.disk.now in
    record {
      within = c.requires.some;
      meets = λ files told. begun (file c.args.part files) (known files (D.state disk).seen _ told c.requires.size).1;
      reads = reads_none (D.state disk);
      calm = refl;
    }

pub gates-preserved : goal.gates-preserved
gates-preserved g c =
    let D = g.D.Disk in
    let disk = c.args.disk.now in
    let before = c.gates.invariant in
    let between : IsBetween c.gates.gate c.args.size (Open c.in-Open.next) =
    subst (λ (gate : Gate). IsBetween c.gates.gate c.args.size gate) c.in-Open.is c.in_ok-gate_at.ensures.next in
    record {
      within = between.1;
      meets = λ files told. further (file c.args.part files) c.gates.gate (before.meets files told) c.in-Open.next
          (subst (λ (gate : Gate). StandsAt (drop c.gates.gate (file c.args.part files)) c.gates.gate gate) c.in-Open.is
          (known files (D.state c.gates.disk).seen _ (before.reads.seen ∙ told) c.in_ok-gate_at.ensures.value));
      reads =
          reads_then (D.state disk) (D.state c.gates.disk) (D.state c.gate_at.new.disk)
          before.reads c.gate_at.ensures.reads;
      calm = c.in_ok-gate_at.ensures.call.calm ∙ before.calm;
    }
