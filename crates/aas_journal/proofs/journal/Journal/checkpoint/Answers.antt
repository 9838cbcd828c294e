use Rattle.std.proofs.Common.{[], ◌∷◌, arith}
use Rattle.std.proofs.lemmas.Grind.{common_steps}
use Rattle.aas_outside_disk.specs.Disk.{MayLeave, written}
use Rattle.aas_outside_disk.specs.declared.part.Part.TheVariants.{Selector}
use Rattle.aas_journal.specs.Checkpoint.{one_record, turned}
use Rattle.aas_journal.proofs.Placed.{within_rewrite}
use Rattle.aas_journal.proofs.Checkpoints.{during_first, during_second, settled_on_one, stays_both, stays_first}
use Rattle.aas_journal.proofs.journal.Journal.checkpoint.Goals as goal

pub invariant_of-self : goal.invariant_of-self
invariant_of-self g c =
    let seen = λ (d : g.row.D.Denot). (g.D.Disk.state d).seen in
    let self = c.args.self.now in
    record {
      within =
          within_rewrite (seen self.disk) (seen c.write_alone.new.disk) self.part c.other-part.result self.gate
          (written 0 (one_record c.args.frame.now)) c.write_alone.result self.within c.write_alone.ensures.rewritten;
    }

pub invariant_of-self-in-Break-branch-2 : goal.invariant_of-self-in-Break-branch-2
invariant_of-self-in-Break-branch-2 g c =
    let seen = λ (d : g.row.D.Denot). (g.D.Disk.state d).seen in
    let self = c.args.self.now in
    let first = within_rewrite (seen self.disk) (seen c.write_alone.new.disk) self.part c.other-part.result self.gate
    (written 0 (one_record c.args.frame.now)) c.write_alone.result self.within c.write_alone.ensures.rewritten in
    record {
      within =
          within_rewrite (seen c.write_alone.new.disk) (seen c.turn_selector.new.disk) self.part
          Selector self.gate turned c.turn_selector.result first c.turn_selector.ensures.rewritten;
    }

pub returns-in_err-write_alone-clause-meanwhile : goal.returns-in_err-write_alone-clause-meanwhile
returns-in_err-write_alone-clause-meanwhile g c = λ payloads settled.
    let wrote = c.write_alone.ensures in
    during_first g.D.Disk c.args.self.now payloads settled.told c.other-part.result c.other-part.ensures
    c.write_alone.new.disk wrote.call.past wrote.images settled.alone (c.args.frame.now ∷ [])

pub returns-in_err-turn_selector-clause-meanwhile : goal.returns-in_err-turn_selector-clause-meanwhile
returns-in_err-turn_selector-clause-meanwhile g c = λ payloads settled.
    let wrote = c.in_ok-write_alone.ensures in
    let turns = c.turn_selector.ensures in
    during_second g.D.Disk c.args.self.now payloads settled.told c.other-part.result
    c.other-part.ensures c.write_alone.new.disk wrote.call.past wrote.images
    c.args.frame.now (omega (arith, c.len.ensures.value, c.len.ensures.limit)) wrote.rewritten
    wrote.durable c.turn_selector.new.disk turns.call.past turns.images settled.alone

pub returns-clause-meanwhile : goal.returns-clause-meanwhile
returns-clause-meanwhile g c = λ payloads settled.
    let wrote = c.in_ok-write_alone.ensures in
    let turns = c.turn_selector.ensures in
    during_second g.D.Disk c.args.self.now payloads settled.told c.other-part.result
    c.other-part.ensures c.write_alone.new.disk wrote.call.past wrote.images
    c.args.frame.now (omega (arith, c.len.ensures.value, c.len.ensures.limit)) wrote.rewritten
    wrote.durable c.turn_selector.new.disk turns.call.past turns.images settled.alone

pub returns-clause-puts : goal.returns-clause-puts
returns-clause-puts g c = λ payloads kept.
    let D = g.D.Disk in
    let self = c.args.self.now in
    let wrote = c.in_ok-write_alone.ensures in
    let turns = c.in_ok-turn_selector.ensures in
    record {
      settled =
          settled_on_one g.D.Disk self payloads kept c.other-part.result
          c.other-part.ensures c.write_alone.new.disk wrote.call.past wrote.images
          c.args.frame.now (omega (arith, c.len.ensures.value, c.len.ensures.limit))
          wrote.rewritten wrote.durable c.turn_selector.new.disk turns.call.past turns.images
          _ (omega (arith, c.len-2.ensures.value)) turns.rewritten turns.durable;
      bytes = grind (arith, common_steps, kept);
      stays =
          stays_both (D.state self.disk).seen (MayLeave (D.state self.disk)) self.part self.gate
          payloads kept c.other-part.result c.other-part.ensures (D.state c.write_alone.new.disk).seen
          (written 0 (one_record c.args.frame.now)) c.write_alone.result c.write_alone.ensures.rewritten
          (D.state c.turn_selector.new.disk).seen turned c.turn_selector.result c.turn_selector.ensures.rewritten;
    }

pub returns-in_err-write_alone-clause-puts : goal.returns-in_err-write_alone-clause-puts
returns-in_err-write_alone-clause-puts g c = λ payloads kept.
    let D = g.D.Disk in
    let self = c.args.self.now in
    record {
      settled = grind (arith, common_steps);
      bytes = grind (arith, common_steps);
      stays =
          stays_first (D.state self.disk).seen (MayLeave (D.state self.disk)) self.part self.gate
          payloads kept c.other-part.result c.other-part.ensures (D.state c.write_alone.new.disk).seen
          (written 0 (one_record c.args.frame.now)) c.write_alone.result c.write_alone.ensures.rewritten;
    }

pub returns-in_err-turn_selector-clause-puts : goal.returns-in_err-turn_selector-clause-puts
returns-in_err-turn_selector-clause-puts g c = λ payloads kept.
    let D = g.D.Disk in
    let self = c.args.self.now in
    record {
      settled = grind (arith, common_steps);
      bytes = grind (arith, common_steps);
      stays =
          stays_both (D.state self.disk).seen (MayLeave (D.state self.disk)) self.part self.gate
          payloads kept c.other-part.result c.other-part.ensures (D.state c.write_alone.new.disk).seen
          (written 0 (one_record c.args.frame.now)) c.write_alone.result c.write_alone.ensures.rewritten
          (D.state c.turn_selector.new.disk).seen turned c.turn_selector.result c.turn_selector.ensures.rewritten;
    }
