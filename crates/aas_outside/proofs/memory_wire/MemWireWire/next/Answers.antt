use Rattle.std.proofs.Common.{◌≡◌, ap, rules}
use Rattle.aas_outside.specs.MemWire.{MemWireState}
use Rattle.aas_outside.specs.declared.visit.NextVisit.TheVariants.{New}
use Rattle.aas_outside.proofs.Connections.{IsOpen, is_open, begins, new_where_asked}
use Rattle.aas_outside.proofs.memory_wire.MemWireWire.next.Goals as goal

pub returns-clause-begins : goal.returns-clause-begins
returns-clause-begins c =
    let opened : IsOpen c.args.may_begin c.args.self.now c.keep_open.new.self =
    is_open c.args.may_begin c.args.self.now _ _ _ c.keep_open.new.self
    (ap (λ (w : MemWireState). let s : MemWireState = record w { calls = c.next_fails.new.self } in s) c.self.view_is)
    c.end_present.ensures c.keep_open.ensures in
    begins c.args.may_begin c.args.self.now c.keep_open.new.self
    c.begin_first.new.self c.begin_first.result opened c.begin_first.ensures.begins

pub returns-clause-call : goal.returns-clause-call
returns-clause-call c = record {
  asked = λ no is.
      let opened : IsOpen c.args.may_begin c.args.self.now c.keep_open.new.self =
      is_open c.args.may_begin c.args.self.now _ _ _ c.keep_open.new.self
      (ap (λ (w : MemWireState). let s : MemWireState = record w { calls = c.next_fails.new.self } in s) c.self.view_is)
      c.end_present.ensures c.keep_open.ensures in
      let new : c.begin_first.result ≡ New = cc in
      new_where_asked c.args.may_begin c.args.self.now c.keep_open.new.self
      c.begin_first.new.self c.begin_first.result opened c.begin_first.ensures.begins no new;
  counted = search rules;
  faults = search rules;
  cause = search rules;
}
