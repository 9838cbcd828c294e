use Rattle.std.proofs.Common.{arith, rules}
use Rattle.aas_outside.proofs.Connections.{one_more_ready, one_more_place}
use Rattle.aas_outside.proofs.memory_wire.MemWire.add_visit.Goals as goal

pub invariant_of-self-2 : goal.invariant_of-self-2
invariant_of-self-2 c = (
  c.self.invariant.0,
  omega (
    arith,
    one_more_place c.self.inside.coming.items c.push_back.new.self.items
        c.self.inside.present _ _ c.push_back.ensures.items,
    c.in_ok-reserve.ensures.ok,
    c.in_ok-reserve.ensures.len,
    c.len.ensures,
  ),
  one_more_ready c.self.inside.coming.items c.push_back.new.self.items c.self.inside.present
      c.self.inside.room _ _ c.push_back.ensures.items (search rules) (search rules) c.self.invariant.2,
  omega (arith, c.self.invariant.3, c.in_ok-reserve.ensures.len),
)
