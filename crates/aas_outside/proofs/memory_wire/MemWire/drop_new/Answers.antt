use Rattle.std.proofs.Common.{◌≡◌, List, arith, ap, ◌∙◌, sym}
use Rattle.aas_outside.specs.MemVisit.{visits_from}
use Rattle.aas_outside.specs.MemWire.{MemWireState}
use Rattle.aas_outside.specs.Surroundings.{Visit, to_first}
use Rattle.aas_outside.proofs.Connections.{kept_ready, to_first_kept}
use Rattle.aas_outside.proofs.memory_wire.MemWire.drop_new.Goals as goal

pub invariant_of-self : goal.invariant_of-self
invariant_of-self c = (
  c.self.invariant.0,
  omega (arith, c.self.invariant.1, c.keep_begun.ensures.fewer),
  kept_ready c.self.inside.clients c.self.inside.coming.items c.keep_begun.new.coming.items
      c.self.inside.present c.self.inside.room c.keep_begun.ensures.kept c.self.invariant.2,
  c.self.invariant.3,
)

pub returns : goal.returns
returns c =
    let n = c.self.inside.clients in
    let is : visits_from n c.keep_begun.new.coming.items ≡ to_first n (visits_from n c.self.inside.coming.items) =
    ap (λ l. visits_from n l) c.keep_begun.ensures.kept
    ∙ sym (to_first_kept n n c.self.inside.coming.items (omega arith)) in
    ap (λ (l : List Visit). let s : MemWireState = record {
      coming = l;
      clients = n;
      ended = (let w : MemWireState = Rattle.aas_outside.specs.contracts.memory_wire.MemWire.the_view c.self.inside in
          w).ended;
      present = c.self.inside.present;
      room = c.self.inside.room;
      piece = c.self.inside.piece;
      calls = c.self.inside.calls;
      faults = c.self.inside.faults;
      wire_faults = c.self.inside.wire_faults;
    } in s) is
    ∙ ap (λ (w : MemWireState). let s : MemWireState = record w { coming = to_first w.clients w.coming } in s)
    c.self.view_is
