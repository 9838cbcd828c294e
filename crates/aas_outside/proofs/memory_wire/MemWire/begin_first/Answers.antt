use Rattle.std.proofs.Common.{◌≡◌, ◌∷◌, true, false, None, refl, sym, ◌∙◌, ap, length, arith}
use Rattle.std.specs.Option.{option_to_list}
use Rattle.aas_outside.specs.MemWire.{MemWireState}
use Rattle.aas_outside.proofs.Connections.{begins_first_now, first_ready}
use Rattle.aas_outside.proofs.memory_wire.MemWire.begin_first.Goals as goal

pub invariant_of-self : goal.invariant_of-self
invariant_of-self c =
    let is : c.self.inside.coming.items ≡ c.in-Some.visit ∷ c.pop_front.new.self.items = c.in-Some.ensures.items in (
      c.self.invariant.0,
      omega (arith, c.self.invariant.1, ap length is),
      (first_ready _ _ c.in-Some.visit _ _ is c.self.invariant.2).0,
      (let none : c.self.inside.present ≡ None = ap (λ (w : MemWireState). w.present) c.self.view_is ∙ c.requires in
          omega (arith, c.self.invariant.3, ap (λ p. length (option_to_list p)) none)),
    )

pub returns-then-is_again-clause-begins : goal.returns-then-is_again-clause-begins
returns-then-is_again-clause-begins c =
    let is : c.self.inside.coming.items ≡ c.in-Some.visit ∷ c.pop_front.new.self.items = c.in-Some.ensures.items in
    begins_first_now _ c.args.self.now c.self.inside.coming.items c.pop_front.new.self.items c.in-Some.visit
    c.self.view_is refl is (first_ready _ _ c.in-Some.visit _ _ is c.self.invariant.2).1 true
    (sym c.if-is_again.true ∙ c.is_below-is_again.ensures)

pub invariant_of-self-in-Some : goal.invariant_of-self-in-Some
invariant_of-self-in-Some c =
    let is : c.self.inside.coming.items ≡ c.in-Some.visit ∷ c.pop_front.new.self.items = c.in-Some.ensures.items in (
      c.self.invariant.0,
      omega (arith, c.self.invariant.1, ap length is),
      (first_ready _ _ c.in-Some.visit _ _ is c.self.invariant.2).0,
      (let none : c.self.inside.present ≡ None = ap (λ (w : MemWireState). w.present) c.self.view_is ∙ c.requires in
          omega (arith, c.self.invariant.3, ap (λ p. length (option_to_list p)) none)),
    )

pub returns-else-is_again-clause-begins : goal.returns-else-is_again-clause-begins
returns-else-is_again-clause-begins c =
    let is : c.self.inside.coming.items ≡ c.in-Some.visit ∷ c.pop_front.new.self.items = c.in-Some.ensures.items in
    begins_first_now _ c.args.self.now c.self.inside.coming.items c.pop_front.new.self.items c.in-Some.visit
    c.self.view_is refl is (first_ready _ _ c.in-Some.visit _ _ is c.self.invariant.2).1 false
    (sym c.if-is_again.false ∙ c.is_below-is_again.ensures)
