use Rattle.std.proofs.Common.{◌≡◌, ◌+◌, ◌-◌, ℕ, List, take, drop, length, Option, subst, ◌∙◌, arith}
use Rattle.std.specs.Io.KnownBytes.{append_known}
use Rattle.aas_out.proofs.Adding.{grows_both}
use Rattle.aas_out.proofs.Putting.{held_less}
use Rattle.aas_out.proofs.buffered.BufferOut.flush.Goals as goal

pub loop-self-preserved : goal.loop-self-preserved
loop-self-preserved g c =
    let old : Option (List ℕ) = (g.L.Link.state c.loop-self.self.link.now).sent in
    let new : Option (List ℕ) = (g.L.Link.state c.give.new.self).sent in
    let at : ℕ = c.loop-self.self.given in
    let n : ℕ = c.in_ok-self.field-0 in
    let bytes : List ℕ = c.as_slice.result.now in record {
      same_reference = c.loop-self.invariant.same_reference;
      sent =
          subst (λ (xs : List ℕ). append_known new (drop (at + n) xs) ≡ append_known old (drop at xs))
          c.as_slice.ensures.value (held_less old new at n bytes c.in_ok-self.ensures.given.appended)
          ∙ c.loop-self.invariant.sent;
      more = grows_both _ old new c.loop-self.invariant.more (
        take n (take (length bytes - at) (drop at bytes)),
        c.in_ok-self.ensures.given.appended,
      );
      surroundings = c.in_ok-self.ensures.call.surroundings ∙ c.loop-self.invariant.surroundings;
      left = c.in_ok-self.ensures.call.left ∙ c.loop-self.invariant.left;
      later = omega (arith, c.in_ok-self.ensures.call.cause.later, c.loop-self.invariant.later);
    }
