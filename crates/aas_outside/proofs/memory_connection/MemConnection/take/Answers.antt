use Rattle.std.proofs.Common.{◌≡◌, ◌-◌, ◌≤◌, length, take, drop, List, ℕ, sym, ◌∙◌, ap, arith, length-drop}
use Rattle.std.proofs.lemmas.List.{take_rest}
use Rattle.aas_outside.specs.MemConnection.{MemConnectionState}
use Rattle.aas_outside.proofs.Taken.{taken}
use Rattle.aas_outside.proofs.memory_connection.MemConnection.take.Goals as goal

pub returns-clause-front : goal.returns-clause-front
returns-clause-front c =
    let at = c.self.inside.taken in
    let n = c.min-count.result in
    let input = c.self.inside.input.items in
    let copied = c.copy_from_slice.new.self in
    let rest : take (length c.deref.result.now - at) (drop at c.deref.result.now) ≡ drop at input =
    take_rest c.deref.result.now at ∙ ap (λ (l : List ℕ). drop at l) c.deref.ensures.value in
    let is : copied ≡ take n (drop at input) = c.copy_from_slice.ensures.after ∙ ap (λ (l : List ℕ). take n l) rest in
    let fits : n ≤ length input - at = omega (arith, c.min-count.ensures, ap length rest, length-drop at input) in
    let left : c.args.self.now.left ≡ drop at input = sym (ap (λ (s : MemConnectionState). s.left) c.self.view_is) in
    left ∙ taken input c.args.buf.now copied at n is fits
