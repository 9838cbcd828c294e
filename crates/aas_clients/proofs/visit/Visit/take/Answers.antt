use Rattle.std.proofs.Common.{◌≡◌, ◌-◌, ◌≤◌, length, take, drop, List, ℕ, ◌∙◌, ap, arith, length-drop}
use Rattle.std.proofs.lemmas.List.{take_rest}
use Rattle.aas_clients.proofs.Kept.{taken_front}
use Rattle.aas_clients.proofs.visit.Visit.take.Goals as goal

pub returns-clause-front : goal.returns-clause-front
returns-clause-front c =
    let at = c.args.self.now.at in
    let n = c.min-count.result in
    let input = c.args.self.now.handed.bytes.items in
    let bytes = c.as_slice-bytes.result.now in
    let copied = c.copy_from_slice.new.self in
    let rest : take (length bytes - at) (drop at bytes) ≡ drop at input =
    take_rest bytes at ∙ ap (λ (l : List ℕ). drop at l) c.as_slice-bytes.ensures.value in
    let is : copied ≡ take n (drop at input) = c.copy_from_slice.ensures.after ∙ ap (λ (l : List ℕ). take n l) rest in
    let fits : n ≤ length input - at = omega (arith, c.min-count.ensures, ap length rest, length-drop at input) in
    taken_front input c.args.buf.now copied at n is fits
