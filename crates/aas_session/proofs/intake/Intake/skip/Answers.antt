use Rattle.std.proofs.Common.{◌≡◌, List, ℕ, ◌+◌, ◌≤◌, length, drop, ap, sym, ◌∙◌, arith}
use Rattle.std.specs.List.{slice_range}
use Rattle.httparse.proofs.RunLemmas.{length-slice_range}
use Rattle.bytes.proofs.Ranges.{drop-slice_range}
use Rattle.aas_session.specs.Intake.{Received}
use Rattle.aas_session.proofs.intake.Intake.skip.Goals as goal

pub returns : goal.returns
returns c =
    let i = c.self.inside in
    let view : slice_range i.bytes.items i.start i.end ≡ c.args.self.now.unread =
    ap (λ (r : Received). r.unread) c.self.view_is in
    let size = length-slice_range i.bytes.items i.start i.end c.self.invariant.0 c.self.invariant.1 in
    let fits : i.start + c.args.count ≤ i.end = omega (arith, c.requires, ap length view, size, c.self.invariant.0) in
    sym (drop-slice_range i.bytes.items i.start i.end c.args.count fits) ∙ ap (λ (l : List ℕ). drop c.args.count l) view
