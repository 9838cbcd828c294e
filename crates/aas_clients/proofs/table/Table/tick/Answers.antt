use Rattle.std.proofs.Common.{◌<◌, ℕ, Bool, length, ap, subst, ◌∙◌, arith}
use Rattle.aas_clients.specs.Places.{AreInTime}
use Rattle.aas_clients.proofs.Places.{keeps_both}
use Rattle.aas_clients.proofs.Tables.{in_time_step, only_from_step, quiet_step}
use Rattle.aas_clients.proofs.table.Table.tick.Goals as goal
use Rattle.aas_clients.proofs.table.Table.tick.Goals.{After-loop-number}

pub loop-number-preserved : goal.loop-number-preserved
loop-number-preserved g c =
    let before = c.loop-number.invariant in
    let T = c.ticks.ensures in
    let n = c.loop-number.number in
    let now = c.ticks.new.self.places.items in
    record {
      keeps = keeps_both _ _ _ _ _ _ before.keeps T.keeps;
      present = T.present ∙ before.present;
      since = T.since ∙ before.since;
      quiet = λ not_over. quiet_step _ _ now n (before.quiet not_over) before.later T.only (T.quiet not_over);
      later = only_from_step _ _ now n before.later T.only;
      in_time = in_time_step _ now n c.args.now _ before.in_time T.only T.in_time;
    }

-- the loop has come to each place
seen : (g : _) (c : After-loop-number g) (k : ℕ)
    → k < length c.loop-number.self.places.items → k < c.loop-number.number
seen g c k below = omega (
  arith,
  below,
  c.loop-number.invariant.keeps.size,
  c.loop-number-test.false,
  c.len-number-end.ensures,
  c.is_over-is_over.new.self.places.ok.0,
  ap length (ap (λ v. v.items) c.is_over-is_over.ensures.places.0),
)

pub returns-clause-in_time : goal.returns-clause-in_time
returns-clause-in_time g c = λ k below.
    let now = c.loop-number.self.places.items in
    let before = c.loop-number.invariant in
    let in_time = subst (λ (b : Bool). AreInTime now c.loop-number.number b c.args.now)
    c.is_over-is_over.ensures.over before.in_time in
    in_time k (seen g (goal.at.returns-clause-in_time g c).After-loop-number k below)

pub returns-clause-quiet : goal.returns-clause-quiet
returns-clause-quiet g c = λ not_over k below.
    c.loop-number.invariant.quiet (c.is_over-is_over.ensures.over ∙ not_over) k
    (seen g (goal.at.returns-clause-quiet g c).After-loop-number k below)
