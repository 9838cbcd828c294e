use Rattle.std.proofs.Common.{◌≡◌, ◌⊎◌, inl, inr, ◌+◌, ◌++◌, ⊎_elim, refl, rules, arith, ◌∙◌}
use Rattle.std.proofs.lemmas.Bool.{le-ltb, cases_lt}
use Rattle.aas_outside.proofs.Turns.{passes_none, passes_on}
use Rattle.aas_session.specs.Visits.{all_commands}
use Rattle.aas_session.specs.declared.wire.Next.TheVariants as next
use Rattle.aas_session.specs.declared.wire.WireEnded.TheVariants as ended
use Rattle.aas_session.proofs.Progress.{all_counted, begins, none_more, one_more, settled}
use Rattle.aas_session.proofs.wire.serve.Goals.{in-Begun, in-Again}
use Rattle.aas_session.proofs.wire.serve.Goals as goal

pub visits-init : goal.visits-init
visits-init g c = let M = g.M.Machine in let W = g.W.Link in record {
  progress = λ k s records told sent settled_before.
      begins _ M.stands_for records (M.state c.args.machine.now).held _ _
      (W.state c.args.wire.now).faults c.args.count k s told sent settled_before;
  within = omega arith;
  few = omega arith;
  room = refl;
  past = passes_none (M.state c.args.machine.now).held.moment (M.state c.args.machine.now).held.left_at;
  stopped = c.requires;
  calm_keeper = refl;
  later_wire = omega arith;
}

pub returns-in-Ended-clause-served : goal.returns-in-Ended-clause-served
returns-in-Ended-clause-served g c = λ records settled_before k s told sent.
    let M = g.M.Machine in
    let P = c.visits.invariant.progress k s records told sent settled_before in
    none_more _ _ _ _ _ _ _ _ _ _ _ _ _ _ P c.visits.invariant.within
    (M.state c.serve_next.new.machine).held c.serve_next.ensures.goes_on.past (g.W.Link.state c.serve_next.new.wire)
    (M.rule (M.state c.visits.machine).room) (λ i. M.rule (c.visits.invariant.room i)) c.in-Ended.ended
    (c.in-Ended.ensures.served (records ++ all_commands P.served)
    (settled _ _ _ _ _ _ _ _ _ _ _ _ _ _ P) P.surroundings P.here P.told P.told_here)

pub visits-preserved : goal.visits-preserved
visits-preserved g c =
    let M = g.M.Machine in
    let old = c.visits.invariant in
    let step = c.serve_next.ensures in
    let way : ((c.serve_next.result ≡ next.Begun) × (c.match-serve_next.begun ≡ c.visits.begun + 1))
    ⊎ ((c.serve_next.result ≡ next.Again) × (c.match-serve_next.begun ≡ c.visits.begun)) =
    elim c.match-serve_next.branch [
      | in-Begun w ↦ inl (search rules, w.begun-is)
      | in-Again w ↦ inr (search rules, w.begun-is)
    ] in
    let lives : ¬ (c.serve_next.result ≡ next.Ended ended.KeeperFault) = λ is.
    ⊎_elim (λ new. grind (arith, is, new.0)) (λ again. grind (arith, is, again.0)) way in
    record {
      progress = λ k s records told sent settled_before.
          let P = old.progress k s records told sent settled_before in
          one_more _ _ _ _ _ _ _ _ _ _ _ _ _ _ P old.within (M.state c.serve_next.new.machine).held step.goes_on.past
          (g.W.Link.state c.serve_next.new.wire) (M.rule (M.state c.visits.machine).room) (λ i. M.rule (old.room i))
          c.serve_next.result c.match-serve_next.begun way
          (step.served (records ++ all_commands P.served)
          (settled _ _ _ _ _ _ _ _ _ _ _ _ _ _ P) P.surroundings P.here P.told P.told_here);
      within = ⊎_elim
          (λ new. ⊎_elim (λ low. omega (arith, low, new.1))
          (λ high. absurd (step.asked (le-ltb c.visits.begun c.args.count high) new.0))
          (cases_lt c.visits.begun c.args.count))
          (λ again. omega (arith, again.1, old.within)) way;
      few = ⊎_elim (λ new. omega (arith, new.1, old.few, step.one))
          (λ again. omega (arith, again.1, old.few, step.again again.0)) way;
      room = step.goes_on.room ∙ old.room;
      past = passes_on _ _ _ _ _ _ old.past step.goes_on.past;
      stopped = step.goes_on.stopped lives;
      calm_keeper = step.goes_on.calm lives ∙ old.calm_keeper;
      later_wire = omega (arith, old.later_wire, step.later_wire);
    }

pub returns-clause-served : goal.returns-clause-served
returns-clause-served g c = λ records settled_before k s told sent.
    all_counted _ _ _ _ _ _ _ _ _ _ _ _ _ _
    (c.visits.invariant.progress k s records told sent settled_before) (omega (arith, c.visits-test.false))
