use Rattle.std.proofs.Common.{◌≡◌, ◌≢◌, ◌≤◌, ◌⊎◌, inl, inr, Ok, rules, arith}
use Rattle.aas_outside.specs.Faults.{Rose}
use Rattle.aas_outside.specs.Surroundings.{open_visits}
use Rattle.aas_outside.specs.declared.visit.NextVisit.TheVariants.{New, Again}
use Rattle.aas_session.specs.declared.connection.Ended.TheVariants as ended
use Rattle.aas_session.specs.declared.wire.Next.TheVariants as next
use Rattle.aas_session.proofs.Progress.{next_served, did_visit}
use Rattle.aas_session.proofs.wire.serve_next.Goals.{in-Ok-New, in-Ok-Again}
use Rattle.aas_session.proofs.wire.serve_next.Goals as goal

pub returns-in-Closed-clause-served : goal.returns-in-Closed-clause-served
returns-in-Closed-clause-served g c = λ records settled k s told sent.
    let W = g.W.Link in
    let end = c.serve_connection.result in
    let link = c.serve_connection.ensures.link in
    let way : ((c.next.result ≡ Ok New) × (c.match-next-2.served ≡ next.Begun))
    ⊎ ((c.next.result ≡ Ok Again) × (c.match-next-2.served ≡ next.Again)) =
    elim c.match-next-2.branch [
      | in-Ok-New w ↦ inl (search rules, w.served-is)
      | in-Ok-Again w ↦ inr (search rules, w.served-is)
    ] in
    let later : (W.state c.args.wire.now).faults ≤ (W.state c.serve_connection.new.link).faults =
    omega (arith, link.later, c.next.ensures.call.faults) in
    let lives : end ≢ ended.KeeperFault = λ is. grind (arith, is, c.in-Closed.is) in
    let failed : end ≡ ended.LinkFault
    → Rose (W.state c.args.wire.now).faults (W.state c.serve_connection.new.link).faults = λ is.
    omega (arith, link.rose is, c.next.ensures.call.faults) in
    next_served _ _ _ c.args.may_begin k s _ _ _ _ _ _ _
    (λ v rest clients first B. did_visit _ _ _ k s (open_visits c.args.may_begin k) clients _ _ _ _ _
    (W.state c.args.wire.now).faults (W.state c.serve_connection.new.link).faults later v rest first B
    (λ i. (link.surroundings i).connections) _ end lives failed
    (c.serve_connection.ensures.served records settled v.input B.left))
    _ c.next.result c.match-next-2.served told sent c.next.ensures.begins way
