use Rattle.std.proofs.Common.{◌≡◌, ◌++◌, ℕ, List, true, false, drop, refl, sym, ap, ◌∙◌, subst, arith, rules}
use Rattle.std.proofs.lemmas.Grind.{common_steps}
use Rattle.aas_http.specs.FirstRequest.{IsBlank, Bad, TooLarge, NotImplemented, Whole, IsFirstRequest}
use Rattle.aas_http.specs.Steps.{message_of}
use Rattle.aas_http.proofs.FirstLaws.{blank_first, unfinished}
use Rattle.aas_out.specs.Held.{held_by}
use Rattle.aas_out.proofs.Putting.{nothing_held}
use Rattle.aas_outside.proofs.Turns.{passes_none, passes_on}
use Rattle.aas_outside.specs.Faults.{Rose}
use Rattle.aas_session.specs.Intake.{ReceivesMore}
use Rattle.aas_session.specs.Refusals.{bad_request, too_large, not_implemented}
use Rattle.aas_session.specs.declared.connection.Ended.TheVariants as ended
use Rattle.aas_session.specs.Session.{commands}
use Rattle.aas_session.proofs.SoFar.{begun, received, settled, link_failed, nothing_more, refuses, refuses_rest, serves}
use Rattle.aas_session.proofs.SoFar.{serves_last, serves_on, served_at, served_weaker, more_than_one}
use Rattle.aas_session.proofs.connection.serve_connection.Goals as goal

pub requests-init : goal.requests-init
requests-init g c = let M = g.M.Machine in let L = g.L.Link in record {
  so_far = λ input records told settled_before.
      let out = c.new-out.result in
      begun (M.rule (M.state c.args.machine.now).room) M.stands_for records input
      (M.state c.args.machine.now).held (L.state c.args.link.now).sent settled_before
      (L.state out.link.now).sent (held_by out) (L.state out.link.now).left c.clear.new.self.unread
      (ap (λ (l : g.row.L.Denot). (L.state l).sent) c.new-out.ensures.link) (nothing_held out c.new-out.ensures.empty) c.clear.ensures
      (ap (λ (l : g.row.L.Denot). (L.state l).left) c.new-out.ensures.link ∙ told);
  same_reference = refl;
  room = refl;
  past = passes_none (M.state c.args.machine.now).held.moment (M.state c.args.machine.now).held.left_at;
  stopped = c.requires;
  calm_keeper = refl;
  later_link = omega (arith, ap (λ (l : g.row.L.Denot). (L.state l).faults) c.new-out.ensures.link);
  surroundings = ap (λ (l : g.row.L.Denot). (L.state l).surroundings) c.new-out.ensures.link;
  some = omega arith;
}

pub requests-preserved-in-Ok-true : goal.requests-preserved-in-Ok-true
requests-preserved-in-Ok-true g c =
    let L = g.L.Link in
    let old = c.requests.out in
    let new = c.give_and_receive.new.out in
    let r : ReceivesMore c.requests.intake.unread c.give_and_receive.new.intake.unread
    (L.state old.link.now).left (L.state new.link.now).left true = search rules in
    let e = c.give_and_receive.ensures in
    record {
      so_far = λ input records told settled_before.
          received _ _ _ _ _ _ _ _ _ _ _ _ (c.requests.invariant.so_far input records told settled_before)
          (L.state new.link.now).sent (held_by new) e.put e.given
          c.give_and_receive.new.intake.unread (L.state new.link.now).left r.0;
      same_reference = e.same_reference ∙ c.requests.invariant.same_reference;
      room = c.requests.invariant.room;
      past = c.requests.invariant.past;
      stopped = c.requests.invariant.stopped;
      calm_keeper = c.requests.invariant.calm_keeper;
      later_link = omega (arith, c.requests.invariant.later_link, e.cause.later);
      surroundings = e.surroundings ∙ c.requests.invariant.surroundings;
      some = c.requests.invariant.some;
    }

pub returns-then-is_blank-clause-served : goal.returns-then-is_blank-clause-served
returns-then-is_blank-clause-served g c = λ records settled_before input told.
    let L = g.L.Link in
    let new = c.give_and_receive.new.out in
    let unread = c.give_and_receive.new.intake.unread in
    let e = c.give_and_receive.ensures in
    let r : ReceivesMore c.requests.intake.unread unread (L.state c.requests.out.link.now).left (L.state new.link.now).left false =
    search rules in
    let S = received _ _ _ _ _ _ _ _ _ _ _ _ (c.requests.invariant.so_far input records told settled_before)
    (L.state new.link.now).sent (held_by new) e.put e.given unread (L.state new.link.now).left r.0 in
    let blank : IsBlank unread =
    subst (λ (l : List ℕ). IsBlank l) c.unread-in-Ok-false.ensures (c.is_blank.ensures.0 c.if-is_blank.true) in
    served_at L.state (L.state c.args.link.now).faults _ _ _ _ _ _ _ ended.Closed _ new.link.now
    (grind (arith, common_steps))
    (nothing_more _ _ _ _ _ _ _ _ _ _ _ _ S
    (nothing_held new c.in-Ok-false.ensures.empty) r.1 (blank_first unread blank))

pub returns-in-Ok-false-clause-served : goal.returns-in-Ok-false-clause-served
returns-in-Ok-false-clause-served g c = λ records settled_before input told.
    let L = g.L.Link in
    let new = c.give_and_receive.new.out in
    let unread = c.give_and_receive.new.intake.unread in
    let e = c.give_and_receive.ensures in
    let r : ReceivesMore c.requests.intake.unread unread (L.state c.requests.out.link.now).left (L.state new.link.now).left false =
    search rules in
    let S = received _ _ _ _ _ _ _ _ _ _ _ _ (c.requests.invariant.so_far input records told settled_before)
    (L.state new.link.now).sent (held_by new) e.put e.given unread (L.state new.link.now).left r.0 in
    let some : ¬ (IsBlank unread) = λ blank.
    let yes : c.is_blank.result ≡ true =
    c.is_blank.ensures.1 (subst (λ (l : List ℕ). IsBlank l) (sym c.unread-in-Ok-false.ensures) blank) in
    cc in
    served_at L.state (L.state c.args.link.now).faults _ _ _ _ _ _
    _ c.close_with.result _ c.close_with.new.out.link.now (grind (arith, common_steps))
    (refuses_rest _ _ _ _ _ _ _ _ _ _ _ _ S r.1 (unfinished unread some r.2) c.bad_request.result.now
    c.bad_request.ensures _ _ c.close_with.result c.close_with.ensures.closed)

pub returns-in-Err-clause-served : goal.returns-in-Err-clause-served
returns-in-Err-clause-served g c = λ records settled_before input told.
    let L = g.L.Link in
    let new = c.give_and_receive.new.out in
    served_at L.state (L.state c.args.link.now).faults _ _ _ _ _ _ _ ended.LinkFault _ new.link.now
    (grind (arith, common_steps))
    (link_failed _ _ _ _ _ _ _ _ _ _ _ _ (c.requests.invariant.so_far input records told settled_before)
    (L.state new.link.now).sent (held_by new) c.give_and_receive.ensures.put c.give_and_receive.ensures.given)

pub returns-in-Bad-clause-served : goal.returns-in-Bad-clause-served
returns-in-Bad-clause-served g c = λ records settled_before input told.
    let L = g.L.Link in
    let S = c.requests.invariant.so_far input records told settled_before in
    let is : IsFirstRequest (c.requests.intake.unread ++ S.rest) Bad =
    subst (λ (l : List ℕ). IsFirstRequest (l ++ S.rest) Bad) c.unread.ensures (c.in-Bad.ensures S.rest) in
    let last = c.close_with-in-Bad in
    served_at L.state (L.state c.args.link.now).faults _ _ _ _ _ _ _ last.result _ last.new.out.link.now
    (grind (arith, common_steps))
    (refuses _ _ _ _ _ _ _ _ _ _ _ _ S bad_request c.bad_request-in-Bad.result.now Bad is
    (refl, refl) _ _ last.result c.bad_request-in-Bad.ensures last.ensures.closed)

pub returns-in-TooLarge-clause-served : goal.returns-in-TooLarge-clause-served
returns-in-TooLarge-clause-served g c = λ records settled_before input told.
    let L = g.L.Link in
    let S = c.requests.invariant.so_far input records told settled_before in
    let is : IsFirstRequest (c.requests.intake.unread ++ S.rest) TooLarge =
    subst (λ (l : List ℕ). IsFirstRequest (l ++ S.rest) TooLarge) c.unread.ensures (c.in-TooLarge.ensures S.rest) in
    let last = c.close_with-in-TooLarge in
    served_at L.state (L.state c.args.link.now).faults _ _ _ _ _ _ _ last.result _ last.new.out.link.now
    (grind (arith, common_steps))
    (refuses _ _ _ _ _ _ _ _ _ _ _ _ S too_large c.too_large.result.now TooLarge is
    (refl, refl) _ _ last.result c.too_large.ensures last.ensures.closed)

pub returns-in-NotImplemented-clause-served : goal.returns-in-NotImplemented-clause-served
returns-in-NotImplemented-clause-served g c = λ records settled_before input told.
    let L = g.L.Link in
    let S = c.requests.invariant.so_far input records told settled_before in
    let is : IsFirstRequest (c.requests.intake.unread ++ S.rest) NotImplemented =
    subst (λ (l : List ℕ). IsFirstRequest (l ++ S.rest) NotImplemented) c.unread.ensures
    (c.in-NotImplemented.ensures S.rest) in
    let last = c.close_with-in-NotImplemented in
    served_at L.state (L.state c.args.link.now).faults _ _ _ _ _ _ _ last.result _ last.new.out.link.now
    (grind (arith, common_steps))
    (refuses _ _ _ _ _ _ _ _ _ _ _ _ S not_implemented c.not_implemented.result.now NotImplemented is
    (refl, refl) _ _ last.result c.not_implemented.ensures last.ensures.closed)

pub returns-in-Err-serve_one-clause-served : goal.returns-in-Err-serve_one-clause-served
returns-in-Err-serve_one-clause-served g c = λ records settled_before input told.
    let M = g.M.Machine in let L = g.L.Link in
    let new = c.serve_one.new.out in
    let now = (M.state c.serve_one.new.machine).held in
    let S = c.requests.invariant.so_far input records told settled_before in
    let m = message_of c.in-Request.request in
    let rest = drop c.in-Request.size c.requests.intake.unread ++ S.rest in
    let is : IsFirstRequest (c.requests.intake.unread ++ S.rest) (Whole m rest) =
    subst (λ (l : List ℕ). IsFirstRequest (l ++ S.rest) (Whole m (drop c.in-Request.size l ++ S.rest))) c.unread.ensures
    (c.in-Request.ensures.1 S.rest) in
    let F = Rose (L.state c.requests.out.link.now).faults (L.state new.link.now).faults in
    let did = c.in-Err-serve_one.ensures.served (records ++ commands S.turns) (settled _ _ _ _ _ _ _ _ _ _ _ _ S) in
    let rises : F → Rose (L.state c.args.link.now).faults (L.state new.link.now).faults = λ rose.
    omega (arith, rose, c.requests.invariant.later_link) in
    served_at L.state (L.state c.args.link.now).faults _ _ _ _ _ _ _ c.in-Err-serve_one.ended _ new.link.now
    (grind (arith, common_steps))
    (served_weaker _ _ _ _ _ _ _ _ _ _ rises c.in-Err-serve_one.ended
    (serves _ _ _ _ _ _ _ _ _ _ _ _ S now c.serve_one.ensures.goes_on.past m rest is
    (L.state new.link.now).sent (held_by new) F (M.rule (M.state c.requests.machine).room)
    (λ i. M.rule (c.requests.invariant.room i)) _ refl c.in-Err-serve_one.ended did))

pub returns-then-close-clause-served : goal.returns-then-close-clause-served
returns-then-close-clause-served g c = λ records settled_before input told.
    let M = g.M.Machine in let L = g.L.Link in
    let new = c.serve_one.new.out in
    let now = (M.state c.serve_one.new.machine).held in
    let S = c.requests.invariant.so_far input records told settled_before in
    let m = message_of c.in-Request.request in
    let rest = drop c.in-Request.size c.requests.intake.unread ++ S.rest in
    let is : IsFirstRequest (c.requests.intake.unread ++ S.rest) (Whole m rest) =
    subst (λ (l : List ℕ). IsFirstRequest (l ++ S.rest) (Whole m (drop c.in-Request.size l ++ S.rest))) c.unread.ensures
    (c.in-Request.ensures.1 S.rest) in
    let F = Rose (L.state c.requests.out.link.now).faults (L.state new.link.now).faults in
    let did = c.in-Ok.ensures.served (records ++ commands S.turns) (settled _ _ _ _ _ _ _ _ _ _ _ _ S) in
    let last = c.close_with-then-close in
    served_at L.state (L.state c.args.link.now).faults _ _ _ _ _ _ _ last.result _ last.new.out.link.now
    (grind (arith, common_steps))
    (serves_last _ _ _ _ _ _ _ _ _ _ _ _ S now c.serve_one.ensures.goes_on.past m rest is (L.state new.link.now).sent (held_by new) F
    (M.rule (M.state c.requests.machine).room) (λ i. M.rule (c.requests.invariant.room i)) _ refl did c.if-close.true
    (L.state last.new.out.link.now).sent _ last.result last.ensures.closed)

pub requests-preserved : goal.requests-preserved
requests-preserved g c =
    let M = g.M.Machine in let L = g.L.Link in
    record {
      so_far = λ input records told settled_before.
          let new = c.serve_one.new.out in
          let now = (M.state c.serve_one.new.machine).held in
          let S = c.requests.invariant.so_far input records told settled_before in
          let m = message_of c.in-Request.request in
          let rest = drop c.in-Request.size c.requests.intake.unread ++ S.rest in
          let is : IsFirstRequest (c.requests.intake.unread ++ S.rest) (Whole m rest) =
          subst (λ (l : List ℕ). IsFirstRequest (l ++ S.rest) (Whole m (drop c.in-Request.size l ++ S.rest)))
          c.unread.ensures (c.in-Request.ensures.1 S.rest) in
          let F = Rose (L.state c.requests.out.link.now).faults (L.state new.link.now).faults in
          let did = c.in-Ok.ensures.served (records ++ commands S.turns) (settled _ _ _ _ _ _ _ _ _ _ _ _ S) in
          let behind : rest ≡ c.skip.new.self.unread ++ S.rest =
          ap (λ (l : List ℕ). l ++ S.rest) {x = drop c.in-Request.size c.requests.intake.unread} (sym c.skip.ensures) in
          serves_on _ _ _ _ _ _ _ _ _ _ _ _ S now c.serve_one.ensures.goes_on.past m rest is (L.state new.link.now).sent (held_by new)
          F (M.rule (M.state c.requests.machine).room) (λ i. M.rule (c.requests.invariant.room i)) _ refl did c.if-close.false
          c.skip.new.self.unread (L.state new.link.now).left behind c.serve_one.ensures.link.left;
      same_reference = c.serve_one.ensures.same_reference ∙ c.requests.invariant.same_reference;
      room = c.serve_one.ensures.goes_on.room ∙ c.requests.invariant.room;
      past = passes_on _ _ _ _ _ _ c.requests.invariant.past c.serve_one.ensures.goes_on.past;
      stopped = search rules;
      calm_keeper = c.serve_one.ensures.goes_on.calm (search rules) ∙ c.requests.invariant.calm_keeper;
      later_link = omega (arith, c.requests.invariant.later_link, c.serve_one.ensures.link.calls.later);
      surroundings = c.serve_one.ensures.link.calls.surroundings ∙ c.requests.invariant.surroundings;
      some = more_than_one c.in-Request.request.close c.requests.requests c.requests.invariant.some c.if-close.false;
    }
