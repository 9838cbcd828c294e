use Rattle.std.proofs.Common.{◌≡◌, [], ap, sym, subst, arith}
use Rattle.std.proofs.lemmas.Grind.{common_steps}
use Rattle.std.specs.Io.KnownBytes.{append_known}
use Rattle.std.specs.Prelude.{OnOk}
use Rattle.aas_out.specs.Held.{held_by}
use Rattle.aas_out.proofs.Giving.{front_by_flush, front_by_put, given_by_flush, gives_at}
use Rattle.aas_out.proofs.Putting.{nothing_held}
use Rattle.aas_out.proofs.texts.give_poured.Goals as goal

pub returns-in_err-pour-clause-front : goal.returns-in_err-pour-clause-front
returns-in_err-pour-clause-front g c =
    let same : c.in_err-pour.link-1-own.given.0 ≡ c.pour.new.out.link.now = grind (arith, common_steps) in
    let front = c.in_err-pour.ensures in
    gives_at c.from_residual.result (λ (l : g.row.L.Denot). (g.L.Link.state l).sent) _ _ _ _ same
    (front_by_put _ _ _ _ (held_by c.pour.new.out) _
    (ap (λ (l : g.row.L.Denot). (g.L.Link.state l).sent) c.new-out.ensures.link)
    (nothing_held c.new-out.result c.new-out.ensures.empty)
    front.front front.rest front.parts front.wrote.sent front.wrote.gone)

pub returns-clause-given : goal.returns-clause-given
returns-clause-given g c =
    let same : c.link-2-1.given.0 ≡ c.flush.new.self.link.now = grind (arith, common_steps) in
    let began : held_by c.new-out.result ≡ [] = nothing_held c.new-out.result c.new-out.ensures.empty in
    subst (λ (l : g.row.L.Denot). OnOk c.flush.result
    ((g.L.Link.state l).sent ≡ append_known (g.L.Link.state c.args.link.now).sent (g.P.Pour.text c.args.text.now)))
    (sym same)
    (given_by_flush c.flush.result (g.L.Link.state c.args.link.now).sent (g.L.Link.state c.new-out.result.link.now).sent
    (g.L.Link.state c.pour.new.out.link.now).sent (g.L.Link.state c.flush.new.self.link.now).sent
    (held_by c.new-out.result) (held_by c.pour.new.out) c.flush.new.self (g.P.Pour.text c.args.text.now)
    (ap (λ (l : g.row.L.Denot). (g.L.Link.state l).sent) c.new-out.ensures.link) began
    c.in_ok-pour.ensures.sent c.flush.ensures.sent c.flush.ensures.empty)

pub returns-clause-front : goal.returns-clause-front
returns-clause-front g c =
    let same : c.link-2-1.given.0 ≡ c.flush.new.self.link.now = grind (arith, common_steps) in
    let poured = c.in_ok-pour.ensures in
    gives_at c.flush.result (λ (l : g.row.L.Denot). (g.L.Link.state l).sent) _ _ _ _ same
    (front_by_flush _ _ _ _ _ _ _ _ (ap (λ (l : g.row.L.Denot). (g.L.Link.state l).sent) c.new-out.ensures.link)
    (nothing_held c.new-out.result c.new-out.ensures.empty) poured.sent poured.gone c.flush.ensures.sent
    c.flush.ensures.more)
