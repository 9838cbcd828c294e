use Rattle.std.proofs.Common.{ℕ, List, Option, ◌++◌, refl, subst}
use Rattle.std.proofs.lemmas.Result.{on_err_weaker}
use Rattle.aas_outside.specs.Link.{GivesFront}
use Rattle.aas_out.specs.Held.{held_by}
use Rattle.aas_out.proofs.Putting.{emptied, nothing_held, on_err}
use Rattle.aas_session.proofs.Fronts.{front_put, front_behind}
use Rattle.aas_session.proofs.connection.give_last.Goals as goal

pub returns-in_err-flush-clause-front : goal.returns-in_err-flush-clause-front
returns-in_err-flush-clause-front g c =
    let old = c.args.out.now in
    let new = c.flush.new.self in
    on_err c.from_residual.result
    (front_put (g.L.Link.state old.link.now).sent (held_by new) (g.L.Link.state new.link.now).sent
    (held_by old) c.args.text.now (held_by old ++ c.args.text.now) refl c.flush.ensures.sent c.flush.ensures.more)

pub returns-clause-front : goal.returns-clause-front
returns-clause-front g c =
    let sent = λ (l : g.row.L.Denot). (g.L.Link.state l).sent in
    let old = c.args.out.now in
    let mid = c.flush.new.self in
    let flushed = emptied (sent old.link.now) (sent mid.link.now) (held_by old)
    (held_by mid) c.flush.ensures.sent (nothing_held mid c.in_ok-flush.ensures.empty) in
    on_err_weaker c.give_all.result
    (λ front. front_behind (sent old.link.now) (held_by old) (sent c.give_all.new.link) c.args.text.now
    (subst (λ (k : Option (List ℕ)). GivesFront k (sent c.give_all.new.link) c.args.text.now) flushed front))
    c.give_all.ensures.front
