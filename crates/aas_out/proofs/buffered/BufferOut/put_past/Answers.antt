use Rattle.std.proofs.Common.{◌≡◌, ◌≤◌, [], ap, sym, ◌∙◌, subst, rules}
use Rattle.std.specs.Borrow.{MutBor}
use Rattle.aas_out.specs.Held.{held_by}
use Rattle.aas_out.specs.LinkTold.{LinkKept, link_kept}
use Rattle.aas_out.proofs.Putting.{emptied, flush_failed, give_is_put, kept_by, nothing_held, put_failed}
use Rattle.aas_out.proofs.buffered.BufferOut.put_past.Goals as goal

pub returns-in_err-flush : goal.returns-in_err-flush
returns-in_err-flush g c =
    let flushed = c.in_err-flush.ensures in
    put_failed c.from_residual.result _ _ c.args.bytes.now (search rules)
    (flush_failed _ _ _ _ c.args.bytes.now _ _ _ _ flushed.more.0 flushed.sent flushed.more.1 flushed.call.cause.later
    flushed.call.cause.failed (kept_by _ _ _ _ _ _ flushed.same_reference flushed.call.left flushed.call.surroundings))

pub returns : goal.returns
returns g c =
    let sent = λ (l : g.row.L.Denot). (g.L.Link.state l).sent in
    let faults = λ (l : g.row.L.Denot). (g.L.Link.state l).faults in
    let left = λ (l : g.row.L.Denot). (g.L.Link.state l).left in
    let around = λ (l : g.row.L.Denot). (g.L.Link.state l).surroundings in
    let old : MutBor g.row.L.Denot = c.args.self.now.link in
    let mid : MutBor g.row.L.Denot = c.flush.new.self.link in
    let last : MutBor g.row.L.Denot = c.hold.new.self.link in
    let here : last ≡ mid = c.hold.ensures.link in
    let none : held_by c.flush.new.self ≡ [] = nothing_held c.flush.new.self c.in_ok-flush.ensures.empty in
    let kept_now : LinkKept = link_kept last.ghost_name (left c.give_all.new.link) (around c.give_all.new.link) in
    let later : faults old.now ≤ faults last.now =
    subst (λ (l : MutBor g.row.L.Denot). faults old.now ≤ faults l.now) (sym here) c.in_ok-flush.ensures.call.cause.later in
    give_is_put c.give_all.result c.args.bytes.now (held_by c.args.self.now) (held_by c.hold.new.self) (sent old.now)
    (sent last.now) (sent c.give_all.new.link) (faults old.now) (faults last.now) (faults c.give_all.new.link)
    (link_kept old.ghost_name (left old.now) (around old.now)) kept_now
    (ap (λ (l : MutBor g.row.L.Denot). sent l.now) here
    ∙ emptied (sent old.now) (sent mid.now) (held_by c.args.self.now)
    (held_by c.flush.new.self) c.in_ok-flush.ensures.sent none)
    (c.if-hold.ensures.held ∙ none) later c.give_all.ensures.given c.give_all.ensures.front c.give_all.ensures.call.cause
    (kept_by old.ghost_name last.ghost_name (left old.now)
    (left c.give_all.new.link) (around old.now) (around c.give_all.new.link)
    (ap (λ (l : MutBor g.row.L.Denot). l.ghost_name) here ∙ c.in_ok-flush.ensures.same_reference)
    (c.give_all.ensures.call.left ∙ ap (λ (l : MutBor g.row.L.Denot). left l.now) here ∙ c.in_ok-flush.ensures.call.left)
    (c.give_all.ensures.call.surroundings ∙ ap (λ (l : MutBor g.row.L.Denot). around l.now) here
    ∙ c.in_ok-flush.ensures.call.surroundings))
