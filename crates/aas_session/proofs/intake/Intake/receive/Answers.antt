use Rattle.std.proofs.Common.{◌≡◌, ◌<◌, ◌++◌, List, ℕ, length, take, ap, ◌∙◌, arith, rules}
use Rattle.std.specs.List.{slice_range}
use Rattle.std.proofs.lemmas.Grind.{common_steps}
use Rattle.aas_outside.specs.Link.{TakesCount}
use Rattle.aas_session.proofs.Receiving.{receives_taken}
use Rattle.aas_session.proofs.Windows.{grown}
use Rattle.aas_session.specs.Intake.{Received}
use Rattle.aas_session.proofs.intake.Intake.receive.Goals as goal

pub returns-clause-received : goal.returns-clause-received
returns-clause-received g c =
    let i = c.self.inside in
    let view : slice_range i.bytes.items i.start i.end ≡ c.args.self.now.unread =
    ap (λ (r : Received). r.unread) c.self.view_is ∙ c.make_room.ensures.same in
    let taken : TakesCount (g.L.Link.state c.args.link.now).left
    (g.L.Link.state c.take.new.self).left c.take.new.buf c.in_ok-count.count = c.in_ok-count.ensures.taken in
    let room : 0 < length c.take.new.buf = search rules in
    receives_taken c.args.self.now.unread _ c.take.new.buf
    (g.L.Link.state c.args.link.now).left (g.L.Link.state c.take.new.self).left c.in_ok-count.count
    (grown i.bytes.items c.deref_mut.result.now c.take.new.buf _ i.start i.end i.bytes.len c.self.invariant.0
    (search rules) c.deref_mut.ensures.value (grind (arith, common_steps)) c.in_ok-count.count taken.within
    ∙ ap (λ (l : List ℕ). l ++ take c.in_ok-count.count c.take.new.buf) view) taken room
