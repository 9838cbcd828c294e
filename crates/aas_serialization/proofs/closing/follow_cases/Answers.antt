use Rattle.std.proofs.Common.{◌-◌, refl, ap, take, ◌∙◌}
use Rattle.aas_serialization.proofs.Closings.{closing_ended, closing_on, less_left}
use Rattle.aas_serialization.proofs.closing.follow_cases.Goals as goal

pub loop-id-smaller : goal.loop-id-smaller
loop-id-smaller g c =
    less_left (g.S.Store.documents c.args.store.now) c.loop-id.taken (record c.loop-id.taken { waiting = c.pop.new.self }) c.take_cases.new.taken c.in-Some.id c.as_str.result.now refl
    c.in-Some.ensures.items c.in_ok-take_cases.ensures

pub loop-id-preserved : goal.loop-id-preserved
loop-id-preserved g c = λ roots closing.
    closing_on (g.S.Store.documents c.args.store.now) roots c.loop-id.taken (record c.loop-id.taken { waiting = c.pop.new.self }) c.take_cases.new.taken c.in-Some.id c.as_str.result.now refl
    c.in-Some.ensures.items c.as_str.ensures.bytes c.in_ok-take_cases.ensures (c.loop-id.invariant roots closing)

pub returns : goal.returns
returns g c = λ roots closing.
    closing_ended (g.S.Store.documents c.args.store.now) roots c.loop-id.taken c.pop.new.self.items c.in_default.ensures.items
    (c.in_default.ensures.rest ∙ ap (λ n. take (n - 1) c.loop-id.taken.waiting.items) c.in_default.ensures.cases.0) (c.loop-id.invariant roots closing)
