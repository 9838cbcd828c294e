use Rattle.std.proofs.Common.{length, take, refl, ap}
use Rattle.std.proofs.lemmas.List.{take_all}
use Rattle.std.proofs.lemmas.Option.{slice_get_read}
use Rattle.serde_json.specs.Written.{compact_text}
use Rattle.aas_out.proofs.Adding.{adds_nothing, adds_same}
use Rattle.aas_answer.proofs.Entries.{entry_added}
use Rattle.aas_answer.proofs.Pages.{joined}
use Rattle.aas_answer.proofs.page_text.pour_listed.Goals as goal

pub loop-place-init : goal.loop-place-init
loop-place-init g c = adds_nothing c.args.so_far (g.O.Out.told c.args.out.now)

pub loop-place-preserved : goal.loop-place-preserved
loop-place-preserved g c =
    let trees = c.args.trees.now in
    let place = c.loop-place.place in
    entry_added (λ tree. compact_text (g.P.Poured.spell tree))
    trees place c.index-trees-place.result c.comma_of.result.now
    c.args.so_far c.loop-place.state c.add_text-comma.result c.pour-state.result
    (g.O.Out.told c.args.out.now) (g.O.Out.told c.loop-place.out)
    (g.O.Out.told c.add_text-comma.new.out) (g.O.Out.told c.pour-state.new.out)
    (slice_get_read trees
    (length trees) place c.index-trees-place.result refl c.loop-place-test.true c.index-trees-place.is)
    c.loop-place.invariant c.comma_of.ensures c.add_text-comma.ensures c.pour-state.ensures

pub returns : goal.returns
returns g c =
    let trees = c.args.trees.now in
    adds_same c.args.so_far c.loop-place.state (g.O.Out.told c.args.out.now) (g.O.Out.told c.loop-place.out)
    (joined (λ tree. compact_text (g.P.Poured.spell tree)) (take c.loop-place.place trees))
    (joined (λ tree. compact_text (g.P.Poured.spell tree)) trees)
    c.loop-place.invariant
    (ap (joined (λ tree. compact_text (g.P.Poured.spell tree)))
    (take_all c.loop-place.place trees c.loop-place-test.false))
