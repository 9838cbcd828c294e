use Rattle.std.proofs.Common.{length, take, refl, ap, ◌∙◌}
use Rattle.std.proofs.lemmas.List.{take_all}
use Rattle.std.proofs.lemmas.Option.{slice_get_read}
use Rattle.aas_out.proofs.Adding.{adds_nothing, adds_same}
use Rattle.aas_answer.specs.Plans.{entry_text}
use Rattle.aas_answer.proofs.Entries.{entry_added}
use Rattle.aas_answer.proofs.Pages.{joined}
use Rattle.aas_answer.proofs.plans.pour_entries.Goals as goal

pub loop-place-init : goal.loop-place-init
loop-place-init g c = adds_nothing c.args.so_far (g.O.Out.told c.args.out.now)

pub loop-place-preserved : goal.loop-place-preserved
loop-place-preserved g c =
    let text = entry_text (g.S.Store.documents c.args.store.now) c.args.listing.now in
    let ids = c.as_slice-id-items.result.now in
    let place = c.loop-place.place in
    entry_added text ids place c.id-item.result c.comma_of.result.now c.args.so_far
    c.loop-place.state c.add_text-comma.result c.pour_entry-state.result
    (g.O.Out.told c.args.out.now) (g.O.Out.told c.loop-place.out)
    (g.O.Out.told c.add_text-comma.new.out) (g.O.Out.told c.pour_entry-state.new.out)
    (slice_get_read ids (length ids) place c.id-item.result refl c.loop-place-test.true c.id-item.is)
    c.loop-place.invariant c.comma_of.ensures c.add_text-comma.ensures c.pour_entry-state.ensures

pub returns : goal.returns
returns g c =
    let text = entry_text (g.S.Store.documents c.args.store.now) c.args.listing.now in
    let ids = c.as_slice-id-items.result.now in
    adds_same c.args.so_far c.loop-place.state (g.O.Out.told c.args.out.now) (g.O.Out.told c.loop-place.out)
    (joined text (take c.loop-place.place ids)) (joined text c.args.listing.now.ids)
    c.loop-place.invariant
    (ap (joined text) (take_all c.loop-place.place ids c.loop-place-test.false ∙ c.as_slice-id-items.ensures))
