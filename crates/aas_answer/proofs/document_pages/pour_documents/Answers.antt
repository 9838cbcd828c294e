use Rattle.std.proofs.Common.{List, ℕ, length, refl, ap}
use Rattle.std.specs.Str.{encode_utf8_all}
use Rattle.std.proofs.lemmas.Option.{slice_get_read}
use Rattle.aas_out.proofs.Adding.{adds_nothing, adds_same}
use Rattle.aas_answer.specs.Listed.{document_text}
use Rattle.aas_answer.proofs.Entries.{entry_added}
use Rattle.aas_answer.proofs.document_pages.pour_documents.Goals as goal

pub loop-place-init : goal.loop-place-init
loop-place-init g c = adds_nothing c.args.so_far (g.O.Out.told c.args.out.now)

pub loop-place-preserved : goal.loop-place-preserved
loop-place-preserved g c =
    let d = g.S.Store.documents c.args.store.now in
    let ids = c.args.ids.now in
    let place = c.loop-place.place in
    let told = g.O.Out.told c.pour_told.new.out in
    let behind = g.O.Out.told c.add_text-comma.new.out in
    entry_added (λ id. document_text c.args.form (encode_utf8_all id) d) ids place c.index-ids-place.result
    c.comma_of.result.now c.args.so_far c.loop-place.state c.add_text-comma.result c.in_ok-state.state
    (g.O.Out.told c.args.out.now) (g.O.Out.told c.loop-place.out) behind told
    (slice_get_read ids (length ids) place c.index-ids-place.result refl c.loop-place-test.true c.index-ids-place.is)
    c.loop-place.invariant c.comma_of.ensures c.add_text-comma.ensures
    (adds_same c.add_text-comma.result c.in_ok-state.state behind told (document_text c.args.form c.as_str.result.now d)
    (document_text c.args.form (encode_utf8_all c.index-ids-place.result) d) c.in_ok-state.ensures
    (ap (λ (id : List ℕ). document_text c.args.form id d) c.as_str.ensures.bytes))
