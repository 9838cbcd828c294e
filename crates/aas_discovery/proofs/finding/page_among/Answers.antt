use Rattle.std.proofs.Common.{length, refl, sym, ◌∙◌, arith}
use Rattle.std.proofs.lemmas.Option.{slice_get_read}
use Rattle.aas_discovery.specs.Finding.{has_all}
use Rattle.aas_discovery.proofs.Paged.{page_ends}
use Rattle.aas_discovery.proofs.finding.page_among.Goals as goal

pub returns-then-len-limit : goal.returns-then-len-limit
returns-then-len-limit g c =
    let ids = c.args.ids.now in
    let i = c.loop-id.id-index in
    page_ends (has_all (g.S.Store.documents c.args.store.now).shells c.args.wanted.now) ids c.args.limit i
    c.id-item.result c.loop-id.listed
    (slice_get_read ids (length ids) i c.id-item.result refl c.loop-id-test.true c.id-item.is)
    c.loop-id.invariant.so_far
    (sym c.has_all.ensures ∙ c.if-has_all.true) (omega arith)
