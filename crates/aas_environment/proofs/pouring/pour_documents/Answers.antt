use Rattle.std.proofs.Common.{is_some, sym, ap, ◌∙◌}
use Rattle.std.specs.Option.{option_copied}
use Rattle.serde_json.specs.Written.{comma_if}
use Rattle.aas_store.proofs.Above.{fewer_left}
use Rattle.aas_environment.proofs.Poured.{begun, ended, more}
use Rattle.aas_environment.proofs.pouring.pour_documents.Goals as goal

pub loop-id-init : goal.loop-id-init
loop-id-init g c =
    begun c.args.collection (g.S.Store.documents c.args.store.now) c.args.so_far (g.O.TextEnd.told c.args.out.now)
    c.add_text-state.result (g.O.TextEnd.told c.add_text-state.new.out) c.add_text-state.ensures

pub loop-id-smaller : goal.loop-id-smaller
loop-id-smaller g c =
    fewer_left c.args.collection (g.S.Store.documents c.args.store.now)
    (option_copied c.loop-id.after) c.in-Some.id.now (sym c.in-Some.ensures)

pub loop-id-preserved : goal.loop-id-preserved
loop-id-preserved g c =
    more c.args.collection (g.S.Store.documents c.args.store.now) c.args.so_far (g.O.TextEnd.told c.args.out.now)
    (is_some c.loop-id.after) (option_copied c.loop-id.after) c.in-Some.id.now c.comma_of.result.now
    c.loop-id.state c.add_text-comma.result c.pour_document-state.result
    (g.O.TextEnd.told c.loop-id.out) (g.O.TextEnd.told c.add_text-comma.new.out)
    (g.O.TextEnd.told c.pour_document-state.new.out)
    (sym c.in-Some.ensures) c.loop-id.invariant
    (c.comma_of.ensures ∙ ap comma_if c.is_some.ensures) c.add_text-comma.ensures c.pour_document-state.ensures

pub returns : goal.returns
returns g c =
    ended c.args.collection (g.S.Store.documents c.args.store.now) c.args.so_far (g.O.TextEnd.told c.args.out.now)
    (is_some c.loop-id.after) (option_copied c.loop-id.after) c.loop-id.state c.add_text.result
    (g.O.TextEnd.told c.loop-id.out) (g.O.TextEnd.told c.add_text.new.out)
    (sym c.in_default.ensures) c.loop-id.invariant c.add_text.ensures
