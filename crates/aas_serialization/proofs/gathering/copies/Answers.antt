use Rattle.std.proofs.Common.{sym}
use Rattle.std.specs.Option.{option_copied}
use Rattle.aas_serialization.proofs.Walked.{copying_begun, copying_ended, copying_next, fewer_left}
use Rattle.aas_serialization.proofs.gathering.copies.Goals as goal

pub loop-id-init : goal.loop-id-init
loop-id-init g c = copying_begun (g.D.Stored.kept_in (g.S.Store.documents c.args.store.now)) c.args.ids.now c.new-documents.result c.new-documents.ensures

pub loop-id-smaller : goal.loop-id-smaller
loop-id-smaller g c = fewer_left c.args.ids.now (option_copied c.loop-id.after) c.in-Some.id.now (sym c.in-Some.ensures)

pub loop-id-preserved : goal.loop-id-preserved
loop-id-preserved g c =
    copying_next (g.D.Stored.kept_in (g.S.Store.documents c.args.store.now)) c.args.ids.now c.loop-id.documents c.add_copy.new.documents (option_copied c.loop-id.after) c.in-Some.id.now
    (sym c.in-Some.ensures) c.in_ok-add_copy.ensures c.loop-id.invariant

pub returns : goal.returns
returns g c = copying_ended (g.D.Stored.kept_in (g.S.Store.documents c.args.store.now)) c.args.ids.now c.loop-id.documents (option_copied c.loop-id.after) (sym c.in_default.ensures) c.loop-id.invariant
