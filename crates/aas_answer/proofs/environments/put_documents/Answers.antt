use Rattle.std.proofs.Common.{sym}
use Rattle.std.specs.Option.{option_copied}
use Rattle.aas_answer.specs.Arrays.{name_of}
use Rattle.aas_serialization.proofs.Walked.{fewer_left}
use Rattle.aas_answer.proofs.Arrays.{listed_begun, listed_ended, listed_next}
use Rattle.aas_answer.proofs.environments.put_documents.Goals as goal

pub loop-id-init : goal.loop-id-init
loop-id-init g c =
    listed_begun c.args.collection (g.S.Store.documents c.args.store.now) c.args.ids.now c.args.pen.later
    (name_of c.args.collection) c.args.pen.state (g.O.Out.told c.args.out.now)

pub loop-id-smaller : goal.loop-id-smaller
loop-id-smaller g c = fewer_left c.args.ids.now (option_copied c.loop-id.after) c.in-Some.id.now (sym c.in-Some.ensures)

pub loop-id-preserved : goal.loop-id-preserved
loop-id-preserved g c =
    listed_next c.args.collection (g.S.Store.documents c.args.store.now) c.args.ids.now c.args.pen.later
    (name_of c.args.collection) c.args.pen.state (g.O.Out.told c.args.out.now)
    c.loop-id.array.state c.put_entry-array.result.state (g.O.Out.told c.loop-id.out)
    (g.O.Out.told c.put_entry-array.new.out) c.loop-id.array.any c.put_entry-array.result.any
    (option_copied c.loop-id.after) c.in-Some.id.now
    (sym c.in-Some.ensures) c.put_entry-array.ensures.text c.put_entry-array.ensures.any c.loop-id.invariant

pub returns : goal.returns
returns g c =
    listed_ended c.args.collection (g.S.Store.documents c.args.store.now) c.args.ids.now c.args.pen
    (name_of c.args.collection) c.loop-id.array.state c.end_array.result
    (g.O.Out.told c.args.out.now) (g.O.Out.told c.loop-id.out)
    (g.O.Out.told c.end_array.new.out) c.loop-id.array.any c.later_behind.result (option_copied c.loop-id.after)
    (sym c.in_default.ensures) c.end_array.ensures c.later_behind.ensures c.loop-id.invariant
