use Rattle.std.proofs.Common.{sym, ◌∙◌}
use Rattle.std.specs.Str.{encode_utf8_all}
use Rattle.aas_discovery.specs.Index.{carried}
use Rattle.aas_discovery.proofs.Listed.{taken_out, unsettled}
use Rattle.aas_discovery.proofs.listing.settle_one.Goals as goal

pub returns-then-is_carried : goal.returns-then-is_carried
returns-then-is_carried g c =
    let e = c.args.entry.now in
    unsettled c.args.index.now e (carried (g.S.Store.documents c.args.store.now).shells (encode_utf8_all e.name)
    (encode_utf8_all e.value) (encode_utf8_all e.id))
    (sym c.is_carried.ensures ∙ c.if-is_carried.true)

pub returns : goal.returns
returns g c =
    let e = c.args.entry.now in
    taken_out c.args.index.now c.remove.new.index e c.as_str.result.now c.as_str-2.result.now c.as_str-3.result.now
    (carried (g.S.Store.documents c.args.store.now).shells (encode_utf8_all e.name) (encode_utf8_all e.value)
    (encode_utf8_all e.id))
    c.as_str.ensures.bytes c.as_str-2.ensures.bytes c.as_str-3.ensures.bytes
    (sym c.is_carried.ensures ∙ c.if-is_carried.false) c.remove.ensures
