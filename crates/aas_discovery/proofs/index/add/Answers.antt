use Rattle.std.proofs.Common.{sym, ap}
use Rattle.std.specs.Str.{encode_utf8_all}
use Rattle.aas_discovery.proofs.Added.{more_named, new_named, same_at}
use Rattle.aas_discovery.proofs.index.add.Goals as goal

pub returns-in-Some-clause-ok : goal.returns-in-Some-clause-ok
returns-in-Some-clause-ok c =
    more_named c.add_under.result c.args.index.now c.as_str.result.now (encode_utf8_all c.args.name.now)
    (encode_utf8_all c.args.value.now) (encode_utf8_all c.args.id.now) c.in-Some.values.now c.add_under.new.values
    c.as_str.ensures.bytes (sym c.in-Some.ensures.value) c.add_under.ensures.ok

pub returns-in-Some-clause-err : goal.returns-in-Some-clause-err
returns-in-Some-clause-err c = same_at c.add_under.result c.args.index.now c.as_str.result.now c.in-Some.values.now
    c.add_under.new.values (sym c.in-Some.ensures.value) c.add_under.ensures.err

pub returns-in_ok-copy-in-None-clause-ok : goal.returns-in_ok-copy-in-None-clause-ok
returns-in_ok-copy-in-None-clause-ok c =
    new_named c.put.result c.args.index.now c.put.new.self c.as_str.result.now
    (encode_utf8_all c.in_ok-copy-in-None.field-0) (encode_utf8_all c.args.name.now)
    (encode_utf8_all c.args.value.now) (encode_utf8_all c.args.id.now)
    c.new-values.result c.add_under-in-None.new.values
    c.as_str.ensures.bytes (ap encode_utf8_all c.in_ok-copy-in-None.ensures) (sym c.in-None.ensures.value)
    c.new-values.ensures c.in_ok-add_under-in-None.ensures.ok c.put.ensures.ok
