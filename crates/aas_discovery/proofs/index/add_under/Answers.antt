use Rattle.std.proofs.Common.{sym, ap, ◌∙◌}
use Rattle.std.specs.FinMap as fin
use Rattle.std.specs.Prelude.{⊤}
use Rattle.aas_store.specs.Documents.{Map}
use Rattle.std.specs.Str.{encode_utf8_all}
use Rattle.aas_discovery.proofs.Added.{more_under, new_under, same_at}
use Rattle.aas_discovery.proofs.index.add_under.Goals as goal

pub returns-in-Some-clause-ok : goal.returns-in-Some-clause-ok
returns-in-Some-clause-ok c =
    more_under c.add.result c.args.values.now c.as_str.result.now (encode_utf8_all c.args.value.now)
    (encode_utf8_all c.args.id.now) c.in-Some.ids.now c.add.new.self
    c.as_str.ensures.bytes (sym c.in-Some.ensures.value) c.add.ensures.ok

pub returns-in-Some-clause-err : goal.returns-in-Some-clause-err
returns-in-Some-clause-err c = same_at c.add.result c.args.values.now c.as_str.result.now c.in-Some.ids.now
    c.add.new.self (sym c.in-Some.ensures.value) c.add.ensures.err

pub returns-in_ok-copy-in-None-clause-ok : goal.returns-in_ok-copy-in-None-clause-ok
returns-in_ok-copy-in-None-clause-ok c =
    new_under c.put.result c.args.values.now c.put.new.self c.as_str.result.now
    (encode_utf8_all c.in_ok-copy-in-None.field-0) (encode_utf8_all c.args.value.now)
    (encode_utf8_all c.args.id.now) c.add-in-None.new.self
    c.as_str.ensures.bytes (ap encode_utf8_all c.in_ok-copy-in-None.ensures) (sym c.in-None.ensures.value)
    (c.in_ok-add-in-None.ensures.ok ∙ ap (λ (m : Map ⊤). fin.insert m (encode_utf8_all c.args.id.now) tt)
    c.new-ids.ensures) c.put.ensures.ok
