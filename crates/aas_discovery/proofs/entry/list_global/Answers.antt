use Rattle.std.proofs.Common.{refl}
use Rattle.aas_discovery.proofs.Listed.{global_pushed}
use Rattle.aas_discovery.proofs.entry.list_global.Goals as goal

pub returns-in_ok-copy-in-Some-2 : goal.returns-in_ok-copy-in-Some-2
returns-in_ok-copy-in-Some-2 c =
    global_pushed c.push.result c.args.entries.now c.push.new.self
    (record {
      name = c.in_ok-from_str-in-Some.field-0;
      value = c.in_ok-copy-in-Some.field-0;
      id =
          c.in_ok-copy-in-Some-2.field-0;
    })
    _ c.in-Some.value c.args.id.now c.args.own.now
    c.in_ok-from_str-in-Some.ensures.bytes refl c.in_ok-copy-in-Some.ensures c.in_ok-copy-in-Some-2.ensures c.in-Some.is
    c.push.ensures.ok
