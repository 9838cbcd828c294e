use Rattle.std.proofs.Common.{arith}
use Rattle.aas_clients.proofs.Tables.{put_push, put_set}
use Rattle.aas_clients.proofs.table.put.Goals as goal

pub returns-then-number-len-clause-some : goal.returns-then-number-len-clause-some
returns-then-number-len-clause-some g c =
    let places = c.args.places.now in
    put_set c.as_slice.result.now places.items c.next_place_of.result c.in_ok-number.number
    c.args.client c.as_slice.ensures.value c.next_place_of.ensures c.in_ok-number.was
    (omega (arith, c.if-number-len.true, c.len.ensures, places.ok.0)) c.requires

pub returns-clause-some : goal.returns-clause-some
returns-clause-some g c =
    let places = c.args.places.now in
    put_push c.as_slice.result.now places.items c.push.new.self.items c.next_place_of.result
    c.in_ok-number.number c.args.client c.as_slice.ensures.value c.next_place_of.ensures c.in_ok-number.was
    (omega (arith, c.if-number-len.false, c.len.ensures, places.ok.0)) c.in-Ok.ensures.items
