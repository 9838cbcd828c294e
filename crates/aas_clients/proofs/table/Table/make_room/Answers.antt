use Rattle.std.proofs.Common.{◌≡◌, inr, arith}
use Rattle.aas_clients.specs.Places.{IsLongestIdle, open_count}
use Rattle.aas_clients.proofs.Tables.{room_parted, room_same}
use Rattle.aas_clients.proofs.table.Table.make_room.Goals as goal

pub returns-in-Some-clause-ended : goal.returns-in-Some-clause-ended
returns-in-Some-clause-ended g c =
    let self = c.args.self.now in
    let full : open_count self.places.items ≡ 500 =
    omega (arith, c.if-open-lt-OPEN_CLIENTS.false, c.open.ensures, self.few_open) in
    inr (record {
      number = c.in-Some.number;
      full = full;
      longest = rw (← c.as_slice.ensures.value) c.in-Some.ensures.longest;
      closed = c.meets.ensures.done;
      only = c.meets.ensures.only;
    })

pub returns-in-Some-clause-room : goal.returns-in-Some-clause-room
returns-in-Some-clause-room g c = λ is_true.
    let self = c.args.self.now in
    let places = self.places.items in
    let longest : IsLongestIdle places c.in-Some.number = rw (← c.as_slice.ensures.value) c.in-Some.ensures.longest in
    let M = c.meets.ensures in
    room_parted places c.meets.new.self.places.items c.in-Some.number self.next c.meets.new.self.next
    c.next_place.result c.is_none.result c.next_place.ensures c.is_none.ensures c.if-is_none.false
    M.keeps M.only M.counted M.done longest self.few_open

pub returns-then-open-lt-OPEN_CLIENTS-clause-room : goal.returns-then-open-lt-OPEN_CLIENTS-clause-room
returns-then-open-lt-OPEN_CLIENTS-clause-room g c = λ is_true.
    room_same c.args.self.now.places.items c.next_place.result c.is_none.result c.next_place.ensures
    c.is_none.ensures c.if-is_none.false (omega (arith, c.if-open-lt-OPEN_CLIENTS.true, c.open.ensures))
