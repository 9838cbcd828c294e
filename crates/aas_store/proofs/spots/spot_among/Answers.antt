use Rattle.std.proofs.Common.{arith, refl, sym}
use Rattle.std.proofs.lemmas.Option.{slice_get_read}
use Rattle.aas_store.specs.Spots.{step_of}
use Rattle.aas_store.proofs.Listed.{size_front, spotted}
use Rattle.aas_store.proofs.spots.spot_among.Goals as goal

pub returns-in_err-behind_all : goal.returns-in_err-behind_all
returns-in_err-behind_all c =
    let fewer = size_front c.args.kids.now c.in_ok-place.place in
    let more = c.in_err-behind_all.ensures in
    absurd (omega (arith, fewer, more, c.requires))

pub returns : goal.returns
returns c =
    let place = c.in_ok-place.ensures in
    let kid = sym (slice_get_read c.args.kids.now _ c.in_ok-place.place c.in_ok-kid.kid.now refl c.in_ok-kid.ensures.lookup.3.0 c.in_ok-kid.ensures.lookup.1) in
    let rank = c.in_ok-behind_all.ensures in
    let kind = c.kind.ensures in
    spotted c.args.in_list c.args.kids.now c.args.first (step_of c.args.step) c.in_ok-place.place c.in_ok-kid.kid.now c.in_ok-behind_all.field-0 c.kind.result place kid rank kind
