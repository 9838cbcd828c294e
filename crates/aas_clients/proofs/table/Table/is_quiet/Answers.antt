use Rattle.std.proofs.Common.{◌≡◌, Some, slice_get, arith}
use Rattle.aas_clients.proofs.Places.{at_place}
use Rattle.aas_clients.proofs.Tables.{quiet_there, quiet_within}
use Rattle.aas_clients.proofs.table.Table.is_quiet.Goals as goal

pub returns-then-number-len-clause-not_quiet : goal.returns-then-number-len-clause-not_quiet
returns-then-number-len-clause-not_quiet g c = λ no quiet.
    let self = c.args.self.now in
    omega (
      arith,
      quiet_within self.places.items c.args.number quiet,
      c.if-number-len.true,
      c.len.ensures,
      self.places.ok.0,
    )

pub returns-clause-quiet : goal.returns-clause-quiet
returns-clause-quiet g c = λ is.
    let self = c.args.self.now in
    let place = c.index.result.now in
    let there : slice_get self.places.items c.args.number ≡ Some place =
    at_place self.places.items c.args.number _ place self.places.ok.0
    (omega (arith, c.if-number-len.false, c.len.ensures)) c.index.ensures in
    (place, there, c.is_quiet.ensures.quiet is)

pub returns-clause-not_quiet : goal.returns-clause-not_quiet
returns-clause-not_quiet g c = λ no quiet.
    let self = c.args.self.now in
    let place = c.index.result.now in
    let there : slice_get self.places.items c.args.number ≡ Some place =
    at_place self.places.items c.args.number _ place self.places.ok.0
    (omega (arith, c.if-number-len.false, c.len.ensures)) c.index.ensures in
    c.is_quiet.ensures.not_quiet no (quiet_there self.places.items c.args.number place there quiet)
