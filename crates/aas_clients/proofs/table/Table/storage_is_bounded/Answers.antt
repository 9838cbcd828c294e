use Rattle.std.proofs.Common.{arith}
use Rattle.aas_clients.proofs.Places.{storage_at-le}
use Rattle.aas_clients.proofs.table.Table.storage_is_bounded.Goals as goal

pub returns : goal.returns
returns g c =
    let self = c.args.self.now in
    omega (arith, storage_at-le self.places.items, self.few_large, self.few_open, self.few)
