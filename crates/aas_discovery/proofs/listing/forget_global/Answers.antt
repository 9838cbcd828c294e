use Rattle.std.proofs.Common.{refl}
use Rattle.aas_discovery.proofs.Listed.{global_forgotten}
use Rattle.aas_discovery.proofs.listing.forget_global.Goals as goal

pub returns-in-Some : goal.returns-in-Some
returns-in-Some c =
    global_forgotten c.args.index.now c.remove.new.index _ c.as_str.result.now c.args.id.now c.args.own.now
    c.in-Some.value refl c.as_str.ensures.bytes c.in-Some.is c.remove.ensures
