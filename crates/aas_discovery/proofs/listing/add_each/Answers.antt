use Rattle.std.proofs.Common.{sym, subst}
use Rattle.aas_discovery.specs.Entries.{IsGrown}
use Rattle.aas_discovery.specs.Index.{Index}
use Rattle.aas_discovery.proofs.Listed.{grown_by}
use Rattle.aas_discovery.proofs.listing.add_each.Goals as goal

pub returns-in_err-add-clause-grown : goal.returns-in_err-add-clause-grown
returns-in_err-add-clause-grown c =
    let l = c.loop-entry in
    subst (λ (m : Index). IsGrown c.args.index.now c.args.entries.now m) (sym c.in_err-add.ensures.err)
    (grown_by c.args.index.now l.index c.args.entries.now l.entry-index l.invariant)
