use Rattle.std.proofs.Common.{false, sym, ap, ◌∙◌}
use Rattle.aas_path_trees.proofs.Removed.{removed_among-none}
use Rattle.aas_path.proofs.removal.remove.Goals as goal

pub returns-in-None-clause-same : goal.returns-in-None-clause-same
returns-in-None-clause-same c =
    ap (λ ks. record c.args.submodel.now { kids = ks }) (c.in-None.ensures.rest ∙ removed_among-none c.unwrap.result.1.now false c.unwrap.result.0.now c.args.submodel.now.kids (sym c.in-None.ensures.found))
