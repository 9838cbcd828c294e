use Rattle.std.proofs.Common.{arith, length, ap, ◌∙◌}
use Rattle.aas_store.specs.Spots.{elements_of_all}
use Rattle.aas_store.proofs.Listed.{as_many_of_all}
use Rattle.aas_store.proofs.reads.rank_of.Goals as goal

pub find_among-requires : goal.find_among-requires
find_among-requires c =
    let all = ap (λ ks. length (elements_of_all ks)) c.as_slice-2.ensures ∙ as_many_of_all c.args.submodel.now.kids in
    omega (arith, all, c.requires)
