use Rattle.std.proofs.Common.{length, ap, ◌∙◌, arith}
use Rattle.aas_store.specs.Spots.{elements_of_all}
use Rattle.aas_store.proofs.Listed.{as_many_of_all}
use Rattle.aas_store.proofs.reads.element_count.Goals as goal

pub unreachable-requires : goal.unreachable-requires
unreachable-requires c =
    let all = ap (λ ks. length (elements_of_all ks)) c.as_slice.ensures ∙ as_many_of_all c.args.submodel.now.kids in
    omega (arith, all, c.in-None.ensures, c.requires)

pub returns : goal.returns
returns c =
    let all = ap (λ ks. length (elements_of_all ks)) c.as_slice.ensures ∙ as_many_of_all c.args.submodel.now.kids in
    omega (arith, all, c.in-Some.ensures)
