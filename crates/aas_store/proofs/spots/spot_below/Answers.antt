use Rattle.std.proofs.Common.{arith, length, sym, ap, ◌∙◌}
use Rattle.aas_store.specs.Spots.{elements_of_all, spot_below, step_of}
use Rattle.aas_store.proofs.Listed.{as_many_of_all, size_out, nothing_behind}
use Rattle.aas_store.proofs.spots.spot_below.Goals as goal

pub spot_among-requires : goal.spot_among-requires
spot_among-requires c =
    let all = ap (λ ks. length (elements_of_all ks)) c.as_slice-kids.ensures ∙ as_many_of_all c.args.submodel.now.kids in
    omega (arith, all, c.requires)

pub overflow_add-rank : goal.overflow_add-rank
overflow_add-rank c =
    let all = ap (λ ks. length (elements_of_all ks)) c.as_slice-kids.ensures ∙ as_many_of_all c.args.submodel.now.kids in
    let found = c.in-Ok.ensures in
    omega (arith, all, found.1, c.requires)

pub spot_among-requires-in-Ok : goal.spot_among-requires-in-Ok
spot_among-requires-in-Ok c =
    let all = ap (λ ks. length (elements_of_all ks)) c.as_slice-kids.ensures ∙ as_many_of_all c.args.submodel.now.kids in
    let found = c.in-Ok.ensures in
    let size = size_out c.in-Ok.element.now c.as_slice.result.now c.as_slice.ensures in
    omega (arith, all, found.1, size, c.requires)

pub returns-in-Err : goal.returns-in-Err
returns-in-Err c =
    nothing_behind c.args.submodel.now c.as_slice-kids.result.now c.in-Some.rank c.in-Err.field-0 (step_of c.args.step) c.as_slice-kids.ensures c.in-Err.ensures
    ∙ sym (ap (λ parent. spot_below c.args.submodel.now parent (step_of c.args.step)) c.in-Some.is)
