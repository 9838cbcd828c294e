use Rattle.std.proofs.Common.{length, unwrap_or, ◌∙◌, ap}
use Rattle.aas_path_trees.specs.ElementAt.{place_of}
use Rattle.aas_path.proofs.Lenders.{one_step}
use Rattle.aas_path.proofs.lending.OneDown.lend.Goals as goal

pub returns : goal.returns
returns c =
    let a = c.args in
    let place = c.place_or_end-place.ensures ∙ ap (λ ks. unwrap_or (place_of a.in_list a.step.now ks) (length ks)) c.as_slice.ensures in
    let h = one_step a.in_list a.step.now a._path.now a.kids.now c.kid_mut.result _ c.requires place c.kid_mut.ensures.value in
    (h.0, record { writes_back = tt; value = h.1 })
