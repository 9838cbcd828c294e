use Rattle.std.proofs.Common.{ap, ◌∙◌}
use Rattle.aas_path.specs.Walk.{left_of, met_all}
use Rattle.aas_path_trees.specs.Patched.{kinds_of_all}
use Rattle.aas_path.proofs.FitWalk.{fits_if_walked}
use Rattle.aas_path.proofs.patches.patch_fits_all.Goals as goal

pub returns : goal.returns
returns c =
    let rows = c.as_slice-rows.result.now in
    fits_if_walked (kinds_of_all c.args.submodel.now.kids) c.args.patch.now.rows rows _ _ c.ends.result c.as_slice-rows.ensures c.at_start.ensures
    (c.meet_all.ensures ∙ ap (λ ks. met_all (kinds_of_all ks) (left_of rows c.at_start.result)) c.as_slice.ensures) c.ends.ensures
