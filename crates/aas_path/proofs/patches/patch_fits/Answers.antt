use Rattle.aas_path_trees.specs.Patched.{kinds}
use Rattle.aas_path.proofs.FitWalk.{fits_if_walked}
use Rattle.aas_path.proofs.patches.patch_fits.Goals as goal

pub returns : goal.returns
returns c = fits_if_walked (kinds c.args.element.now) c.args.patch.now.rows c.as_slice-rows.result.now _ _ c.ends.result c.as_slice-rows.ensures c.at_start.ensures c.meet_one.ensures c.ends.ensures
