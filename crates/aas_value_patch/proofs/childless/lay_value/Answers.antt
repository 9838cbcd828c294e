use Rattle.std.proofs.Common.{[]}
use Rattle.aas_value_patch.proofs.childless.lay_value.Goals as goal

pub returns-in_ok-patch_of-in-Ok-clause-patch : goal.returns-in_ok-patch_of-in-Ok-clause-patch
returns-in_ok-patch_of-in-Ok-clause-patch c = record {
  payload = c.in-Ok.step.payload;
  row = c.in_ok-patch_of-in-Ok.ensures;
  fits = λ xs. (c.in-Ok.ensures xs c.requires.ordered).fits;
  takes = (c.in-Ok.ensures [] c.requires.ordered).takes;
}
