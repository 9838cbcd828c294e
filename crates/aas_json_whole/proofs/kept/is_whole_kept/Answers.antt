use Rattle.std.proofs.Common.{◌∙◌}
use Rattle.aas_json_whole.proofs.KeptData.{kept_level}
use Rattle.aas_json_whole.proofs.kept.is_whole_kept.Goals as goal

pub returns : goal.returns
returns c = c.are_whole_plains.ensures ∙ kept_level c.args.plains.now
